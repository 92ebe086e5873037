use Rattle.std.proofs.Common.{◌≡◌, ◌+◌, drop, refl, sym, ap, subst, rules}
use Rattle.std.proofs.Common.{Option}
use Rattle.std.proofs.lemmas.Bool.{and_parts}
use Rattle.std.specs.Prelude.{IfOk}
use Rattle.std.proofs.lemmas.List.{at_drop_all}
use Rattle.sv_flat.specs.Assigned.{assigns, can_assign, always_assigns}
use Rattle.sv_flat.specs.Design.{assign}
use Rattle.sv_flat.specs.Readings.{readings, either}
use Rattle.sv_flat.specs.Views.{design_of, typed_tree, flat_statement, flat_statements, chain_of}
use Rattle.sv_flat.specs.declared.statements.FStmt.{the_lemmas}
use Rattle.sv_flat.proofs.NumberedRuns.{no_branch}
use Rattle.sv_graph.specs.declared.bit_sets.BitSet.{BitSet}
use Rattle.sv_rules.specs.declared.found.Found.{Found}
use Rattle.sv_graph.specs.BitSets.{in_bits}
use Rattle.sv_rules.specs.Pieces.{piece_forms}
use Rattle.sv_rules.specs.Phases.{SameBits, FindsReads}
use Rattle.sv_rules.specs.Surroundings.{in_surrounding}
use Rattle.sv_rules.proofs.ArmFacts.{arms_begin, arms_more, arms_end}
use Rattle.sv_rules.proofs.Passes.{sound_at, only_pieces, forward_begin, forward_more}
use Rattle.sv_rules.proofs.Passes.{forward_end}
use Rattle.sv_rules.proofs.Sound.{branch_is, sound_as, sound_arm, sound_block, block_is}
use Rattle.sv_rules.proofs.Sound.{next_statement}
use Rattle.sv_rules.proofs.blocks.+forward.Goals as goal

pub forward-wrong_in-requires-clause-formed : goal.forward-wrong_in-requires-clause-formed
forward-wrong_in-requires-clause-formed t c =
    (and_parts _ _ (and_parts _ _
    (sound_as (design_of c.args.flat.now).signals c.in-If.is c.loop-rest.invariant.0.is_sound)).0).0

pub forward-forward-requires : goal.forward-forward-requires
forward-forward-requires t c =
    let signals = (design_of c.args.flat.now).signals in (
      search (rules, the_lemmas),
      (
        c.requires.sound,
        sound_arm signals c.loop-rest.rest.now c.deref.result.now (ap flat_statement c.in-If.is)
            c.deref.ensures c.loop-rest.invariant.0.is_sound,
      ),
    )

pub forward-loop-rest-init : goal.forward-loop-rest-init
forward-loop-rest-init t c = (
  arms_begin (design_of c.args.flat.now).signals c.args.targets.now (in_surrounding c.args.assigned.now)
      (flat_statement c.args.stmt.now) c.requires.stmt,
  search (rules, the_lemmas),
)

pub forward-loop-rest-preserved : goal.forward-loop-rest-preserved
forward-loop-rest-preserved t c =
    let signals = (design_of c.args.flat.now).signals in
    let first = c.deref.result.now in
    let second = c.deref-rest.result.now in
    let is = branch_is c.loop-rest.rest.now first second (ap flat_statement c.in-If.is)
    c.deref.ensures c.deref-rest.ensures in (
      arms_more signals c.args.targets.now (in_surrounding c.args.assigned.now)
          (flat_statement c.args.stmt.now) (flat_statement c.loop-rest.rest.now)
          (flat_statement first) (flat_statement second) c.in-If.place (typed_tree c.in-If.cond)
          c.loop-rest.common c.in_ok-in_yes.by_yes c.in_ok-more.more c.loop-rest.found
          c.in_ok-in_cond.in_cond c.in_ok-in_yes.in_yes c.first_of-in_arm.result
          c.first_of-found.result is c.in_ok-in_cond.ensures c.in_ok-in_yes.ensures.0
          c.in_ok-in_yes.ensures.1 c.in_ok-more.ensures c.first_of-in_arm.ensures
          c.first_of-found.ensures c.loop-rest.invariant.0,
      search (rules, the_lemmas),
    )

pub forward-forward_plain-requires : goal.forward-forward_plain-requires
forward-forward_plain-requires t c = (
  search (rules, the_lemmas),
  (
    no_branch c.loop-rest.rest.now c.in_default.not-If,
    (c.requires.sound, c.loop-rest.invariant.0.is_sound),
  ),
)

pub forward-returns : goal.forward-returns
forward-returns t c =
    arms_end (design_of c.args.flat.now).signals c.args.targets.now (in_surrounding c.args.assigned.now)
    (flat_statement c.args.stmt.now) (flat_statement c.loop-rest.rest.now) c.loop-rest.common
    c.in_ok-in_last.by_last c.in_ok-always.always c.loop-rest.found c.in_ok-in_last.in_last
    c.first_of.result c.in_ok-in_last.ensures.0 c.in_ok-in_last.ensures.1 c.in_ok-always.ensures
    c.first_of.ensures c.loop-rest.invariant.0

pub forward_plain-wrong_in-requires-clause-formed : goal.forward_plain-wrong_in-requires-clause-formed
forward_plain-wrong_in-requires-clause-formed t c =
    (and_parts _ _
    (sound_as (design_of c.args.flat.now).signals c.in-Assign.is c.requires.stmt)).0

pub forward_plain-forward_all-requires : goal.forward_plain-forward_all-requires
forward_plain-forward_all-requires t c =
    let signals = (design_of c.args.flat.now).signals in (
      search (rules, the_lemmas),
      (
        c.requires.sound,
        sound_block signals _ c.in-Block.stmts _ c.in-Block.is c.deref-in-Block.ensures.value
            c.requires.stmt,
      ),
    )

pub forward_plain-returns-in-Block : goal.forward_plain-returns-in-Block
forward_plain-returns-in-Block t c =
    let signals = (design_of c.args.flat.now).signals in
    subst (λ b. IfOk c.forward_all.result (λ (both : Option Found × BitSet).
    FindsReads signals c.args.targets.now (in_surrounding c.args.assigned.now)
    (readings signals b) both.0 × SameBits (in_bits both.1) (always_assigns b)))
    (sym (block_is _ c.in-Block.stmts _ c.in-Block.is c.deref-in-Block.ensures.value))
    c.forward_all.ensures

pub forward_all-loop-stmt-init : goal.forward_all-loop-stmt-init
forward_all-loop-stmt-init t c =
    forward_begin (design_of c.args.flat.now).signals c.args.targets.now (in_surrounding c.args.assigned.now)
    (chain_of (flat_statements c.args.stmts.now))
    c.new-here.result c.new-here.ensures

pub forward_all-forward-requires : goal.forward_all-forward-requires
forward_all-forward-requires t c = (
  search (rules, the_lemmas),
  (
    c.requires.sound,
    sound_at (design_of c.args.flat.now).signals c.args.stmts.now c.loop-stmt.stmt-index
        c.stmt-item.result c.loop-stmt-test.true c.stmt-item.is c.requires.stmts,
  ),
)

pub forward_all-loop-stmt-preserved : goal.forward_all-loop-stmt-preserved
forward_all-loop-stmt-preserved t c =
    let stmts = c.args.stmts.now in
    let i = c.loop-stmt.stmt-index in
    forward_more (design_of c.args.flat.now).signals c.args.targets.now (in_surrounding c.args.assigned.now) _
    _ (chain_of (flat_statements stmts))
    (chain_of (flat_statements (drop i stmts))) (flat_statement c.stmt-item.result)
    (chain_of (flat_statements (drop (i + 1) stmts)))
    c.in_ok-other.bits c.add_all.new.self c.loop-stmt.found c.in_ok-other.other
    c.first_of-found.result
    (next_statement stmts i c.stmt-item.result c.loop-stmt-test.true c.stmt-item.is)
    (λ s b. refl) c.in_ok-other.ensures.0 c.in_ok-other.ensures.1 c.in_ok-add_all.ensures
    c.first_of-found.ensures c.loop-stmt.invariant

pub forward_all-returns : goal.forward_all-returns
forward_all-returns t c =
    let stmts = c.args.stmts.now in
    let i = c.loop-stmt.stmt-index in
    forward_end (design_of c.args.flat.now).signals c.args.targets.now (in_surrounding c.args.assigned.now)
    (chain_of (flat_statements stmts))
    (chain_of (flat_statements (drop i stmts))) c.loop-stmt.here c.loop-stmt.found
    (at_drop_all (λ ss. chain_of (flat_statements ss)) stmts i c.loop-stmt-test.false)
    c.loop-stmt.invariant

pub forward_plain-returns-in_ok-add_pieces-in-Assign : goal.forward_plain-returns-in_ok-add_pieces-in-Assign
forward_plain-returns-in_ok-add_pieces-in-Assign t c =
    let signals = (design_of c.args.flat.now).signals in
    let pieces = piece_forms c.in-Assign.pieces.items in
    let whole = assign pieces c.in-Assign.place c.in-Assign.blocking
    (typed_tree c.in-Assign.value) in
    let is : flat_statement c.args.stmt.now ≡ whole = ap flat_statement c.in-Assign.is in
    subst (λ b. FindsReads signals c.args.targets.now (in_surrounding c.args.assigned.now)
    (readings signals b) c.in_ok-found-in-Assign.found
    × SameBits (in_bits c.add_pieces.new.set) (always_assigns b)) (sym is) (
      λ body a f asks same.
          c.in_ok-found-in-Assign.ensures (assigns whole) body a (either (can_assign whole) f)
          asks same,
      only_pieces c.new-bits.result c.add_pieces.new.set _ _ c.deref.ensures.value
          c.new-bits.ensures c.in_ok-add_pieces-in-Assign.ensures,
    )
