use Rattle.std.proofs.Common.{◌≡◌, ℕ, ◌||◌, ◌+◌, drop, refl, sym, ap, subst, rules}
use Rattle.std.proofs.lemmas.Bool.{and_parts}
use Rattle.std.proofs.lemmas.List.{at_drop_all}
use Rattle.std.specs.List.{list_any}
use Rattle.std.specs.Prelude.{IsTrue, OnOk}
use Rattle.sv_flat.specs.Assigned.{can_assign, has_bit}
use Rattle.sv_flat.specs.Design.{assign}
use Rattle.sv_flat.specs.Soundness.{statement_sound}
use Rattle.sv_flat.specs.Views.{design_of, typed_tree, flat_statement, flat_statements, chain_of}
use Rattle.sv_flat.specs.declared.statements.FStmt.{the_lemmas}
use Rattle.sv_flat.proofs.NumberedRuns.{no_branch}
use Rattle.sv_graph.specs.BitSets.{in_bits}
use Rattle.sv_rules.specs.Pieces.{piece_forms}
use Rattle.sv_rules.specs.Phases.{AddsAssigned}
use Rattle.sv_rules.proofs.Passes.{sound_at, assigned_more, assigned_rest, assigned_end}
use Rattle.sv_rules.proofs.Sound.{branch_is, sound_arm, sound_block, block_is, next_statement}
use Rattle.sv_rules.proofs.blocks.+add_assigned.Goals as goal

pub add_assigned-loop-rest-init : goal.add_assigned-loop-rest-init
add_assigned-loop-rest-init t c = (λ s b. refl, c.requires.stmt, search (rules, the_lemmas))

pub add_assigned-add_assigned-requires : goal.add_assigned-add_assigned-requires
add_assigned-add_assigned-requires t c =
    let signals = (design_of c.args.flat.now).signals in (
      search (rules, the_lemmas),
      (
        c.requires.sound,
        sound_arm signals c.loop-rest.rest.now c.deref.result.now (ap flat_statement c.in-If.is)
            c.deref.ensures c.loop-rest.invariant.1,
      ),
    )

pub add_assigned-loop-rest-preserved : goal.add_assigned-loop-rest-preserved
add_assigned-loop-rest-preserved t c =
    let signals = (design_of c.args.flat.now).signals in
    let first = c.deref.result.now in
    let second = c.deref-rest.result.now in
    let is = branch_is c.loop-rest.rest.now first second (ap flat_statement c.in-If.is)
    c.deref.ensures c.deref-rest.ensures in (
      assigned_more c.args.bits.now c.loop-rest.bits c.add_assigned.new.bits
          (flat_statement c.args.stmt.now) (flat_statement c.loop-rest.rest.now)
          (flat_statement first) (flat_statement second) (λ s b. ap (λ z. can_assign z s b) is)
          c.in_ok-add_assigned.ensures c.loop-rest.invariant.0,
      (and_parts _ _ (subst (λ z. IsTrue (statement_sound signals z)) is
          c.loop-rest.invariant.1)).1,
      search (rules, the_lemmas),
    )

pub add_assigned-add_assigned_plain-requires : goal.add_assigned-add_assigned_plain-requires
add_assigned-add_assigned_plain-requires t c = (
  search (rules, the_lemmas),
  (
    no_branch c.loop-rest.rest.now c.in_default.not-If,
    (c.requires.sound, c.loop-rest.invariant.1),
  ),
)

pub add_assigned-returns : goal.add_assigned-returns
add_assigned-returns t c =
    assigned_rest c.args.bits.now c.loop-rest.bits c.add_assigned_plain.new.bits
    (flat_statement c.args.stmt.now) (flat_statement c.loop-rest.rest.now)
    c.in_ok-add_assigned_plain.ensures c.loop-rest.invariant.0

pub add_assigned_plain-returns-in-Assign : goal.add_assigned_plain-returns-in-Assign
add_assigned_plain-returns-in-Assign t c =
    let whole = assign (piece_forms c.in-Assign.pieces.items) c.in-Assign.place
    c.in-Assign.blocking (typed_tree c.in-Assign.value) in
    let is : flat_statement c.args.stmt.now ≡ whole = ap flat_statement c.in-Assign.is in
    subst (λ z. OnOk c.add_pieces.result (AddsAssigned c.args.bits.now c.add_pieces.new.set z))
    (sym is)
    (subst (λ ps. OnOk c.add_pieces.result ((s b : ℕ) →
    in_bits c.add_pieces.new.set s b ≡
    (in_bits c.args.bits.now s b || list_any (has_bit s b) (piece_forms ps))))
    c.deref.ensures.value c.add_pieces.ensures)

pub add_assigned_plain-add_assigned_all-requires : goal.add_assigned_plain-add_assigned_all-requires
add_assigned_plain-add_assigned_all-requires t c =
    let signals = (design_of c.args.flat.now).signals in (
      search (rules, the_lemmas),
      (
        c.requires.sound,
        sound_block signals _ c.in-Block.stmts _ c.in-Block.is c.deref-in-Block.ensures.value
            c.requires.stmt,
      ),
    )

pub add_assigned_plain-returns-in-Block : goal.add_assigned_plain-returns-in-Block
add_assigned_plain-returns-in-Block t c =
    subst (λ z. OnOk c.add_assigned_all.result
    (AddsAssigned c.args.bits.now c.add_assigned_all.new.bits z))
    (sym (block_is _ c.in-Block.stmts _ c.in-Block.is c.deref-in-Block.ensures.value))
    c.add_assigned_all.ensures

pub add_assigned_all-add_assigned-requires : goal.add_assigned_all-add_assigned-requires
add_assigned_all-add_assigned-requires t c = (
  search (rules, the_lemmas),
  (
    c.requires.sound,
    sound_at (design_of c.args.flat.now).signals c.args.stmts.now c.loop-stmt.stmt-index
        c.stmt-item.result c.loop-stmt-test.true c.stmt-item.is c.requires.stmts,
  ),
)

pub add_assigned_all-loop-stmt-preserved : goal.add_assigned_all-loop-stmt-preserved
add_assigned_all-loop-stmt-preserved t c =
    let stmts = c.args.stmts.now in
    let i = c.loop-stmt.stmt-index in
    let left = chain_of (flat_statements (drop i stmts)) in
    let rest = chain_of (flat_statements (drop (i + 1) stmts)) in
    assigned_more c.args.bits.now c.loop-stmt.bits c.add_assigned.new.bits
    (chain_of (flat_statements stmts)) left (flat_statement c.stmt-item.result) rest
    (λ s b. ap (λ z. can_assign z s b)
    (next_statement stmts i c.stmt-item.result c.loop-stmt-test.true c.stmt-item.is))
    c.in_ok-add_assigned.ensures c.loop-stmt.invariant

pub add_assigned_all-returns : goal.add_assigned_all-returns
add_assigned_all-returns t c =
    let stmts = c.args.stmts.now in
    let i = c.loop-stmt.stmt-index in
    assigned_end c.args.bits.now c.loop-stmt.bits (chain_of (flat_statements stmts))
    (chain_of (flat_statements (drop i stmts)))
    (at_drop_all (λ ss. chain_of (flat_statements ss)) stmts i c.loop-stmt-test.false)
    c.loop-stmt.invariant
