use Rattle.std.proofs.Common.{◌≡◌, ◌+◌, ◌-◌, ◌<◌, length, get_or, drop, sym, ap}
use Rattle.std.proofs.Common.{subst, arith, rules}
use Rattle.std.proofs.lemmas.Bool.{and_parts}
use Rattle.std.proofs.lemmas.List.{nil_from_length, drop_all}
use Rattle.std.specs.Prelude.{IfOk}
use Rattle.sv_flat.specs.Assigned.{can_assign}
use Rattle.sv_flat.specs.ByNumber.{signal_forms}
use Rattle.sv_flat.specs.Design.{assign}
use Rattle.sv_flat.specs.Views.{typed_tree, flat_statement, flat_statements, chain_of}
use Rattle.sv_flat.specs.declared.statements.FStmt.{the_lemmas}
use Rattle.sv_flat.proofs.NumberedRuns.{no_branch}
use Rattle.sv_graph.specs.declared.bit_sets.BitSet.{BitSet}
use Rattle.sv_graph.specs.BitSets.{mask_in}
use Rattle.sv_graph.proofs.EntryFacts.{nothing_in}
use Rattle.sv_rules.specs.Surroundings.{in_surrounding}
use Rattle.sv_rules.proofs.Passes.{sound_at, only_pieces}
use Rattle.sv_rules.proofs.Sound.{branch_is, sound_as, sound_arm, sound_block, block_is}
use Rattle.sv_rules.proofs.Sound.{next_statement}
use Rattle.sv_obl.specs.declared.marked.Marked.{Marked}
use Rattle.sv_obl.specs.Marked.{IsMarking}
use Rattle.sv_obl.specs.Views.{piece_forms}
use Rattle.sv_obl.proofs.LaterFacts.{set_inside}
use Rattle.sv_obl.proofs.MarkedArmFacts.{open_begin, open_more}
use Rattle.sv_obl.proofs.MarkedFacts.{BlockAt, block_begin, block_more, block_end, assign_marked}
use Rattle.sv_obl.proofs.marked.+marked_stmt.Goals as goal

pub marked_stmt-marked_stmt-requires : goal.marked_stmt-marked_stmt-requires
marked_stmt-marked_stmt-requires t c =
    let signals = signal_forms c.args.signals.now in (
      search (rules, the_lemmas),
      (
        c.requires.few,
        (
          c.requires.words,
          sound_arm signals c.loop-rest.rest.now c.deref.result.now
              (ap flat_statement c.in-If.is) c.deref.ensures c.loop-rest.invariant.0.is_sound,
        ),
      ),
    )

pub marked_stmt-loop-rest-init : goal.marked_stmt-loop-rest-init
marked_stmt-loop-rest-init t c = (
  open_begin (signal_forms c.args.signals.now) (in_surrounding c.args.later.now) _
      (flat_statement c.args.stmt.now) c.new-arms.ensures.items c.requires.stmt,
  search (rules, the_lemmas),
)

pub marked_stmt-loop-rest-preserved : goal.marked_stmt-loop-rest-preserved
marked_stmt-loop-rest-preserved t c =
    let signals = signal_forms c.args.signals.now in
    let first = c.deref.result.now in
    let second = c.deref-rest.result.now in
    let is = branch_is c.loop-rest.rest.now first second (ap flat_statement c.in-If.is)
    c.deref.ensures c.deref-rest.ensures in (
      open_more signals (in_surrounding c.args.later.now) c.loop-rest.arms.items
          c.push.new.self.items _ (flat_statement c.args.stmt.now)
          (flat_statement c.loop-rest.rest.now) (flat_statement first) (flat_statement second)
          c.in_ok-push.ensures.items is
          c.in_ok-yes.ensures c.loop-rest.invariant.0,
      search (rules, the_lemmas),
    )

pub marked_stmt-marked_plain-requires : goal.marked_stmt-marked_plain-requires
marked_stmt-marked_plain-requires t c = (
  search (rules, the_lemmas),
  (
    no_branch c.loop-rest.rest.now c.in_default.not-If,
    (
      c.requires.few,
      (c.requires.words, c.loop-rest.invariant.0.is_sound),
    ),
  ),
)

pub marked_stmt-returns : goal.marked_stmt-returns
marked_stmt-returns t c =
    c.marked_arms.ensures (flat_statement c.loop-rest.rest.now) (flat_statement c.args.stmt.now)
    c.loop-rest.invariant.0.are c.in_ok-last.ensures

pub marked_plain-marked_expr-requires-clause-formed :
    goal.marked_plain-marked_expr-requires-clause-formed
marked_plain-marked_expr-requires-clause-formed t c =
    (and_parts _ _ (sound_as (signal_forms c.args.signals.now) c.in-Assign.is c.requires.stmt)).0

pub marked_plain-marked_block-requires : goal.marked_plain-marked_block-requires
marked_plain-marked_block-requires t c =
    let signals = signal_forms c.args.signals.now in (
      search (rules, the_lemmas),
      (
        c.requires.few,
        (
          c.requires.words,
          sound_block signals _ c.in-Block.stmts _ c.in-Block.is c.deref-in-Block.ensures.value
              c.requires.stmt,
        ),
      ),
    )

pub marked_plain-returns-in-Block : goal.marked_plain-returns-in-Block
marked_plain-returns-in-Block t c =
    let signals = signal_forms c.args.signals.now in
    subst (λ b. IfOk c.marked_block.result (λ (both : Marked × BitSet).
    IsMarking signals (in_surrounding c.args.later.now) b both.0 both.1))
    (sym (block_is _ c.in-Block.stmts _ c.in-Block.is c.deref-in-Block.ensures.value))
    c.marked_block.ensures

pub marked_block-marked_stmt-requires : goal.marked_block-marked_stmt-requires
marked_block-marked_stmt-requires t c =
    let stmts = c.args.stmts.now in
    let j = length stmts - 1 - c.loop-i.i in
    let inside : j < length stmts = omega (arith, c.loop-i-test.true) in (
      search (rules, the_lemmas),
      (
        c.requires.few,
        (
          c.requires.words,
          sound_at (signal_forms c.args.signals.now) stmts j c.index-stmts-stmts.result inside
              c.index-stmts-stmts.is c.requires.stmts,
        ),
      ),
    )

pub marked_block-loop-i-init : goal.marked_block-loop-i-init
marked_block-loop-i-init t c =
    block_begin (signal_forms c.args.signals.now) (in_surrounding c.args.later.now) _ _ _
    c.new-parts.ensures.items
    (ap (λ ss. chain_of (flat_statements ss)) (drop_all _ c.args.stmts.now (omega arith)))
    (λ s b. nothing_in (mask_in c.new-here.result s) b (c.new-here.ensures s))

pub marked_block-loop-i-preserved : goal.marked_block-loop-i-preserved
marked_block-loop-i-preserved t c =
    let stmts = c.args.stmts.now in
    let signals = signal_forms c.args.signals.now in
    let later = in_surrounding c.args.later.now in
    let i = c.loop-i.i in
    let j = length stmts - (i + 1) in
    let stmt = c.index-stmts-stmts.result in
    let inside : j < length stmts = omega (arith, c.loop-i-test.true) in
    let same : length stmts - 1 - i ≡ j = omega (arith, c.loop-i-test.true) in
    let next : length stmts - i ≡ j + 1 = omega (arith, c.loop-i-test.true) in
    let so = subst (λ k. BlockAt signals later c.loop-i.parts.items
    (chain_of (flat_statements (drop k stmts))) c.loop-i.here) next c.loop-i.invariant in
    block_more signals later c.loop-i.parts.items c.push.new.self.items c.in_ok-part.part _
    (chain_of (flat_statements (drop j stmts))) (flat_statement stmt)
    (chain_of (flat_statements (drop (j + 1) stmts))) c.loop-i.here c.in_ok-part.bits
    c.add_all.new.self c.in_ok-push.ensures.items
    (next_statement stmts j stmt inside
    (subst (λ k. stmt ≡ get_or stmts k stmt) same c.index-stmts-stmts.is))
    (set_inside _ _ (can_assign (chain_of (flat_statements (drop (j + 1) stmts)))) so.has_bits)
    c.in_ok-part.ensures c.in_ok-add_all.ensures so

pub marked_block-returns : goal.marked_block-returns
marked_block-returns t c =
    let stmts = c.args.stmts.now in
    let signals = signal_forms c.args.signals.now in
    let later = in_surrounding c.args.later.now in
    let none : length stmts - c.loop-i.i ≡ 0 = omega (arith, c.loop-i-test.false) in
    block_end signals later c.loop-i.parts.items c.together.new.parts.items c.in_ok-whole.whole
    (chain_of (flat_statements stmts)) c.loop-i.here
    (nil_from_length c.together.new.parts.items
    (omega (arith, c.in_ok-whole.ensures.count)))
    c.in_ok-whole.ensures.ends
    (subst (λ k. BlockAt signals later c.loop-i.parts.items
    (chain_of (flat_statements (drop k stmts))) c.loop-i.here) none c.loop-i.invariant)

pub marked_plain-returns-in_ok-right-in-Assign : goal.marked_plain-returns-in_ok-right-in-Assign
marked_plain-returns-in_ok-right-in-Assign t c =
    let signals = signal_forms c.args.signals.now in
    let later = in_surrounding c.args.later.now in
    let pieces = piece_forms c.in-Assign.pieces.items in
    let whole = assign pieces c.in-Assign.place c.in-Assign.blocking
    (typed_tree c.in-Assign.value) in
    let bits = only_pieces c.new-bits.result c.add_pieces.new.set _ _ c.deref.ensures.value
    c.new-bits.ensures c.in_ok-add_pieces-in-Assign.ensures in
    assign_marked signals later pieces c.in-Assign.place c.in-Assign.blocking
    (typed_tree c.in-Assign.value) (typed_tree c.in_ok-right-in-Assign.right)
    (flat_statement c.args.stmt.now) _ _ c.add_pieces.new.set (ap flat_statement c.in-Assign.is)
    (ap (λ ps. assign (piece_forms ps) c.in-Assign.place c.in-Assign.blocking
    (typed_tree c.in_ok-right-in-Assign.right)) c.deref-in-Assign.ensures.value)
    tt c.in_ok-right-in-Assign.ensures (set_inside _ _ (can_assign whole) bits) bits
