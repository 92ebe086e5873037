use Rattle.std.proofs.Common.{◌≡◌, ◌+◌, ◌||◌, drop, refl, sym, ap, subst, ◌∙◌, rules}
use Rattle.std.proofs.lemmas.List.{at_drop_all}
use Rattle.sv_flat.specs.Assigned.{assigns}
use Rattle.sv_flat.specs.Design.{assign}
use Rattle.sv_flat.specs.Views.{typed_tree, flat_statement, flat_statements, chain_of}
use Rattle.sv_flat.specs.declared.statements.FStmt.{the_lemmas}
use Rattle.sv_rules.specs.Pieces.{piece_forms}
use Rattle.sv_rules.specs.DriverTables.{assigned_in}
use Rattle.sv_graph.specs.Marks.{Marks}
use Rattle.sv_graph.proofs.MarkFacts.{marks_more, marks_end, both_marked, same_marked}
use Rattle.sv_rules.proofs.Sound.{next_statement, sound_here, sound_after, sound_block, block_is}
use Rattle.sv_rules.proofs.Sound.{branch_is}
use Rattle.sv_rules.proofs.marks.+mark_targets.Goals as goal

pub mark_all_targets-loop-stmt-init : goal.mark_all_targets-loop-stmt-init
mark_all_targets-loop-stmt-init t c = (c.requires, λ s below. refl)

pub mark_all_targets-mark_targets-requires : goal.mark_all_targets-mark_targets-requires
mark_all_targets-mark_targets-requires t c =
    let stmts = c.args.stmts.now in
    let i = c.loop-stmt.stmt-index in
    let sound = c.loop-stmt.invariant.0 in (
      search (rules, the_lemmas),
      (
        sound.0,
        sound.1 ∙ sym c.loop-stmt.auto.table,
        sound_here sound.0 stmts i c.stmt-item.result c.loop-stmt-test.true c.stmt-item.is
            sound.2,
      ),
    )

pub mark_all_targets-loop-stmt-preserved : goal.mark_all_targets-loop-stmt-preserved
mark_all_targets-loop-stmt-preserved t c =
    let stmts = c.args.stmts.now in
    let i = c.loop-stmt.stmt-index in
    let rest = chain_of (flat_statements (drop (i + 1) stmts)) in
    let sound = c.loop-stmt.invariant.0 in (
      (
        sound.0,
        sound.1,
        sound_after sound.0 stmts i c.stmt-item.result c.loop-stmt-test.true c.stmt-item.is
            sound.2,
      ),
      marks_more c.args.table.now c.loop-stmt.table c.mark_targets.new.table
          (assigns (chain_of (flat_statements stmts)))
          (assigns (chain_of (flat_statements (drop i stmts))))
          (assigns (flat_statement c.stmt-item.result)) (assigns rest) c.loop-stmt.auto.table
          (λ s. ap (λ b. assigns b s)
          (next_statement stmts i c.stmt-item.result c.loop-stmt-test.true c.stmt-item.is))
          c.mark_targets.ensures c.loop-stmt.invariant.1,
    )

pub mark_all_targets-returns : goal.mark_all_targets-returns
mark_all_targets-returns t c =
    let stmts = c.args.stmts.now in
    marks_end c.args.table.now c.loop-stmt.table
    (assigns (chain_of (flat_statements stmts)))
    (assigns (chain_of (flat_statements (drop c.loop-stmt.stmt-index stmts))))
    (λ s. at_drop_all (λ ss. assigns (chain_of (flat_statements ss)) s) stmts c.loop-stmt.stmt-index
    c.loop-stmt-test.false)
    c.loop-stmt.invariant.1

pub mark_targets-mark_all_targets-requires : goal.mark_targets-mark_all_targets-requires
mark_targets-mark_all_targets-requires t c =
    let sound = c.requires in (
      search (rules, the_lemmas),
      (
        sound.0,
        sound.1,
        sound_block sound.0 c.args.stmt.now c.in-Block.stmts c.deref-in-Block.result.now
            c.in-Block.is c.deref-in-Block.ensures.value sound.2,
      ),
    )

pub mark_targets-returns-in-Assign : goal.mark_targets-returns-in-Assign
mark_targets-returns-in-Assign t c =
    let is : flat_statement c.args.stmt.now
    ≡ assign (piece_forms c.in-Assign.pieces.items) c.in-Assign.place c.in-Assign.blocking
    (typed_tree c.in-Assign.value) =
    ap flat_statement c.in-Assign.is in
    same_marked c.args.table.now c.mark_pieces.new.table
    (assigned_in (piece_forms c.deref.result.now)) (assigns (flat_statement c.args.stmt.now))
    (λ s. ap (λ ps. assigned_in (piece_forms ps) s) c.deref.ensures.value
    ∙ sym (ap (λ b. assigns b s) is))
    c.mark_pieces.ensures

pub mark_targets-returns-in-Block : goal.mark_targets-returns-in-Block
mark_targets-returns-in-Block t c =
    subst (λ b. Marks c.args.table.now c.mark_all_targets.new.table (assigns b))
    (sym (block_is c.args.stmt.now c.in-Block.stmts c.deref-in-Block.result.now c.in-Block.is
    c.deref-in-Block.ensures.value))
    c.mark_all_targets.ensures

pub mark_targets-returns-in-If : goal.mark_targets-returns-in-If
mark_targets-returns-in-If t c =
    let first = c.deref-in-If.result.now in
    let second = c.deref-in-If-2.result.now in
    same_marked c.args.table.now c.mark_targets-in-If.new.table
    (λ s. assigns (flat_statement first) s || assigns (flat_statement second) s)
    (assigns (flat_statement c.args.stmt.now))
    (λ s. sym (ap (λ b. assigns b s) (branch_is c.args.stmt.now first second
    (ap flat_statement c.in-If.is) c.deref-in-If.ensures c.deref-in-If-2.ensures)))
    (both_marked c.args.table.now c.mark_targets.new.table c.mark_targets-in-If.new.table
    (assigns (flat_statement first)) (assigns (flat_statement second)) c.mark_targets.auto.table
    c.mark_targets.ensures c.mark_targets-in-If.ensures)
