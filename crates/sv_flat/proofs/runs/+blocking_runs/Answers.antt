use Rattle.std.proofs.Common.{sym, ap, subst, refl, ◌∙◌, ◌+◌, true, false, List, [], map}
use Rattle.std.proofs.Common.{fold, drop}
use Rattle.std.specs.Prelude.{IsTrue}
use Rattle.sv_flat.specs.declared.statements.FStmt.{the_lemmas}
use Rattle.sv_flat.specs.declared.statements.Piece.{Piece}
use Rattle.std.proofs.Common.{rules}
use Rattle.sv_flat.specs.ByNumber.{signal_forms, by_number}
use Rattle.sv_flat.specs.Runs.{put_piece, run_alone}
use Rattle.sv_flat.specs.Soundness.{statement_sound}
use Rattle.sv_flat.specs.Values.{value}
use Rattle.sv_flat.specs.Views.{typed_tree, piece_form, flat_statement}
use Rattle.sv_flat.proofs.NumberedRuns.{chain, chain_at, holds_at, alone_after, block_is}
use Rattle.sv_flat.proofs.NumberedRuns.{pieces_stay, assigned_alone}
use Rattle.sv_flat.proofs.runs.+blocking_runs.Goals as goal

pub run_all-run_body-requires : goal.run_all-run_body-requires
run_all-run_body-requires t c =
    let forms = signal_forms c.args.signals.now in (
      search (rules, the_lemmas),
      (
        holds_at (statement_sound forms) (λ a b.
            refl) c.args.stmts.now c.loop-stmt.stmt-index c.stmt-item.result c.loop-stmt-test.true
            c.stmt-item.is c.requires.sound,
        (c.requires.words, c.loop-stmt.invariant.1),
      ),
    )

pub run_all-loop-stmt-preserved : goal.run_all-loop-stmt-preserved
run_all-loop-stmt-preserved t c =
    let forms = signal_forms c.args.signals.now in
    let s = c.stmt-item.result in
    let left = chain (drop (c.loop-stmt.stmt-index + 1) c.args.stmts.now) in
    let e = by_number c.loop-stmt.values in
    let at = chain_at c.args.stmts.now c.loop-stmt.stmt-index s c.loop-stmt-test.true
    c.stmt-item.is in (
      ap (run_alone forms left) c.run_body.ensures.run
          ∙ sym (alone_after forms (flat_statement s) left e)
          ∙ sym (ap (λ body. run_alone forms body e) at)
          ∙ c.loop-stmt.invariant.0,
      c.run_body.ensures.fit,
    )

pub run_body-run_all-requires : goal.run_body-run_all-requires
run_body-run_all-requires t c =
    let block = block_is c.selected.result.now c.in-Block.stmts c.deref-in-Block.result.now
    c.in-Block.is c.deref-in-Block.ensures.value in (
      search (rules, the_lemmas),
      (
        subst (λ body. IsTrue (statement_sound (signal_forms c.args.signals.now) body)) block
            c.selected.ensures.sound,
        (c.requires.words, c.requires.fit),
      ),
    )

pub run_body-returns-in-Block-clause-run : goal.run_body-returns-in-Block-clause-run
run_body-returns-in-Block-clause-run t c =
    let forms = signal_forms c.args.signals.now in
    let e = by_number c.args.values.now in
    let block = block_is c.selected.result.now c.in-Block.stmts c.deref-in-Block.result.now
    c.in-Block.is c.deref-in-Block.ensures.value in
    c.run_all.ensures.run
    ∙ sym (ap (λ body. run_alone forms body e) block)
    ∙ ap (λ z. z.0) (c.selected.ensures.run [])

pub run_body-returns-then-blocking-clause-run : goal.run_body-returns-then-blocking-clause-run
run_body-returns-then-blocking-clause-run t c =
    let forms = signal_forms c.args.signals.now in
    let e = by_number c.args.values.now in
    c.assign.ensures.run
    ∙ ap (λ (ps : List Piece).
    (fold (put_piece forms true (value forms e (typed_tree c.in-Assign.value))) (e, [])
    (map piece_form ps)).0)
    c.deref.ensures.value
    ∙ assigned_alone forms e (map piece_form c.in-Assign.pieces.items) c.in-Assign.place
    c.in-Assign.blocking true (typed_tree c.in-Assign.value) (flat_statement c.args.body.now)
    (flat_statement c.selected.result.now) c.if-blocking.true (ap flat_statement c.in-Assign.is)
    (c.selected.ensures.run [])

pub run_body-returns-else-blocking-clause-run : goal.run_body-returns-else-blocking-clause-run
run_body-returns-else-blocking-clause-run t c =
    let forms = signal_forms c.args.signals.now in
    let e = by_number c.args.values.now in
    let pieces = map piece_form c.in-Assign.pieces.items in
    sym (pieces_stay forms (value forms e (typed_tree c.in-Assign.value)) pieces (e, []))
    ∙ assigned_alone forms e pieces c.in-Assign.place c.in-Assign.blocking false
    (typed_tree c.in-Assign.value) (flat_statement c.args.body.now)
    (flat_statement c.selected.result.now) c.if-blocking.false (ap flat_statement c.in-Assign.is)
    (c.selected.ensures.run [])
