use Rattle.std.proofs.Common.{sym, ap, subst, refl, ◌∙◌, ◌+◌, ◌≤◌, false, List, map, fold, drop}
use Rattle.std.proofs.Common.{length, arith, rules}
use Rattle.std.specs.Prelude.{IsTrue}
use Rattle.std.proofs.lemmas.List.{at_drop_all}
use Rattle.sv_flat.specs.declared.statements.FStmt.{the_lemmas}
use Rattle.sv_flat.specs.declared.statements.Piece.{Piece}
use Rattle.sv_flat.specs.ByNumber.{signal_forms, by_number, updated, is_nonblocking}
use Rattle.sv_flat.specs.Runs.{put_piece, run}
use Rattle.sv_flat.specs.Soundness.{statement_sound}
use Rattle.sv_flat.specs.Values.{value}
use Rattle.sv_flat.specs.Views.{typed_tree, piece_form, flat_statement}
use Rattle.sv_flat.proofs.NumberedRuns.{chain, chain_at, holds_at, run_is, block_is}
use Rattle.sv_flat.proofs.NumberedRuns.{nonblocking_run}
use Rattle.sv_flat.proofs.runs.+nonblocking_runs.Goals as goal

pub update_all-update_body-requires : goal.update_all-update_body-requires
update_all-update_body-requires t c =
    let forms = signal_forms c.args.signals.now in
    let i = c.loop-stmt.stmt-index in (
      search (rules, the_lemmas),
      (
        holds_at (statement_sound forms) (λ a b.
            refl) c.args.stmts.now i c.stmt-item.result c.loop-stmt-test.true c.stmt-item.is
            c.requires.sound,
        (
          holds_at is_nonblocking (λ a b.
              refl) c.args.stmts.now i c.stmt-item.result c.loop-stmt-test.true c.stmt-item.is
              c.requires.nonblocking,
          (c.requires.words, (c.requires.fit, c.loop-stmt.invariant.1)),
        ),
      ),
    )

pub update_all-loop-stmt-preserved : goal.update_all-loop-stmt-preserved
update_all-loop-stmt-preserved t c =
    let forms = signal_forms c.args.signals.now in
    let i = c.loop-stmt.stmt-index in
    let s = c.stmt-item.result in
    let left = chain (drop (i + 1) c.args.stmts.now) in
    let e = by_number c.args.values.now in
    let at = chain_at c.args.stmts.now i s c.loop-stmt-test.true c.stmt-item.is in
    let plain = holds_at is_nonblocking (λ a b.
    refl) c.args.stmts.now i s c.loop-stmt-test.true c.stmt-item.is c.requires.nonblocking in (
      (λ updates before.
          let had = c.loop-stmt.invariant.0 updates before in (
            (run forms (flat_statement s) (e, had.0)).1,
            c.update_body.ensures.run had.0 had.1,
            ap (run forms left) (sym (run_is forms (flat_statement s) plain (e, had.0)))
                ∙ sym (ap (λ body. run forms body (e, had.0)) at)
                ∙ had.2,
          )),
      c.update_body.ensures.fit,
    )

pub update_all-returns-clause-run : goal.update_all-returns-clause-run
update_all-returns-clause-run t c = λ updates before.
    let forms = signal_forms c.args.signals.now in
    let e = by_number c.args.values.now in
    let had = c.loop-stmt.invariant.0 updates before in
    let all : length c.args.stmts.now ≤ c.loop-stmt.stmt-index = omega arith in
    had.1
    ∙ ap (λ z. updated e z.1)
    (sym (at_drop_all (λ ss.
    run forms (chain ss) (e, had.0)) c.args.stmts.now c.loop-stmt.stmt-index all) ∙ had.2)

pub update_body-update_all-requires : goal.update_body-update_all-requires
update_body-update_all-requires t c =
    let forms = signal_forms c.args.signals.now in
    let block = block_is c.selected.result.now c.in-Block.stmts c.deref-in-Block.result.now
    c.in-Block.is c.deref-in-Block.ensures.value in (
      search (rules, the_lemmas),
      (
        subst (λ body. IsTrue (statement_sound forms body)) block c.selected.ensures.sound,
        (
          subst (λ body. IsTrue (is_nonblocking body)) block
              (c.selected.ensures.nonblocking c.requires.nonblocking),
          (c.requires.words, (c.requires.fit, c.requires.next_fit)),
        ),
      ),
    )

pub update_body-returns-in-Block-clause-run : goal.update_body-returns-in-Block-clause-run
update_body-returns-in-Block-clause-run t c = λ updates before.
    let forms = signal_forms c.args.signals.now in
    let e = by_number c.args.values.now in
    let block = block_is c.selected.result.now c.in-Block.stmts c.deref-in-Block.result.now
    c.in-Block.is c.deref-in-Block.ensures.value in
    c.update_all.ensures.run updates before
    ∙ ap (λ z. updated e z.1) (sym (ap (λ body. run forms body (e, updates)) block)
    ∙ c.selected.ensures.run updates)

pub update_body-returns-in-Assign-clause-run : goal.update_body-returns-in-Assign-clause-run
update_body-returns-in-Assign-clause-run t c = λ updates before.
    let forms = signal_forms c.args.signals.now in
    let e = by_number c.args.values.now in
    let right = value forms e (typed_tree c.in-Assign.value) in
    let plain = subst (λ s. IsTrue (is_nonblocking (flat_statement s))) c.in-Assign.is
    (c.selected.ensures.nonblocking c.requires.nonblocking) in
    c.update.ensures.run updates before
    ∙ ap (λ (ps : List Piece).
    updated e (fold (put_piece forms false right) (e, updates) (map piece_form ps)).1)
    c.deref.ensures.value
    ∙ ap (λ z. updated e z.1)
    (nonblocking_run forms (map piece_form c.in-Assign.pieces.items) c.in-Assign.place
    c.in-Assign.blocking (typed_tree c.in-Assign.value) (e, updates) plain
    ∙ ap (λ s. run forms (flat_statement s) (e, updates)) (sym c.in-Assign.is)
    ∙ c.selected.ensures.run updates)
