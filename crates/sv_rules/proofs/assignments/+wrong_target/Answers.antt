use Rattle.std.proofs.Common.{◌≡◌, ◌++◌, ◌+◌, drop, sym, ap, ap₂, subst, ◌∙◌, rules}
use Rattle.std.specs.Prelude.{IfOk}
use Rattle.sv_flat.specs.declared.statements.FStmt.{the_lemmas}
use Rattle.sv_flat.specs.Assignments.{targets}
use Rattle.sv_flat.specs.Design.{branch}
use Rattle.sv_flat.specs.Views.{design_of, process_kind, typed_tree, flat_statement}
use Rattle.sv_flat.specs.Views.{flat_statements, chain_of}
use Rattle.sv_rules.specs.First.{FindsFirst, first_found}
use Rattle.sv_rules.specs.WrongAssigns.{wrong_in}
use Rattle.sv_rules.proofs.Firsts.{finds_both}
use Rattle.sv_rules.proofs.Sound.{block_is, next_statement, sound_block, sound_here, sound_after}
use Rattle.sv_rules.proofs.WrongFacts.{wrong_append, one_more}
use Rattle.sv_rules.proofs.assignments.+wrong_target.Goals as goal

pub wrong_in_all-wrong_target-requires : goal.wrong_in_all-wrong_target-requires
wrong_in_all-wrong_target-requires t c =
    let signals = (design_of c.args.flat.now).signals in (
      search (rules, the_lemmas),
      (
        c.requires.sound,
        sound_here signals c.args.stmts.now c.loop-stmt.stmt-index c.stmt-item.result
            c.loop-stmt-test.true c.stmt-item.is c.loop-stmt.invariant.3,
      ),
    )

pub wrong_in_all-loop-stmt-preserved : goal.wrong_in_all-loop-stmt-preserved
wrong_in_all-loop-stmt-preserved t c =
    let design = design_of c.args.flat.now in
    let kind = process_kind c.args.kind in
    let next = next_statement c.args.stmts.now c.loop-stmt.stmt-index c.stmt-item.result
    c.loop-stmt-test.true c.stmt-item.is in
    let left = chain_of (flat_statements (drop (c.loop-stmt.stmt-index + 1) c.args.stmts.now)) in
    let this = flat_statement c.stmt-item.result in
    let all = wrong_in design kind (chain_of (flat_statements c.args.stmts.now)) in
    let done = c.loop-stmt.invariant.0 in (
      done ++ wrong_in design kind this,
      subst (FindsFirst 601 (done ++ wrong_in design kind this)) (sym c.first_of-found.ensures)
          (finds_both done (wrong_in design kind this) 601 c.loop-stmt.found
          c.in_ok-wrong_target.field-0 c.loop-stmt.invariant.1 c.in_ok-wrong_target.ensures),
      one_more design kind all done this left _ next c.loop-stmt.invariant.2,
      sound_after design.signals c.args.stmts.now c.loop-stmt.stmt-index c.stmt-item.result
          c.loop-stmt-test.true c.stmt-item.is c.loop-stmt.invariant.3,
    )

pub wrong_target-wrong_in_all-requires : goal.wrong_target-wrong_in_all-requires
wrong_target-wrong_in_all-requires t c =
    let signals = (design_of c.args.flat.now).signals in (
      search (rules, the_lemmas),
      (
        c.requires.sound,
        sound_block signals c.args.stmt.now c.in-Block.stmts c.deref-in-Block.result.now
            c.in-Block.is c.deref-in-Block.ensures.value c.requires.stmt,
      ),
    )

pub wrong_target-returns-in-Block : goal.wrong_target-returns-in-Block
wrong_target-returns-in-Block t c =
    let design = design_of c.args.flat.now in
    let kind = process_kind c.args.kind in
    subst (λ b. IfOk c.wrong_in_all.result (FindsFirst 601 (wrong_in design kind b)))
    (sym (block_is c.args.stmt.now c.in-Block.stmts c.deref-in-Block.result.now c.in-Block.is
    c.deref-in-Block.ensures.value))
    c.wrong_in_all.ensures

pub wrong_target-returns-in_ok-other-in-If : goal.wrong_target-returns-in_ok-other-in-If
wrong_target-returns-in_ok-other-in-If t c =
    let design = design_of c.args.flat.now in
    let kind = process_kind c.args.kind in
    let first = flat_statement c.deref-in-If.result.now in
    let second = flat_statement c.deref-in-If-2.result.now in
    let both = finds_both (wrong_in design kind first) (wrong_in design kind second) 601
    c.in_ok-found-in-If.found c.in_ok-other-in-If.other c.in_ok-found-in-If.ensures
    c.in_ok-other-in-If.ensures in
    let is : flat_statement c.args.stmt.now
    ≡ branch c.in-If.place (typed_tree c.in-If.cond) (flat_statement c.in-If.yes.value)
    (flat_statement c.in-If.no.value) =
    ap flat_statement c.in-If.is in
    let same : wrong_in design kind first ++ wrong_in design kind second ≡
    wrong_in design kind (flat_statement c.args.stmt.now) =
    ap₂ (λ f s. wrong_in design kind (flat_statement f) ++ wrong_in design kind (flat_statement s))
    c.deref-in-If.ensures c.deref-in-If-2.ensures
    ∙ sym (wrong_append design kind (targets (flat_statement c.in-If.yes.value))
    (targets (flat_statement c.in-If.no.value)))
    ∙ ap (wrong_in design kind) (sym is) in
    subst (FindsFirst 601 (wrong_in design kind (flat_statement c.args.stmt.now)))
    (sym c.first_of.ensures)
    (subst (λ ws. FindsFirst 601 ws
    (first_found c.in_ok-found-in-If.found c.in_ok-other-in-If.other)) same both)
