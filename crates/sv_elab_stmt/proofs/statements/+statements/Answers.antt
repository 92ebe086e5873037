use Rattle.std.proofs.Common.{◌≡◌, ◌+◌, ◌-◌, ◌≤◌, Bool, false, Option, Some, None, map, List}
use Rattle.std.proofs.Common.{◌++◌, length, drop, refl, sym, ap, subst, ◌∙◌, arith, rules}
use Rattle.std.specs.Prelude.{◌&&◌, filter, Ok, IsTrue}
use Rattle.std.specs.List.{list_all}
use Rattle.std.proofs.lemmas.Bool.{and_parts}
use Rattle.std.proofs.lemmas.List.{drop-drop, length-drop}
use Rattle.sv_num.specs.declared.faults.Place.{Place}
use Rattle.std.specs.declared.alloc.Global.{Global}
use Rattle.std.specs.declared.boxed.Box.{Box}
use Rattle.sv_ast.specs.declared.expressions.Expr.{Expr}
use Rattle.sv_ast.specs.declared.statements.Stmt.{Stmt, If, the_lemmas}
use Rattle.sv_ast.specs.declared.statements.Stmt.TheBlock.{hidden-the_row-Arm-1}
use Rattle.sv_ast.specs.Shape.{is_shaped_expression, is_shaped_statement, are_shaped_statements}
use Rattle.sv_ast.specs.Shape.{are_shaped_arms}
use Rattle.sv_ast.specs.Tree.{ExpressionTree, TargetTree, assignment, block, if_only, if_else}
use Rattle.sv_ast.specs.Tree.{case_of}
use Rattle.sv_ast.specs.Views.{expression_tree, expression_trees, statement_tree, statement_trees}
use Rattle.sv_ast.specs.Views.{statements_of, arm_tree, arm_trees, arms_of, row_arms, target_tree}
use Rattle.sv_ast.proofs.Rows.{row_statements-hidden, row_arms-hidden}
use Rattle.sv_flat.specs.Design.{branch}
use Rattle.sv_flat.specs.Views.{typed_tree, typed_trees, flat_statement, flat_statements}
use Rattle.sv_flat.proofs.Rows.{row_chain-hidden}
use Rattle.sv_elab_rules.specs.Names.{Names}
use Rattle.sv_elab_rules.specs.CaseChains.{arm_items, case_chain, default_of, is_complete}
use Rattle.sv_elab_rules.specs.Targets.{assignment_walk}
use Rattle.sv_elab_rules.specs.Statements.{items_walk, statement_walk, statements_walk, arms_walk}
use Rattle.sv_width.specs.Answers.{IsBreach}
use Rattle.sv_width.specs.Scopes.{names_of}
use Rattle.sv_width.proofs.Breaches.{ok_weaker, err_weaker, breach_memory}
use Rattle.sv_elab_stmt.specs.declared.cases.CaseItem.{CaseItem}
use Rattle.sv_elab_stmt.specs.Cases.{item_trees, AreItems, ArePassed, greatest}
use Rattle.sv_elab_stmt.specs.Chains.{flat_arm, flat_arms, has_items}
use Rattle.sv_elab_stmt.proofs.ItemFacts.{trees_long}
use Rattle.sv_elab_stmt.proofs.WalkFacts.{left_more, left_none, forms_push, mapped, mapped_push}
use Rattle.sv_elab_stmt.proofs.WalkFacts.{mapped_none, rest_broken, arms_none, arms_more}
use Rattle.sv_elab_stmt.proofs.WalkFacts.{arms_broken}
use Rattle.sv_elab_stmt.proofs.WalkFacts.{arm_found, arm_unasked, arm_unwalked, before}
use Rattle.sv_elab_stmt.proofs.WalkFacts.{before_nothing}
use Rattle.sv_elab_stmt.proofs.WalkFacts.{block_push, statements_none, statements_more}
use Rattle.sv_elab_stmt.proofs.WalkFacts.{statements_broken, handed_on}
use Rattle.sv_elab_stmt.proofs.CaseWalks.{trees_length, case_shape, own_items, passed_arms}
use Rattle.sv_elab_stmt.proofs.CaseWalks.{common_type_is, case_unasked, case_undivided}
use Rattle.sv_elab_stmt.proofs.CaseWalks.{selector_found, case_unarmed, case_found, if_unasked}
use Rattle.sv_elab_stmt.proofs.CaseWalks.{if_unwalked, if_found}
use Rattle.sv_elab_stmt.proofs.CaseWalks.{else_unasked, else_unwalked, else_broken, else_found}
use Rattle.sv_elab_stmt.proofs.statements.+statements.Goals as goal

-- ---- blocks

pub block-returns-in_err-flat-clause-broken : goal.block-returns-in_err-flat-clause-broken
block-returns-in_err-flat-clause-broken t c =
    let names = names_of c.args.scope.now in
    let stmts = c.args.stmts.now in
    let i = c.loop-stmt.stmt-index in
    let stmt = c.stmt-item.result in
    handed_on c.from_residual-in_err-flat.result _ _ c.from_residual-in_err-flat.ensures.1
    (rest_broken _ (λ xs. (statements_walk names (statements_of (statement_trees xs))).end)
    (before (flat_statements c.loop-stmt.flats.items)) _ _ _ c.loop-stmt.invariant.walk
    (left_more stmts i stmt c.loop-stmt-test.true c.stmt-item.is)
    (statements_broken names (statement_tree stmt)
    (statements_of (statement_trees (drop (i + 1) stmts))) _ c.in_err-flat.ensures.broken))

pub block-loop-stmt-preserved : goal.block-loop-stmt-preserved
block-loop-stmt-preserved t c =
    let names = names_of c.args.scope.now in
    let stmts = c.args.stmts.now in
    let i = c.loop-stmt.stmt-index in
    let stmt = c.stmt-item.result in
    let rest = statements_of (statement_trees (drop (i + 1) stmts)) in
    let old = c.loop-stmt.flats.items in
    let new = c.in_ok-flat.field-0 in
    let split = left_more stmts i stmt c.loop-stmt-test.true c.stmt-item.is in
    record {
      walk = ap (λ ss. mapped (before ss) (statements_walk names rest).end)
          (ap flat_statements c.in_ok-push.ensures.items ∙ forms_push flat_statement old new)
          ∙ block_push (flat_statements old) (flat_statement new) (statements_walk names rest).end
          ∙ ap (mapped (before (flat_statements old)))
          (sym (statements_more names (statement_tree stmt) rest (flat_statement new)
          c.in_ok-flat.ensures.found)
          ∙ ap (λ xs. (statements_walk names (statements_of (statement_trees xs))).end) (sym split))
          ∙ c.loop-stmt.invariant.walk;
      shaped = (and_parts (is_shaped_statement (statement_tree stmt)) (are_shaped_statements rest)
          (ap (λ xs. are_shaped_statements (statements_of (statement_trees xs))) (sym split)
          ∙ c.loop-stmt.invariant.shaped)).1;
    }

pub block-returns-clause-found : goal.block-returns-clause-found
block-returns-clause-found t c =
    let names = names_of c.args.scope.now in
    let so_far = flat_statements c.loop-stmt.flats.items in
    sym c.loop-stmt.invariant.walk
    ∙ ap (λ xs. mapped (before so_far)
    (statements_walk names (statements_of (statement_trees xs))).end)
    (left_none c.args.stmts.now c.loop-stmt.stmt-index c.loop-stmt-test.false)
    ∙ ap (mapped (before so_far)) (statements_none names)
    ∙ ap (λ x. Ok x) (before_nothing so_far ∙ sym (row_chain-hidden c.loop-stmt.flats))

-- ---- arms

pub flat_arm-returns-in_err-items-clause-broken : goal.flat_arm-returns-in_err-items-clause-broken
flat_arm-returns-in_err-items-clause-broken t c =
    let names = names_of c.args.scope.now in
    let n = c.args.to.width in
    let s = c.args.to.signed in
    let fault = c.in_err-items.field-0.0 in
    handed_on c.from_residual.result _ _ c.from_residual.ensures.1
    (arm_unasked names n s (arm_tree c.args.arm.now) fault
    (subst (λ es. IsBreach (items_walk names n s es).end fault) c.requires.all
    c.in_err-items.ensures.broken))

pub flat_arm-returns-in_err-body-clause-broken : goal.flat_arm-returns-in_err-body-clause-broken
flat_arm-returns-in_err-body-clause-broken t c =
    let names = names_of c.args.scope.now in
    let n = c.args.to.width in
    let s = c.args.to.signed in
    handed_on c.from_residual-in_err-body.result _ _ c.from_residual-in_err-body.ensures.1
    (arm_unwalked names n s (arm_tree c.args.arm.now) (typed_trees c.in_ok-items.items.items)
    c.in_err-body.field-0.0
    (ap (λ es. (items_walk names n s es).end) (sym c.requires.all) ∙ c.in_ok-items.ensures.found)
    c.in_err-body.ensures.broken)

pub flat_arm-returns-clause-found : goal.flat_arm-returns-clause-found
flat_arm-returns-clause-found t c =
    let names = names_of c.args.scope.now in
    let n = c.args.to.width in
    let s = c.args.to.signed in
    arm_found names n s (arm_tree c.args.arm.now) (typed_trees c.in_ok-items.items.items)
    (flat_statement c.in_ok-body.body)
    (ap (λ es. (items_walk names n s es).end) (sym c.requires.all) ∙ c.in_ok-items.ensures.found)
    c.in_ok-body.ensures.found

pub flat_arms-slice_bounds-flat_arm-end : goal.flat_arms-slice_bounds-flat_arm-end
flat_arms-slice_bounds-flat_arm-end t c =
    let arms = c.args.arms.now in
    let items = c.args.items.now in
    let arm = c.arm-item.result in
    let split = left_more arms c.loop-arm.arm-index arm c.loop-arm-test.true c.arm-item.is in
    let all = c.loop-arm.invariant.all ∙ ap (λ xs. arm_items (arms_of (arm_trees xs))) split in
    let long = trees_long (drop c.loop-arm.next items) (expression_trees arm.items.items)
    (arm_items (arms_of (arm_trees (drop (c.loop-arm.arm-index + 1) arms)))) all in
    let size = trees_length arm.items.items in
    let count : c.len.result ≡ length arm.items.items = c.len.ensures ∙ arm.items.ok.0 in
    let inside : c.loop-arm.next + c.len.result ≤ length items =
    omega (
      arith,
      long,
      size,
      count,
      length-drop c.loop-arm.next
          items,
      c.loop-arm.invariant.inside,
    ) in
    inside

pub flat_arms-flat_arm-requires : goal.flat_arms-flat_arm-requires
flat_arms-flat_arm-requires t c =
    let names = names_of c.args.scope.now in
    let arms = c.args.arms.now in
    let arm = c.arm-item.result in
    let next = c.loop-arm.next in
    let others = arms_of (arm_trees (drop (c.loop-arm.arm-index + 1) arms)) in
    let split = left_more arms c.loop-arm.arm-index arm c.loop-arm-test.true c.arm-item.is in
    let all = c.loop-arm.invariant.all ∙ ap (λ xs. arm_items (arms_of (arm_trees xs))) split in
    let size = trees_length arm.items.items in
    let count : c.len.result ≡ length arm.items.items = c.len.ensures ∙ arm.items.ok.0 in
    let own = own_items names c.args.to.width (drop next c.args.items.now)
    (next + c.len.result - next) (expression_trees arm.items.items)
    (arm_items others) all (omega (arith, size, count)) c.loop-arm.invariant.each
    c.loop-arm.invariant.wide in
    let shapes = and_parts (list_all is_shaped_expression (expression_trees arm.items.items)
    && is_shaped_statement (statement_tree arm.body))
    (are_shaped_arms others) (ap (λ xs. are_shaped_arms (arms_of (arm_trees xs))) (sym split)
    ∙ c.loop-arm.invariant.shaped) in
    let shape = and_parts (list_all is_shaped_expression (expression_trees arm.items.items))
    (is_shaped_statement (statement_tree arm.body)) shapes.0 in
    (search (rules, the_lemmas), (shape.0, (shape.1, (own.0, (own.1, own.2)))))

pub flat_arms-returns-in_err-flat_arm-clause-broken :
    goal.flat_arms-returns-in_err-flat_arm-clause-broken
flat_arms-returns-in_err-flat_arm-clause-broken t c =
    let names = names_of c.args.scope.now in
    let n = c.args.to.width in
    let s = c.args.to.signed in
    let arms = c.args.arms.now in
    let i = c.loop-arm.arm-index in
    let arm = c.arm-item.result in
    handed_on c.from_residual-in_err-flat_arm.result _ _ c.from_residual-in_err-flat_arm.ensures.1
    (rest_broken _ (λ xs. (arms_walk names n s (arms_of (arm_trees xs))).end)
    (λ fs. flat_arms c.loop-arm.flats.items ++ fs) _ _ _ c.loop-arm.invariant.walk
    (left_more arms i arm c.loop-arm-test.true c.arm-item.is)
    (arms_broken names n s (arm_tree arm) (arm_trees (drop (i + 1) arms)) _
    c.in_err-flat_arm.ensures.broken))

pub flat_arms-loop-arm-preserved : goal.flat_arms-loop-arm-preserved
flat_arms-loop-arm-preserved t c =
    let names = names_of c.args.scope.now in
    let n = c.args.to.width in
    let s = c.args.to.signed in
    let arms = c.args.arms.now in
    let items = c.args.items.now in
    let i = c.loop-arm.arm-index in
    let arm = c.arm-item.result in
    let next = c.loop-arm.next in
    let old = c.loop-arm.flats.items in
    let new = c.in_ok-flat_arm.field-0 in
    let others = arms_of (arm_trees (drop (i + 1) arms)) in
    let split = left_more arms i arm c.loop-arm-test.true c.arm-item.is in
    let all = c.loop-arm.invariant.all ∙ ap (λ xs. arm_items (arms_of (arm_trees xs))) split in
    let long = trees_long (drop next items) (expression_trees arm.items.items)
    (arm_items others) all in
    let size = trees_length arm.items.items in
    let count : c.len.result ≡ length arm.items.items = c.len.ensures ∙ arm.items.ok.0 in
    let own = own_items names n (drop next items) c.len.result (expression_trees arm.items.items)
    (arm_items others) all (omega (arith, size, count)) c.loop-arm.invariant.each
    c.loop-arm.invariant.wide in
    let behind = drop-drop c.len.result next items in
    let shapes = and_parts (list_all is_shaped_expression (expression_trees arm.items.items)
    && is_shaped_statement (statement_tree arm.body))
    (are_shaped_arms others) (ap (λ xs. are_shaped_arms (arms_of (arm_trees xs))) (sym split)
    ∙ c.loop-arm.invariant.shaped) in
    record {
      walk = ap (λ ts. mapped (λ fs. ts ++ fs) (arms_walk names n s others).end)
          (ap flat_arms c.in_ok-push.ensures.items ∙ forms_push flat_arm old new)
          ∙ mapped_push (flat_arms old) (flat_arm new) (arms_walk names n s others).end
          ∙ ap (λ r. mapped (λ fs. flat_arms old ++ fs) r)
          (sym (arms_more names n s (arm_tree arm) (arm_trees (drop (i + 1) arms)) (flat_arm new)
          c.in_ok-flat_arm.ensures.found)
          ∙ ap (λ xs. (arms_walk names n s (arms_of (arm_trees xs))).end) (sym split))
          ∙ c.loop-arm.invariant.walk;
      all = ap item_trees (sym behind) ∙ own.3;
      each = subst (AreItems names) behind own.4;
      wide = subst (λ (xs : List CaseItem). greatest xs ≤ n) behind own.5;
      inside =
          omega (arith, long, size, count, length-drop next items, c.loop-arm.invariant.inside);
      shaped = shapes.1;
    }

pub flat_arms-returns-clause-found : goal.flat_arms-returns-clause-found
flat_arms-returns-clause-found t c =
    let names = names_of c.args.scope.now in
    let n = c.args.to.width in
    let s = c.args.to.signed in
    let so_far = flat_arms c.loop-arm.flats.items in
    sym c.loop-arm.invariant.walk
    ∙ ap (λ xs. mapped (λ fs. so_far ++ fs) (arms_walk names n s (arms_of (arm_trees xs))).end)
    (left_none c.args.arms.now c.loop-arm.arm-index c.loop-arm-test.false)
    ∙ ap (λ r. mapped (λ fs. so_far ++ fs) r) (arms_none names n s)
    ∙ mapped_none so_far

-- ---- statements

pub flat-block-requires : goal.flat-block-requires
flat-block-requires t c =
    let rows = ap (λ ss. statements_of (statement_trees ss)) c.deref-in-Block.ensures.value
    ∙ sym (row_statements-hidden c.in-Block.stmts) in (
      search (rules, the_lemmas),
      subst (λ ss. IsTrue (are_shaped_statements ss)) (sym rows)
          (subst (λ (x : Stmt). IsTrue (is_shaped_statement (statement_tree x))) c.in-Block.is
          c.requires),
    )

block_at : (s : Stmt) → (ss : List Stmt)
    → statement_tree s ≡ block (statements_of (statement_trees ss))
    → (names : Names) → (statement_walk names (statement_tree s)).end ≡
    (statements_walk names (statements_of (statement_trees ss))).end
unfolding statement_walk statements_walk arms_walk
block_at s ss is names = ap (λ x. (statement_walk names x).end) is

pub flat-returns-in-Block-clause-found : goal.flat-returns-in-Block-clause-found
flat-returns-in-Block-clause-found t c =
    let rows = ap (λ ss. statements_of (statement_trees ss)) c.deref-in-Block.ensures.value
    ∙ sym (row_statements-hidden c.in-Block.stmts) in
    let is = block_at c.args.stmt.now c.deref-in-Block.result.now (ap statement_tree c.in-Block.is
    ∙ ap block (sym rows)) (names_of c.args.scope.now) in
    ok_weaker c.block.result _ _ (λ f h. is ∙ h) c.block.ensures.found

pub flat-returns-in-Block-clause-broken : goal.flat-returns-in-Block-clause-broken
flat-returns-in-Block-clause-broken t c =
    let rows = ap (λ ss. statements_of (statement_trees ss)) c.deref-in-Block.ensures.value
    ∙ sym (row_statements-hidden c.in-Block.stmts) in
    let is = block_at c.args.stmt.now c.deref-in-Block.result.now (ap statement_tree c.in-Block.is
    ∙ ap block (sym rows)) (names_of c.args.scope.now) in
    err_weaker c.block.result _ _ (λ f h.
    subst (λ r. IsBreach r f) (sym is) h) c.block.ensures.broken

pub flat-returns-in-Null-clause-found : goal.flat-returns-in-Null-clause-found
unfolding statement_walk statements_walk arms_walk
flat-returns-in-Null-clause-found t c =
    ap (λ (x : Stmt). (statement_walk (names_of c.args.scope.now) (statement_tree x)).end)
    c.in-Null.is
    ∙ ap (λ f. Ok f) (sym c.nothing.ensures)

assigned_at : (names : Names) (s : Stmt) (ts : List TargetTree) (p : Place) (b : Bool)
    (e : ExpressionTree) → statement_tree s ≡ assignment ts p b e
    → (statement_walk names (statement_tree s)).end ≡ (assignment_walk names ts p b e).end
unfolding statement_walk statements_walk arms_walk
assigned_at names s ts p b e is = ap (λ x. (statement_walk names x).end) is

pub flat-returns-in-Assign-clause-found : goal.flat-returns-in-Assign-clause-found
flat-returns-in-Assign-clause-found t c =
    let a = c.in-Assign in
    let is = assigned_at (names_of c.args.scope.now) c.args.stmt.now
    (map target_tree c.deref.result.now) a.place a.blocking (expression_tree a.value)
    (ap statement_tree a.is
    ∙ ap (λ ts. assignment (map target_tree ts) a.place a.blocking (expression_tree a.value))
    (sym c.deref.ensures.value)) in
    ok_weaker c.assignment.result _ _ (λ f h. is ∙ h) c.assignment.ensures.found

pub flat-returns-in-Assign-clause-broken : goal.flat-returns-in-Assign-clause-broken
flat-returns-in-Assign-clause-broken t c =
    let a = c.in-Assign in
    let is = assigned_at (names_of c.args.scope.now) c.args.stmt.now
    (map target_tree c.deref.result.now) a.place a.blocking (expression_tree a.value)
    (ap statement_tree a.is
    ∙ ap (λ ts. assignment (map target_tree ts) a.place a.blocking (expression_tree a.value))
    (sym c.deref.ensures.value)) in
    err_weaker c.assignment.result _ _ (λ f h.
    subst (λ r. IsBreach r f) (sym is) h) c.assignment.ensures.broken

pub flat-case-requires : goal.flat-case-requires
flat-case-requires t c =
    let rows = ap (λ arms. arms_of (arm_trees arms)) c.deref-in-Case.ensures.value
    ∙ sym (row_arms-hidden c.in-Case.arms) in
    let shape = case_shape c.in-Case.place (expression_tree c.in-Case.selector)
    (row_arms (hidden-the_row-Arm-1 c.in-Case.arms))
    (subst (λ (x : Stmt). IsTrue (is_shaped_statement (statement_tree x))) c.in-Case.is
    c.requires) in (
      search (rules, the_lemmas),
      (
        subst (λ arms.
            IsTrue (are_shaped_arms arms)) (sym rows) shape.0,
        shape.1,
      ),
    )

pub flat-returns-in-Case-clause-found : goal.flat-returns-in-Case-clause-found
flat-returns-in-Case-clause-found t c =
    let names = names_of c.args.scope.now in
    let rows = ap (λ arms. arms_of (arm_trees arms)) c.deref-in-Case.ensures.value
    ∙ sym (row_arms-hidden c.in-Case.arms) in
    let is = ap statement_tree c.in-Case.is
    ∙ ap (case_of c.in-Case.place (expression_tree c.in-Case.selector)) (sym rows) in
    ok_weaker c.case.result _ _ (λ f h.
    ap (λ x. (statement_walk names x).end) is ∙ h c.in-Case.place) c.case.ensures.found

pub flat-returns-in-Case-clause-broken : goal.flat-returns-in-Case-clause-broken
flat-returns-in-Case-clause-broken t c =
    let names = names_of c.args.scope.now in
    let rows = ap (λ arms. arms_of (arm_trees arms)) c.deref-in-Case.ensures.value
    ∙ sym (row_arms-hidden c.in-Case.arms) in
    let is = ap statement_tree c.in-Case.is
    ∙ ap (case_of c.in-Case.place (expression_tree c.in-Case.selector)) (sym rows) in
    err_weaker c.case.result _ _ (λ f h.
    subst (λ x. IsBreach (statement_walk names x).end f) (sym is) (h c.in-Case.place))
    c.case.ensures.broken

if_at : (s : Stmt) (place : Place) (cond : Expr) (first : Box Stmt Global)
    (other : Option (Box Stmt Global)) → s ≡ If place cond first other
    → other ≡ None → statement_tree s ≡
    if_only place (expression_tree cond) (statement_tree first.value)
if_at s place cond first other is none =
    ap statement_tree is ∙ ap (λ o. statement_tree (If place cond first o)) none

else_at : (s : Stmt) (place : Place) (cond : Expr) (first second : Box Stmt Global)
    (other : Option (Box Stmt Global)) → s ≡ If place cond first other
    → other ≡ Some second
    → statement_tree s ≡ if_else place (expression_tree cond) (statement_tree first.value)
    (statement_tree second.value)
else_at s place cond first second other is some =
    ap statement_tree is ∙ ap (λ o. statement_tree (If place cond first o)) some

-- ---- conditional statements

pub without_else-returns-in_err-cond-clause-broken :
    goal.without_else-returns-in_err-cond-clause-broken
without_else-returns-in_err-cond-clause-broken t c =
    handed_on c.from_residual.result _ _ c.from_residual.ensures.1
    (if_unasked (names_of c.args.scope.now) c.args.place (expression_tree c.args.cond.now)
    (statement_tree c.args.yes.now)
    c.in_err-cond.field-0.0 c.in_err-cond.ensures.broken)

pub without_else-returns-in_err-yes-clause-broken :
    goal.without_else-returns-in_err-yes-clause-broken
without_else-returns-in_err-yes-clause-broken t c =
    handed_on c.from_residual-in_err-yes.result _ _ c.from_residual-in_err-yes.ensures.1
    (if_unwalked (names_of c.args.scope.now) c.args.place (expression_tree c.args.cond.now)
    (statement_tree c.args.yes.now)
    c.in_err-yes.field-0.0 (typed_tree c.in_ok-cond.cond) c.in_ok-cond.ensures.found
    c.in_err-yes.ensures.broken)

pub without_else-returns-clause-found : goal.without_else-returns-clause-found
without_else-returns-clause-found t c =
    if_found (names_of c.args.scope.now) c.args.place (expression_tree c.args.cond.now)
    (statement_tree c.args.yes.now)
    (typed_tree c.in_ok-cond.cond) (flat_statement c.in_ok-yes.yes.value) c.in_ok-cond.ensures.found
    c.in_ok-yes.ensures.found
    ∙ ap (λ f.
    Ok (branch c.args.place (typed_tree c.in_ok-cond.cond)
    (flat_statement c.in_ok-yes.yes.value) f))
    (sym (ap flat_statement c.in_ok-no.ensures.ok ∙ c.nothing.ensures))

pub flat-returns-in-None-clause-found : goal.flat-returns-in-None-clause-found
flat-returns-in-None-clause-found t c =
    let names = names_of c.args.scope.now in
    let x = c.in-If in
    let is = if_at c.args.stmt.now x.place x.cond x.yes x.no x.is c.in-None.is
    ∙ ap (λ s. if_only x.place (expression_tree x.cond) (statement_tree s))
    (sym c.deref-in-None.ensures) in
    ok_weaker c.without_else.result _ _ (λ f h.
    ap (λ tree. (statement_walk names tree).end) is ∙ h) c.without_else.ensures.found

pub flat-returns-in-None-clause-broken : goal.flat-returns-in-None-clause-broken
flat-returns-in-None-clause-broken t c =
    let names = names_of c.args.scope.now in
    let x = c.in-If in
    let is = if_at c.args.stmt.now x.place x.cond x.yes x.no x.is c.in-None.is
    ∙ ap (λ s. if_only x.place (expression_tree x.cond) (statement_tree s))
    (sym c.deref-in-None.ensures) in
    err_weaker c.without_else.result _ _ (λ f h.
    subst (λ tree. IsBreach (statement_walk names tree).end f) (sym is) h)
    c.without_else.ensures.broken

pub flat-returns-in_err-cond-in-Some-clause-broken :
    goal.flat-returns-in_err-cond-in-Some-clause-broken
flat-returns-in_err-cond-in-Some-clause-broken t c =
    let names = names_of c.args.scope.now in
    let x = c.in-If in
    let cond = expression_tree x.cond in
    let first = statement_tree x.yes.value in
    let second = statement_tree c.in-Some.no.value in
    let is = else_at c.args.stmt.now x.place x.cond x.yes c.in-Some.no x.no x.is c.in-Some.is in
    let fault = c.in_err-cond-in-Some.field-0.0 in
    handed_on c.from_residual.result _ _ c.from_residual.ensures.1
    (subst (λ tree. IsBreach (statement_walk names tree).end fault) (sym is)
    (else_unasked names x.place cond first second fault c.in_err-cond-in-Some.ensures.broken))

pub flat-returns-in_err-yes-in-Some-clause-broken :
    goal.flat-returns-in_err-yes-in-Some-clause-broken
flat-returns-in_err-yes-in-Some-clause-broken t c =
    let names = names_of c.args.scope.now in
    let x = c.in-If in
    let cond = expression_tree x.cond in
    let first = statement_tree x.yes.value in
    let second = statement_tree c.in-Some.no.value in
    let is = else_at c.args.stmt.now x.place x.cond x.yes c.in-Some.no x.no x.is c.in-Some.is in
    let fault = c.in_err-yes-in-Some.field-0.0 in
    handed_on c.from_residual-in_err-yes-in-Some.result _ _
    c.from_residual-in_err-yes-in-Some.ensures.1
    (subst (λ tree. IsBreach (statement_walk names tree).end fault) (sym is)
    (else_unwalked names x.place cond first second fault (typed_tree c.in_ok-cond-in-Some.cond)
    c.in_ok-cond-in-Some.ensures.found
    (subst (λ s. IsBreach (statement_walk names (statement_tree s)).end fault)
    c.deref-in-Some.ensures c.in_err-yes-in-Some.ensures.broken)))

pub flat-returns-in_err-no-in-Some-clause-broken : goal.flat-returns-in_err-no-in-Some-clause-broken
flat-returns-in_err-no-in-Some-clause-broken t c =
    let names = names_of c.args.scope.now in
    let x = c.in-If in
    let cond = expression_tree x.cond in
    let first = statement_tree x.yes.value in
    let second = statement_tree c.in-Some.no.value in
    let is = else_at c.args.stmt.now x.place x.cond x.yes c.in-Some.no x.no x.is c.in-Some.is in
    let fault = c.in_err-no-in-Some.field-0.0 in
    handed_on c.from_residual-in_err-no-in-Some.result _ _
    c.from_residual-in_err-no-in-Some.ensures.1
    (subst (λ tree. IsBreach (statement_walk names tree).end fault) (sym is)
    (else_broken names x.place cond first second fault (typed_tree c.in_ok-cond-in-Some.cond)
    (flat_statement c.in_ok-yes-in-Some.yes.value)
    c.in_ok-cond-in-Some.ensures.found
    (ap (λ s. (statement_walk names (statement_tree s)).end) (sym c.deref-in-Some.ensures)
    ∙ c.in_ok-yes-in-Some.ensures.found)
    (subst (λ s. IsBreach (statement_walk names (statement_tree s)).end fault)
    c.deref-in-Some-2.ensures c.in_err-no-in-Some.ensures.broken)))

pub flat-returns-in_ok-no-in-Some-clause-found : goal.flat-returns-in_ok-no-in-Some-clause-found
flat-returns-in_ok-no-in-Some-clause-found t c =
    let names = names_of c.args.scope.now in
    let x = c.in-If in
    let cond = expression_tree x.cond in
    let first = statement_tree x.yes.value in
    let second = statement_tree c.in-Some.no.value in
    let is = else_at c.args.stmt.now x.place x.cond x.yes c.in-Some.no x.no x.is c.in-Some.is in
    ap (λ tree. (statement_walk names tree).end) is
    ∙ else_found names x.place cond first second (typed_tree c.in_ok-cond-in-Some.cond)
    (flat_statement c.in_ok-yes-in-Some.yes.value)
    (flat_statement c.in_ok-no-in-Some.no.value) c.in_ok-cond-in-Some.ensures.found
    (ap (λ s. (statement_walk names (statement_tree s)).end) (sym c.deref-in-Some.ensures)
    ∙ c.in_ok-yes-in-Some.ensures.found)
    (ap (λ s. (statement_walk names (statement_tree s)).end) (sym c.deref-in-Some-2.ensures)
    ∙ c.in_ok-no-in-Some.ensures.found)

-- ---- cases

pub case-returns-in_err-operand-clause-broken : goal.case-returns-in_err-operand-clause-broken
case-returns-in_err-operand-clause-broken t c =
    handed_on c.from_residual.result _ _ c.from_residual.ensures.1
    (λ p. case_unasked (names_of c.args.scope.now) p (expression_tree c.args.selector.now)
    (arms_of (arm_trees c.args.arms.now)) _ _ refl refl
    c.in_err-operand.field-0.0 c.in_err-operand.ensures.broken)

pub case-returns-in_err-typed_selector-clause-broken :
    goal.case-returns-in_err-typed_selector-clause-broken
case-returns-in_err-typed_selector-clause-broken t c =
    let names = names_of c.args.scope.now in
    let e = expression_tree c.args.selector.now in
    let arms = arms_of (arm_trees c.args.arms.now) in
    let is = c.in_ok-operand.ensures.found in
    let common = common_type_is names e c.in_ok-operand.operand is c.in_ok-items.items.items
    c.in_ok-items.ensures.each arms c.in_ok-items.ensures.all c.deref.result.now
    c.common_type-to.result.width c.common_type-to.result.signed c.deref.ensures.value
    c.common_type-to.ensures.width c.common_type-to.ensures.signed in
    handed_on c.from_residual-in_err-typed_selector.result _ _
    c.from_residual-in_err-typed_selector.ensures.1
    (λ p. case_undivided names p e arms c.common_type-to.result.width c.common_type-to.result.signed
    common.0 common.1 c.in_err-typed_selector.field-0.0 is.0
    (c.in_err-typed_selector.ensures.broken names false e is))

pub case-returns-in_err-flats-clause-broken : goal.case-returns-in_err-flats-clause-broken
case-returns-in_err-flats-clause-broken t c =
    let names = names_of c.args.scope.now in
    let e = expression_tree c.args.selector.now in
    let arms = arms_of (arm_trees c.args.arms.now) in
    let is = c.in_ok-operand.ensures.found in
    let common = common_type_is names e c.in_ok-operand.operand is c.in_ok-items.items.items
    c.in_ok-items.ensures.each arms c.in_ok-items.ensures.all c.deref.result.now
    c.common_type-to.result.width c.common_type-to.result.signed c.deref.ensures.value
    c.common_type-to.ensures.width c.common_type-to.ensures.signed in
    let typed = c.in_ok-typed_selector.ensures.found names false e is in
    handed_on c.from_residual-in_err-flats.result _ _ c.from_residual-in_err-flats.ensures.1
    (λ p. case_unarmed names p e arms c.common_type-to.result.width c.common_type-to.result.signed
    common.0 common.1 c.in_err-flats.field-0.0 (typed_tree c.in_ok-typed_selector.typed_selector)
    (selector_found names p e arms c.common_type-to.result.width c.common_type-to.result.signed
    common.0 common.1 is.0 typed.0
    (typed_tree c.in_ok-typed_selector.typed_selector) typed.1)
    c.in_err-flats.ensures.broken)

pub case-returns-in_err-complete-clause-broken : goal.case-returns-in_err-complete-clause-broken
case-returns-in_err-complete-clause-broken t c =
    let names = names_of c.args.scope.now in
    let e = expression_tree c.args.selector.now in
    let arms = arms_of (arm_trees c.args.arms.now) in
    let n = c.common_type-to.result.width in
    let s = c.common_type-to.result.signed in
    let value = c.deref-3.ensures.value in
    let each = subst (AreItems names) (sym value) c.in_ok-items.ensures.each in
    let passed = passed_arms names n s arms (flat_arms c.in_ok-flats.flats.items)
    c.in_ok-flats.ensures.found in
    let all = subst (ArePassed names n s) (sym (ap item_trees value ∙ c.in_ok-items.ensures.all))
    passed in
    let memory = c.in_err-complete.ensures.memory names each all in
    handed_on c.from_residual-in_err-complete.result _ _ c.from_residual-in_err-complete.ensures.1
    (λ p. breach_memory c.in_err-complete.field-0.0 memory
    (statement_walk names (case_of p e arms)).end)

pub case-returns-clause-found : goal.case-returns-clause-found
case-returns-clause-found t c = λ p.
    let names = names_of c.args.scope.now in
    let e = expression_tree c.args.selector.now in
    let arms = arms_of (arm_trees c.args.arms.now) in
    let n = c.common_type-to.result.width in
    let s = c.common_type-to.result.signed in
    let is = c.in_ok-operand.ensures.found in
    let each = c.in_ok-items.ensures.each in
    let all = c.in_ok-items.ensures.all in
    let selector = typed_tree c.in_ok-typed_selector.typed_selector in
    let flats = flat_arms c.in_ok-flats.flats.items in
    let common = common_type_is names e c.in_ok-operand.operand is c.in_ok-items.items.items
    each arms all c.deref.result.now n s c.deref.ensures.value c.common_type-to.ensures.width
    c.common_type-to.ensures.signed in
    let typed = c.in_ok-typed_selector.ensures.found names false e is in
    let value = c.deref-3.ensures.value in
    let trees = ap item_trees value ∙ all in
    let passed = subst (ArePassed names n s) (sym trees)
    (passed_arms names n s arms flats c.in_ok-flats.ensures.found) in
    let complete = c.in_ok-complete.ensures.found names (subst (AreItems names) (sym value) each)
    passed (sym is.1 ∙ sym c.width.ensures.width)
    ∙ ap (λ es. is_complete names.scope e es n s) trees in
    case_found names p e arms n s common.0 common.1 selector flats
    (selector_found names p e arms n s common.0 common.1 is.0 typed.0 selector typed.1)
    c.in_ok-flats.ensures.found
    ∙ ap (λ b. Ok (case_chain selector b (filter has_items flats) (default_of flats)))
    (sym complete)
    ∙ ap (λ x. Ok x) (sym c.in_ok-case_chain.ensures)
