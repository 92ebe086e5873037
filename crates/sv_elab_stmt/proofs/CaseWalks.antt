-- Where the walks of conditional statements and cases end.
use Rattle.std.proofs.Common.{◌≡◌, ℕ, ◌≤◌, max, Bool, true, false, List, [], ◌∷◌, ◌++◌, length}
use Rattle.std.proofs.Common.{take, drop, refl, sym, ap, ◌∙◌, subst, arith}
use Rattle.std.specs.Prelude.{◌&&◌, not, filter, nat_le, Ok, IsTrue}
use Rattle.std.proofs.lemmas.Bool.{and_parts}
use Rattle.std.proofs.lemmas.List.{take-append-drop, length-take}
use Rattle.sv_num.specs.declared.faults.Fault.{Fault}
use Rattle.sv_num.specs.declared.faults.Place.{Place}
use Rattle.sv_ast.specs.declared.expressions.Expr.{Expr}
use Rattle.sv_ast.specs.Instances.{is_empty}
use Rattle.sv_ast.specs.Shape.{is_shaped_expression, is_shaped_statement, has_arm, default_count}
use Rattle.sv_ast.specs.Shape.{are_shaped_arms}
use Rattle.sv_ast.specs.Tree.{ExpressionTree, StatementTree, if_only, if_else, case_of, ArmTrees}
use Rattle.sv_ast.specs.Tree.{no_arms, more_arms}
use Rattle.sv_ast.specs.Values.{length_of, signed_of}
use Rattle.sv_ast.specs.Views.{expression_trees}
use Rattle.sv_flat.specs.Design.{TypedTree, FlatStatement, nothing, branch}
use Rattle.sv_elab_rules.specs.Walks.{done}
use Rattle.sv_elab_rules.specs.Names.{Names}
use Rattle.sv_elab_rules.specs.TypedExpressions.{typed_of}
use Rattle.sv_elab_rules.specs.ExpressionSteps.{asked, divisors, typed_walk, expression_walk}
use Rattle.sv_elab_rules.specs.CaseChains.{FlatArm, arm_items, items_length, items_signed, common_length}
use Rattle.sv_elab_rules.specs.CaseChains.{common_signed, case_chain, default_of, is_complete}
use Rattle.sv_elab_rules.specs.Statements.{items_walk, statement_walk, statements_walk, arms_walk}
use Rattle.sv_elab_rules.proofs.WalkLemmas.{end_after, parts_done}
use Rattle.sv_width.specs.declared.measured.Measured.{Measured}
use Rattle.sv_width.specs.Answers.{IsBreach}
use Rattle.sv_width.specs.Operands.{IsOperandOf, own_width, own_signed}
use Rattle.sv_width.proofs.Measures.{breach_first, breach_after, passes_on}
use Rattle.sv_elab_stmt.specs.declared.cases.CaseItem.{CaseItem}
use Rattle.sv_elab_stmt.specs.Cases.{item_trees, AreItems, greatest, all_signed, ArePassed}
use Rattle.sv_elab_stmt.proofs.CaseFacts.{arms_length_items, arms_sign_items}
use Rattle.sv_elab_stmt.proofs.ItemFacts.{greatest_is, all_signed_is, items_both, greatest_both}
use Rattle.sv_elab_stmt.proofs.ItemFacts.{trees_both, trees_long}

pub trees_length : (es : List Expr) → length (expression_trees es) ≡ length es
trees_length [] = refl
trees_length (e ∷ es) = omega (arith, trees_length es)

-- a case that is shaped has a shaped selector and shaped arms
pub case_shape : (p : Place) (e : ExpressionTree) (arms : ArmTrees)
    → IsTrue (is_shaped_statement (case_of p e arms))
    → IsTrue (are_shaped_arms arms) × IsTrue (is_shaped_expression e)
case_shape p e arms shape =
    let outer = and_parts (is_shaped_expression e && has_arm arms && nat_le (default_count arms) 1)
    (are_shaped_arms arms) shape in
    let middle = and_parts (is_shaped_expression e && has_arm arms) (nat_le (default_count arms) 1)
    outer.0 in
    (outer.1, (and_parts (is_shaped_expression e) (has_arm arms) middle.0).0)

-- the items of an arm, and those of the others
pub own_items : (names : Names) (w : ℕ) (rest : List CaseItem) (m : ℕ) (es fs : List ExpressionTree)
    → item_trees rest ≡ es ++ fs
    → m ≡ length es → AreItems names rest → greatest rest ≤ w
    → (item_trees (take m rest) ≡ es) × AreItems names (take m rest) × (greatest (take m rest) ≤ w)
    × (item_trees (drop m rest) ≡ fs) × AreItems names (drop m rest) × (greatest (drop m rest) ≤ w)
own_items names w rest m es fs all is each wide =
    let joined : take m rest ++ drop m rest ≡ rest = take-append-drop m rest in
    let long = trees_long rest es fs all in
    let size : length (take m rest) ≡ length es = omega (arith, length-take m rest, is, long) in
    let trees = trees_both (take m rest) (drop m rest) es fs size (ap item_trees joined ∙ all) in
    let items = items_both names (take m rest) (drop m rest)
    (subst (AreItems names) (sym joined) each) in
    let few = greatest_both (take m rest) (drop m rest) w
    (subst (λ (zs : List CaseItem). greatest zs ≤ w) (sym joined) wide) in
    (trees.0, items.0, few.0, trees.1, items.1, few.1)

-- ---- items that pass

passed_both : (names : Names) (n : ℕ) (s : Bool) (es fs : List ExpressionTree)
    → ArePassed names n s es → ArePassed names n s fs
    → ArePassed names n s (es ++ fs)
passed_both names n s [] fs p q = q
passed_both names n s (e ∷ es) fs p q = (p.0, passed_both names n s es fs p.1 q)

passed_items : (names : Names) (n : ℕ) (s : Bool) (es : List ExpressionTree) (ts : List TypedTree)
    → (items_walk names n s es).end ≡ Ok ts → ArePassed names n s es
unfolding items_walk
passed_items names n s [] ts h = tt
passed_items names n s (e ∷ es) ts h =
    let first = parts_done (asked names true e) _ ts h in
    let second = parts_done (divisors names.scope e n s) _ ts first.2 in
    let rest = parts_done (items_walk names n s es) _ ts second.2 in
    ((first.1, second.1), passed_items names n s es rest.0 rest.1)

pub passed_arms : (names : Names) (n : ℕ) (s : Bool) (arms : ArmTrees) (flat : List FlatArm)
    → (arms_walk names n s arms).end ≡ Ok flat → ArePassed names n s (arm_items arms)
unfolding arms_walk
passed_arms names n s no_arms flat h = tt
passed_arms names n s (more_arms p items body arms) flat h =
    let first = parts_done (items_walk names n s items) _ flat h in
    let second = parts_done (statement_walk names body) _ flat first.2 in
    let third = parts_done (arms_walk names n s arms) _ flat second.2 in
    passed_both names n s items (arm_items arms) (passed_items names n s items first.0 first.1)
    (passed_arms names n s arms third.0 third.1)

-- ---- the common type

module _ (names : Names) (e : ExpressionTree) (o : Measured) (is : IsOperandOf names false e o)
    (items : List CaseItem)
    (each : AreItems names items) (arms : ArmTrees) (all : item_trees items ≡ arm_items arms) where
  pub common_width : max (own_width o) (greatest items) ≡ common_length names e arms
  common_width =
      ap (λ k. max k (greatest items)) is.1
      ∙ ap (λ k. max (length_of names.scope e) k)
      (greatest_is names items each ∙ ap (items_length names) all
      ∙ sym (arms_length_items names arms))

  pub common_is_signed : (own_signed o && all_signed items) ≡ common_signed names e arms
  common_is_signed =
      ap (λ b. b && all_signed items) is.2
      ∙ ap (λ b. signed_of names.scope e && b)
      (all_signed_is names items each ∙ ap (items_signed names) all
      ∙ sym (arms_sign_items names arms))

  -- so the length and the signedness of a list with these items are the common ones
  pub common_type_is : (now : List CaseItem) (n : ℕ) (s : Bool) → now ≡ items
      → n ≡ max (own_width o) (greatest now)
      → s ≡ (own_signed o && all_signed now)
      → (n ≡ common_length names e arms) × (s ≡ common_signed names e arms)
  common_type_is now n s same width signed = (
    width ∙ ap (λ xs. max (own_width o) (greatest xs)) same ∙ common_width,
    signed ∙ ap (λ xs. own_signed o && all_signed xs) same ∙ common_is_signed,
  )

-- ---- the walk of a case, at a length and signedness that are the common ones

module _ (names : Names) (p : Place) (e : ExpressionTree) (arms : ArmTrees) (n : ℕ) (s : Bool)
    (length_is : n ≡ common_length names e arms) (sign_is : s ≡ common_signed names e arms) where
  typed_same : (typed_walk names e (common_length names e arms) (common_signed names e arms)).end ≡
      (typed_walk names e n s).end
  typed_same =
      sym (ap (λ k. (typed_walk names e k s).end) length_is
      ∙ ap (λ b. (typed_walk names e (common_length names e arms) b).end) sign_is)

  arms_same : (arms_walk names (common_length names e arms) (common_signed names e arms) arms).end ≡
      (arms_walk names n s arms).end
  arms_same =
      sym (ap (λ k. (arms_walk names k s arms).end) length_is
      ∙ ap (λ b. (arms_walk names (common_length names e arms) b arms).end) sign_is)

  pub case_unasked : (f : Fault) → IsBreach (asked names false e).end f →
      IsBreach (statement_walk names (case_of p e arms)).end f
  unfolding statement_walk statements_walk arms_walk typed_walk
  case_unasked f h =
      breach_first (typed_walk names e (common_length names e arms)
      (common_signed names e arms)) _ f
      (breach_first (asked names false e) _ f h)

  typed_divided : (f : Fault) → (asked names false e).end ≡ Ok tt
      → IsBreach (divisors names.scope e n s).end f
      → IsBreach (typed_walk names e n s).end f
  unfolding typed_walk
  typed_divided f first h =
      breach_after (asked names false e) _ tt f first
      (breach_first (divisors names.scope e n s) _ f h)

  pub case_undivided : (f : Fault) → (asked names false e).end ≡ Ok tt
      → IsBreach (divisors names.scope e n s).end f
      → IsBreach (statement_walk names (case_of p e arms)).end f
  unfolding statement_walk statements_walk arms_walk
  case_undivided f first h =
      breach_first (typed_walk names e (common_length names e arms)
      (common_signed names e arms)) _ f
      (subst (λ r. IsBreach r f) (sym typed_same) (typed_divided f first h))

  pub selector_found : (asked names false e).end ≡ Ok tt → (divisors names.scope e n s).end ≡ Ok tt
      → (v : TypedTree)
      → v ≡ typed_of names e n s → (typed_walk names e n s).end ≡ Ok v
  unfolding typed_walk
  selector_found first second v is =
      passes_on (asked names false e) _ _ first
      (passes_on (divisors names.scope e n s) _ _ second (ap (λ x. (done x).end) (sym is)))

  pub case_unarmed : (f : Fault) (v : TypedTree) → (typed_walk names e n s).end ≡ Ok v
      → IsBreach (arms_walk names n s arms).end f
      → IsBreach (statement_walk names (case_of p e arms)).end f
  unfolding statement_walk statements_walk arms_walk
  case_unarmed f v first h =
      breach_after (typed_walk names e (common_length names e arms)
      (common_signed names e arms)) _ v
      f (typed_same ∙ first)
      (breach_first (arms_walk names (common_length names e arms) (common_signed names e arms)
      arms) _ f
      (subst (λ r. IsBreach r f) (sym arms_same) h))

  pub case_found : (v : TypedTree) (flat : List FlatArm) → (typed_walk names e n s).end ≡ Ok v
      → (arms_walk names n s arms).end ≡ Ok flat
      → (statement_walk names (case_of p e arms)).end ≡
      Ok (case_chain v (is_complete names.scope e (arm_items arms) n s)
      (filter (λ (arm : FlatArm). not (is_empty arm.items)) flat) (default_of flat))
  unfolding statement_walk statements_walk arms_walk
  case_found v flat first second =
      end_after (typed_walk names e (common_length names e arms) (common_signed names e arms)) _ v
      (typed_same ∙ first)
      ∙ end_after (arms_walk names (common_length names e arms) (common_signed names e arms) arms) _
      flat (arms_same ∙ second)
      ∙ sym (ap (λ k. Ok (case_chain v (is_complete names.scope e (arm_items arms) k s)
      (filter (λ (arm : FlatArm). not (is_empty arm.items)) flat) (default_of flat))) length_is
      ∙ ap (λ b.
      Ok (case_chain v (is_complete names.scope e (arm_items arms)
      (common_length names e arms) b)
      (filter (λ (arm : FlatArm). not (is_empty arm.items)) flat) (default_of flat))) sign_is)

-- ---- conditional statements

module _ (names : Names) (p : Place) (c : ExpressionTree) (a : StatementTree) where
  pub if_unasked : (f : Fault) → IsBreach (expression_walk names c 0).end f →
      IsBreach (statement_walk names (if_only p c a)).end f
  unfolding statement_walk statements_walk arms_walk
  if_unasked f h = breach_first (expression_walk names c 0) _ f h

  pub if_unwalked : (f : Fault) (v : TypedTree) → (expression_walk names c 0).end ≡ Ok v
      → IsBreach (statement_walk names a).end f
      → IsBreach (statement_walk names (if_only p c a)).end f
  unfolding statement_walk statements_walk arms_walk
  if_unwalked f v first h =
      breach_after (expression_walk names c 0) _ v f first
      (breach_first (statement_walk names a) _ f h)

  pub if_found : (v : TypedTree) (x : FlatStatement) → (expression_walk names c 0).end ≡ Ok v
      → (statement_walk names a).end ≡ Ok x
      → (statement_walk names (if_only p c a)).end ≡ Ok (branch p v x nothing)
  unfolding statement_walk statements_walk arms_walk
  if_found v x first second =
      end_after (expression_walk names c 0) _ v first
      ∙ end_after (statement_walk names a) _ x second

  pub else_unasked : (b : StatementTree) (f : Fault) → IsBreach (expression_walk names c 0).end f
      → IsBreach (statement_walk names (if_else p c a b)).end f
  unfolding statement_walk statements_walk arms_walk
  else_unasked b f h = breach_first (expression_walk names c 0) _ f h

  pub else_unwalked : (b : StatementTree) (f : Fault) (v : TypedTree)
      → (expression_walk names c 0).end ≡ Ok v
      → IsBreach (statement_walk names a).end f
      → IsBreach (statement_walk names (if_else p c a b)).end f
  unfolding statement_walk statements_walk arms_walk
  else_unwalked b f v first h =
      breach_after (expression_walk names c 0) _ v f first
      (breach_first (statement_walk names a) _ f h)

  pub else_broken : (b : StatementTree) (f : Fault) (v : TypedTree) (x : FlatStatement)
      → (expression_walk names c 0).end ≡ Ok v
      → (statement_walk names a).end ≡ Ok x → IsBreach (statement_walk names b).end f
      → IsBreach (statement_walk names (if_else p c a b)).end f
  unfolding statement_walk statements_walk arms_walk
  else_broken b f v x first second h =
      breach_after (expression_walk names c 0) _ v f first
      (breach_after (statement_walk names a) _ x f second
      (breach_first (statement_walk names b) _ f h))

  pub else_found : (b : StatementTree) (v : TypedTree) (x y : FlatStatement)
      → (expression_walk names c 0).end ≡ Ok v
      → (statement_walk names a).end ≡ Ok x → (statement_walk names b).end ≡ Ok y
      → (statement_walk names (if_else p c a b)).end ≡ Ok (branch p v x y)
  unfolding statement_walk statements_walk arms_walk
  else_found b v x y first second third =
      end_after (expression_walk names c 0) _ v first
      ∙ end_after (statement_walk names a) _ x second
      ∙ end_after (statement_walk names b) _ y third
