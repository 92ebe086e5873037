-- What the walk over a case found, and when the flat chain of it takes an arm.
use Rattle.std.proofs.Common.{◌≡◌, ℕ, max, Bool, true, false, cond, List, [], ◌∷◌, ◌++◌, map, refl}
use Rattle.std.proofs.Common.{sym, ap, ◌∙◌}
use Rattle.std.specs.Prelude.{◌==◌, ◌&&◌, ◌||◌, Ok}
use Rattle.std.specs.List.{list_any}
use Rattle.std.proofs.lemmas.Bool.{eqb-true, eq-eqb, both_ways, false_from_ne_true}
use Rattle.sv_num.specs.declared.faults.Place.{Place}
use Rattle.sv_num.specs.declared.operators.BinOp.TheVariants.{LogicOr}
use Rattle.sv_num.specs.Vectors.{truth, is_true}
use Rattle.sv_system.specs.System.{Environment}
use Rattle.sv_ast.specs.Tree.{ExpressionTree, StatementTree, ArmTrees, no_arms, more_arms}
use Rattle.sv_ast.specs.Values.{length_of, signed_of, value as source_value}
use Rattle.sv_ast.specs.Runs.{has_item, items_length as source_items_length}
use Rattle.sv_ast.specs.Runs.{items_signed as source_items_sign, arms_length as source_arms_length}
use Rattle.sv_ast.specs.Runs.{arms_signed as source_arms_sign}
use Rattle.sv_flat.specs.Design.{SignalForm, TypedTree, typed, binary as binary_node, FlatStatement}
use Rattle.sv_flat.specs.Design.{nothing}
use Rattle.sv_flat.specs.Values.{value}
use Rattle.sv_flat.specs.Runs.{Updates, run}
use Rattle.sv_elab_rules.specs.Walks.{value_or, done}
use Rattle.sv_elab_rules.specs.Names.{Names}
use Rattle.sv_elab_rules.specs.TypedExpressions.{typed_of}
use Rattle.sv_elab_rules.specs.ExpressionSteps.{asked, divisors}
use Rattle.sv_elab_rules.specs.CaseChains.{FlatArm, arm_items, item_length, item_signed, items_length}
use Rattle.sv_elab_rules.specs.CaseChains.{items_signed, arms_length, arms_signed, equals, or_equals}
use Rattle.sv_elab_rules.specs.CaseChains.{arm_branch, chain, closed_chain}
use Rattle.sv_elab_rules.specs.Statements.{items_walk, statement_walk, arms_walk}
use Rattle.sv_elab_rules.proofs.WalkLemmas.{parts_done, end_after}
use Rattle.sv_width.specs.Agreement.{AllDeclared, HaveSignals, HaveValues}
use Rattle.sv_width.proofs.Sound.{passed_sound}
use Rattle.sv_width.proofs.SameValue.{same_value}
use Rattle.sv_elab_laws.proofs.CompleteCases.{ItemsPass}

-- ---- what the walk found

pub items_found : (names : Names) (n : ℕ) (s : Bool) (es : List ExpressionTree)
    (ts : List TypedTree) → (items_walk names n s es).end ≡ Ok ts
    → ItemsPass names es × (map (λ (e : ExpressionTree). typed_of names e n s) es ≡ ts)
unfolding items_walk
items_found names n s [] ts h = (tt, cc h)
items_found names n s (e ∷ es) ts h =
    let first = parts_done (asked names true e) _ ts h in
    let second = parts_done (divisors names.scope e n s) _ ts first.2 in
    let third = parts_done (items_walk names n s es) _ ts second.2 in
    let rest = items_found names n s es third.0 third.1 in
    let is : typed_of names e n s ∷ third.0 ≡ ts = cc third.2 in
    ((first.1, rest.0), ap (λ (xs : List TypedTree). typed_of names e n s ∷ xs) rest.1 ∙ is)

abbrev pub flat_arm : Place → List TypedTree → FlatStatement → FlatArm
flat_arm p items body = record { place = p; items = items; body = body }

-- one arm and the rest
pub record ArmFound (names : Names) (n : ℕ) (s : Bool) (p : Place) (items : List ExpressionTree)
    (body : StatementTree)
    (arms : ArmTrees) (flat : List FlatArm) : Type 0 where
  pub first : FlatStatement
  pub rest : List FlatArm
  pub items_pass : ItemsPass names items
  pub first_is : (statement_walk names body).end ≡ Ok first
  pub rest_is : (arms_walk names n s arms).end ≡ Ok rest
  pub is : flat_arm p (map (λ (e : ExpressionTree). typed_of names e n s) items) first ∷ rest ≡ flat

pub arm_found : (names : Names) (n : ℕ) (s : Bool) (p : Place) (items : List ExpressionTree)
    (body : StatementTree)
    (arms : ArmTrees) (flat : List FlatArm)
    → (arms_walk names n s (more_arms p items body arms)).end ≡ Ok flat
    → ArmFound names n s p items body arms flat
unfolding arms_walk
arm_found names n s p items body arms flat h =
    let first = parts_done (items_walk names n s items) _ flat h in
    let second = parts_done (statement_walk names body) _ flat first.2 in
    let third = parts_done (arms_walk names n s arms) _ flat second.2 in
    let typed_items = items_found names n s items first.0 first.1 in
    let last : flat_arm p first.0 second.0 ∷ third.0 ≡ flat = cc third.2 in
    record {
      first = second.0;
      rest = third.0;
      items_pass = typed_items.0;
      first_is = second.1;
      rest_is = third.1;
      is = ap (λ (ts : List TypedTree). flat_arm p ts second.0 ∷ third.0) typed_items.1 ∙ last;
    }

pub no_arm_found : (names : Names) (n : ℕ) (s : Bool) (flat : List FlatArm) →
    (arms_walk names n s no_arms).end ≡ Ok flat → [] ≡ flat
unfolding arms_walk
no_arm_found names n s flat h = cc h

-- the items of all arms
pub arms_pass : (names : Names) (n : ℕ) (s : Bool) (arms : ArmTrees) (flat : List FlatArm)
    → (arms_walk names n s arms).end ≡ Ok flat
    → ItemsPass names (arm_items arms)
arms_pass names n s no_arms flat h = tt
arms_pass names n s (more_arms p items body arms) flat h =
    let found = arm_found names n s p items body arms flat h in
    both items (arm_items arms) found.items_pass (arms_pass names n s arms found.rest found.rest_is)
  where
    both : (xs ys : List ExpressionTree) → ItemsPass names xs → ItemsPass names ys →
        ItemsPass names (xs ++ ys)
    both [] ys p q = q
    both (x ∷ xs) ys p q = (p.0, both xs ys p.1 q)

-- ---- the common type

module _ (names : Names) where
  item_length_same : (e : ExpressionTree) → (asked names true e).end ≡ Ok tt →
      item_length names e ≡ length_of names.scope e
  unfolding item_length
  item_length_same e h =
      ap (λ r. value_or r 0) (end_after (asked names true e) (λ _.
      done (length_of names.scope e)) tt h)

  item_sign_same : (e : ExpressionTree) → (asked names true e).end ≡ Ok tt →
      item_signed names e ≡ signed_of names.scope e
  unfolding item_signed
  item_sign_same e h =
      ap (λ r. value_or r true) (end_after (asked names true e) (λ _.
      done (signed_of names.scope e)) tt h)

  items_type : (es : List ExpressionTree) → ItemsPass names es
      → (items_length names es ≡ source_items_length (length_of names.scope) es)
      × (items_signed names es ≡ source_items_sign (signed_of names.scope) es)
  items_type [] pass = (refl, refl)
  items_type (e ∷ es) pass =
      let rest = items_type es pass.1 in (
        ap (λ k. max k (items_length names es)) (item_length_same e pass.0)
            ∙ ap (λ k. max (length_of names.scope e) k) rest.0,
        ap (λ b. b && items_signed names es) (item_sign_same e pass.0)
            ∙ ap (λ b. signed_of names.scope e && b) rest.1,
      )

  -- of arms that break no rule
  pub arms_type : (n : ℕ) (s : Bool) (arms : ArmTrees) (flat : List FlatArm)
      → (arms_walk names n s arms).end ≡ Ok flat
      → (arms_length names arms ≡ source_arms_length (length_of names.scope) arms)
      × (arms_signed names arms ≡ source_arms_sign (signed_of names.scope) arms)
  arms_type n s no_arms flat h = (refl, refl)
  arms_type n s (more_arms p items body arms) flat h =
      let found = arm_found names n s p items body arms flat h in
      let first = items_type items found.items_pass in
      let rest = arms_type n s arms found.rest found.rest_is in (
        ap (λ k. max k (arms_length names arms)) first.0
            ∙ ap (λ k. max (source_items_length (length_of names.scope) items) k) rest.0,
        ap (λ b. b && arms_signed names arms) first.1
            ∙ ap (λ b. source_items_sign (signed_of names.scope) items && b) rest.1,
      )

-- ---- when an arm is taken

is_true_truth : (b : Bool) → is_true (truth b) ≡ b
is_true_truth true = refl
is_true_truth false = refl

pub or_assoc : (a b c : Bool) → (a || b || c) ≡ (a || (b || c))
or_assoc true b c = refl
or_assoc false b c = refl

pub or_none : (a : Bool) → (a || false) ≡ a
or_none true = refl
or_none false = refl

pub turned : (a b : ℕ) → (a == b) ≡ (b == a)
turned a b = by (a == b) refl
  where
    by : (t : Bool) → (a == b) ≡ t → t ≡ (b == a)
    by true is = sym (eq-eqb b a (sym (eqb-true a b is)))
    by false is =
        sym (false_from_ne_true (b == a) (λ h.
        both_ways (a == b) is (eq-eqb a b (sym (eqb-true b a h)))))

module _ (signals : List SignalForm) (environment : Environment ℕ) where
  -- the selector has the value of one of the items
  abbrev pub is_among : (selector : ℕ) → List TypedTree → Bool
  is_among v ts = list_any (λ (t : TypedTree). v == value signals environment t) ts

  or_equals_value : (selector before : TypedTree) (ts : List TypedTree)
      → is_true (value signals environment (or_equals selector before ts))
      ≡ (is_true (value signals environment before)
      || is_among (value signals environment selector) ts)
  or_equals_value selector before [] = sym (or_none (is_true (value signals environment before)))
  or_equals_value selector before (t ∷ ts) =
      let v : ℕ = value signals environment selector in
      let x : Bool = is_true (value signals environment before) in
      or_equals_value selector (typed 1 false (binary_node LogicOr before (equals selector t))) ts
      ∙ ap (λ b. b || is_among v ts)
      (is_true_truth (x || is_true (truth (v == value signals environment t))))
      ∙ ap (λ b. x || b || is_among v ts) (is_true_truth (v == value signals environment t))
      ∙ or_assoc x (v == value signals environment t) (is_among v ts)

  arm_taken : (selector t : TypedTree) (ts : List TypedTree)
      → is_true (value signals environment (or_equals selector (equals selector t) ts)) ≡
      is_among (value signals environment selector) (t ∷ ts)
  arm_taken selector t ts =
      or_equals_value selector (equals selector t) ts
      ∙ ap (λ b. b || is_among (value signals environment selector) ts)
      (is_true_truth (value signals environment selector == value signals environment t))

-- ---- chains

module _ (signals : List SignalForm) (flat : Environment ℕ × Updates) (selector : TypedTree) where
  abbrev taken : List TypedTree → Bool
  taken ts = is_among signals flat.0 (value signals flat.0 selector) ts

  -- an arm is taken where the selector is among its items
  pub arm_runs : (p : Place) (items : List TypedTree) (body rest : FlatStatement)
      → run signals (arm_branch selector p items body rest) flat ≡
      cond (taken items) (run signals body flat) (run signals rest flat)
  arm_runs p [] body rest = refl
  arm_runs p (t ∷ ts) body rest =
      ap (λ b. cond b (run signals body flat) (run signals rest flat))
      (arm_taken signals flat.0 selector t ts)

  -- some arm is taken
  abbrev pub some_taken : List FlatArm → Bool
  some_taken arms = list_any (λ (arm : FlatArm). taken arm.items) arms

  same_rest : (b c : Bool) (x y z : Environment ℕ × Updates) → (b || c) ≡ true →
      (c ≡ true → y ≡ z) → cond b x y ≡ cond b x z
  same_rest true c x y z h same = refl
  same_rest false c x y z h same = same h

  last_taken : (b : Bool) (x y : Environment ℕ × Updates) → (b || false) ≡ true → x ≡ cond b x y
  last_taken true x y h = refl
  last_taken false x y h = absurd (cc h)

  -- then the last arm may as well be the default
  closed_runs : (arm : FlatArm) (arms : List FlatArm) → some_taken (arm ∷ arms) ≡ true
      → run signals (closed_chain selector (arm ∷ arms)) flat ≡
      run signals (chain selector (arm ∷ arms) nothing) flat
  closed_runs arm [] h =
      last_taken (taken arm.items) (run signals arm.body flat) flat h
      ∙ sym (arm_runs arm.place arm.items arm.body nothing)
  closed_runs arm (next ∷ arms) h =
      arm_runs arm.place arm.items arm.body (closed_chain selector (next ∷ arms))
      ∙ same_rest (taken arm.items) (some_taken (next ∷ arms)) (run signals arm.body flat)
      (run signals (closed_chain selector (next ∷ arms)) flat)
      (run signals (chain selector (next ∷ arms) nothing) flat) h
      (λ more. closed_runs next arms more)
      ∙ sym (arm_runs arm.place arm.items arm.body (chain selector (next ∷ arms) nothing))

  pub closed_same : (arms : List FlatArm) → some_taken arms ≡ true
      → run signals (closed_chain selector arms) flat ≡
      run signals (chain selector arms nothing) flat
  closed_same [] h = absurd (cc h)
  closed_same (arm ∷ arms) h = closed_runs arm arms h

-- ---- by the source

module _ (names : Names) (signals : List SignalForm) (declared : AllDeclared names)
    (listed : HaveSignals names signals)
    (by_name : Environment (List ℕ)) (by_num : Environment ℕ)
    (values : HaveValues names by_name by_num) where
  pub among_same : (n : ℕ) (s : Bool) (v w : ℕ) → v ≡ w → (es : List ExpressionTree)
      → ItemsPass names es
      → is_among signals by_num v (map (λ (e : ExpressionTree). typed_of names e n s) es) ≡
      has_item names.scope by_name n s w es
  among_same n s v w same [] pass = refl
  among_same n s v w same (e ∷ es) pass =
      ap (λ x. (x == value signals by_num (typed_of names e n s))
      || is_among signals by_num v (map (λ (i : ExpressionTree). typed_of names i n s) es)) same
      ∙ ap (λ x. (w == x) || is_among signals by_num v
      (map (λ (i : ExpressionTree). typed_of names i n s) es))
      (same_value names declared signals listed by_name by_num values true e
      (passed_sound names true e pass.0) n s)
      ∙ ap (λ b. b || is_among signals by_num v (map (λ (i : ExpressionTree).
      typed_of names i n s) es)) (turned w (source_value names.scope by_name e n s))
      ∙ ap (λ b. (source_value names.scope by_name e n s == w) || b)
      (among_same n s v w same es pass.1)
