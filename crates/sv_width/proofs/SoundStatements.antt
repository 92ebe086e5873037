-- The flat statement at the end of a walk is sound.
use Rattle.std.proofs.Common.{◌≡◌, ℕ, ◌+◌, ◌-◌, ◌<◌, ◌≤◌, max, Bool, true, false, cond, List, []}
use Rattle.std.proofs.Common.{◌∷◌, Option, Some, None, refl, sym, ap, ◌∙◌, subst, arith}
use Rattle.std.specs.Prelude.{◌&&◌, ◌==◌, nat_lt, nat_le, not, filter, if◌then◌else◌, IsTrue}
use Rattle.std.specs.Prelude.{Result, Ok, Err, ℤ, pos, negsuc}
use Rattle.std.specs.Bool.{beq}
use Rattle.std.specs.List.{list_all}
use Rattle.std.proofs.lemmas.Bool.{and_parts, and_from, leb-true, lt-ltb, ltb-true, le-leb, eq-eqb}
use Rattle.sv_num.specs.declared.faults.Place.{Place}
use Rattle.sv_num.specs.Parts.{span_of}
use Rattle.sv_num.specs.declared.operators.BinOp.TheVariants.{LogicOr}
use Rattle.sv_ast.specs.Scopes.{Scope, Binding, parameter, signal, width_of}
use Rattle.sv_ast.specs.Tree.{ExpressionTree, Selection, whole, bit_at, part_from, TargetTree}
use Rattle.sv_ast.specs.Tree.{StatementTree, null, assignment, block, if_only, if_else, case_of}
use Rattle.sv_ast.specs.Tree.{StatementTrees, no_statements, more_statements, ArmTrees, no_arms}
use Rattle.sv_ast.specs.Tree.{more_arms}
use Rattle.sv_ast.specs.Instances.{is_signal, is_empty}
use Rattle.sv_ast.specs.Runs.{selected, target_width, targets_width}
use Rattle.sv_ast.specs.Shape.{is_shaped_expression, is_whole, is_whole_target, are_shaped_targets}
use Rattle.sv_ast.specs.Shape.{is_shaped_statement, are_shaped_statements, has_arm, default_count}
use Rattle.sv_ast.specs.Shape.{are_shaped_arms}
use Rattle.sv_ast.specs.Values.{natural, length_of, joined_length, signed_of, whole_number}
use Rattle.sv_flat.specs.Design.{SignalForm, TypedTree, typed, binary, FlatStatement, nothing}
use Rattle.sv_flat.specs.Design.{after, assign}
use Rattle.sv_flat.specs.Values.{signal_width, expression_width, expression_signed}
use Rattle.sv_flat.specs.Soundness.{is_whole as is_whole_piece, is_part_of, piece_fits, well_formed}
use Rattle.sv_flat.specs.Soundness.{statement_sound, is_signal as is_number_of_signal}
use Rattle.sv_elab_rules.specs.Walks.{WalkStep, Steps, done, ask, each, value_or}
use Rattle.sv_elab_rules.specs.Names.{Names}
use Rattle.sv_elab_rules.specs.TypedExpressions.{typed_of}
use Rattle.sv_elab_rules.specs.ExpressionSteps.{is_below, asked, divisors, constant_walk, typed_walk}
use Rattle.sv_elab_rules.specs.ExpressionSteps.{expression_walk}
use Rattle.sv_elab_rules.specs.Targets.{highest, lowest, selection_steps, target_steps, targets_steps}
use Rattle.sv_elab_rules.specs.Targets.{pieces_of, assignment_walk}
use Rattle.sv_elab_rules.specs.CaseChains.{FlatArm, item_length, items_length, arms_length, arm_items}
use Rattle.sv_elab_rules.specs.CaseChains.{common_length, common_signed, equals, or_equals, arm_branch}
use Rattle.sv_elab_rules.specs.CaseChains.{chain, closed_chain, default_of, case_chain, is_complete}
use Rattle.sv_elab_rules.specs.Statements.{items_walk, statement_walk, statements_walk, arms_walk}
use Rattle.sv_elab_rules.proofs.WalkLemmas.{end_after, end_broken, parts_done, if_only_done}
use Rattle.sv_elab_rules.proofs.WalkLemmas.{if_else_done, asked_true}
use Rattle.sv_width.specs.Agreement.{AllDeclared, HaveSignals, HaveLengths, IsLength}
use Rattle.sv_width.specs.Agreement.{NumbersHaveLengths}
use Rattle.sv_width.proofs.Sound.{both_pass, passed_sound}
use Rattle.sv_width.proofs.SameValue.{type_of_typed}
use Rattle.sv_width.proofs.Lengths.{three_parts, own_length, part_inside}
use Rattle.sv_width.proofs.WellFormed.{typed_formed}
use Rattle.sv_width.specs.WrittenLengths.{ItemsHaveLengths, StatementHasLengths}
use Rattle.sv_width.specs.WrittenLengths.{StatementsHaveLengths, ArmsHaveLengths}

-- ---- targets

pub signal_there : (b : Option Binding) → is_signal b ≡ true
    → (width : ℕ) × (signed : Bool) × (b ≡ Some (signal width signed))
signal_there (Some (signal width signed)) h = (width, signed, refl)
signal_there (Some (parameter n)) h = absurd (cc h)
signal_there None h = absurd (cc h)

signal_length : (scope : Scope) → HaveLengths scope → (n : List ℕ) → is_signal (scope n) ≡ true
    → IsLength (width_of (scope n))
signal_length scope lengths n h =
    let there = signal_there (scope n) h in
    subst (λ (b : Option Binding).
    IsLength (width_of b)) (sym there.2) (lengths n (signal there.0 there.1) there.2)

pub below_natural : (limit : ℕ) (z : ℤ) → is_below limit z ≡ true → natural z < limit
below_natural limit (pos n) h = ltb-true n limit h
below_natural limit (negsuc n) h = absurd (cc h)

-- the bits of a selection lie inside the signal, and are as many as the selected expression has
abbrev pub IsRange : Names → List ℕ → Place → Selection → Type 0
IsRange names n p sel =
    (highest names.scope (width_of (names.scope n)) sel < width_of (names.scope n))
    × (lowest names.scope sel ≤ highest names.scope (width_of (names.scope n)) sel)
    × (span_of (highest names.scope (width_of (names.scope n)) sel) (lowest names.scope sel)
    ≡ length_of names.scope (selected n p sel))

pub range_of : (names : Names) → HaveLengths names.scope
    → (n : List ℕ) (p : Place) (sel : Selection)
    → is_signal (names.scope n) ≡ true → (selection_steps names n p sel).end ≡ Ok tt
    → IsRange names n p sel
unfolding selection_steps length_of joined_length
range_of names lengths n p whole h passes =
    let long = signal_length names.scope lengths n h in
    (omega (arith, long.0), omega arith, omega (arith, long.0))
range_of names lengths n p (bit_at i) h passes =
    let parts = parts_done (constant_walk names i) _ tt passes in
    let test = asked_true _ _ parts.2 in
    let inside = below_natural (width_of (names.scope n)) (whole_number names.scope i) test in
    (inside, omega arith, omega arith)
range_of names lengths n p (part_from high low) h passes =
    let first = parts_done (constant_walk names high) _ tt passes in
    let second = parts_done (constant_walk names low) _ tt first.2 in
    let test = asked_true _ _ second.2 in
    let inside = part_inside (width_of (names.scope n)) (whole_number names.scope high)
    (whole_number names.scope low) test in
    (inside.0, inside.1, refl)

pub target_passes : (names : Names) (t : TargetTree) → (target_steps names t).end ≡ Ok tt
    → (is_signal (names.scope t.name) ≡ true)
    × ((selection_steps names t.name t.place t.selection).end ≡ Ok tt)
unfolding target_steps
target_passes names t h =
    let both = both_pass (ask (is_signal (names.scope t.name)) _) (λ _.
    selection_steps names t.name t.place t.selection) h in
    (asked_true _ _ both.0, both.1)

pub each_parts : {X : Type 0} (step : X → Steps) (x : X) (xs : List X)
    → (each step (x ∷ xs)).end ≡ Ok tt
    → ((step x).end ≡ Ok tt) × ((each step xs).end ≡ Ok tt)
unfolding each
each_parts step x xs h = both_pass (step x) (λ _. each step xs) h

-- ---- lengths of items

pub passed_length : (names : Names) (e : ExpressionTree) → (asked names true e).end ≡ Ok tt
    → item_length names e ≡ length_of names.scope e
unfolding item_length
passed_length names e h =
    ap (λ r. value_or r 0) (end_after (asked names true e) (λ _.
    done (length_of names.scope e)) tt h)

pub broken_length : (names : Names) (e : ExpressionTree) (s : WalkStep)
    → (asked names true e).end ≡ Err s
    → item_length names e ≡ 0
unfolding item_length
broken_length names e s h =
    ap (λ r. value_or r 0) (end_broken (asked names true e) (λ _.
    done (length_of names.scope e)) s h)

same_sign : (s : Bool) → beq s s ≡ true
same_sign true = refl
same_sign false = refl

module _ (names : Names) (declared : AllDeclared names) (lengths : HaveLengths names.scope)
    (signals : List SignalForm) (has_signals : HaveSignals names signals) where
  -- ---- expressions

  own : (c : Bool) (e : ExpressionTree) → (asked names c e).end ≡ Ok tt
      → IsTrue (is_shaped_expression e)
      → NumbersHaveLengths e → IsLength (length_of names.scope e)
  own c e passes shape numbers =
      own_length names lengths c (λ _. declared) e (passed_sound names c e passes) shape numbers

  formed : (c : Bool) (e : ExpressionTree) → (asked names c e).end ≡ Ok tt
      → IsTrue (is_shaped_expression e)
      → NumbersHaveLengths e → (n : ℕ) (s : Bool) → length_of names.scope e ≤ n → IsLength n
      → well_formed signals (typed_of names e n s) ≡ true
  formed c e passes shape numbers n s fits long =
      typed_formed names declared lengths signals has_signals c e (passed_sound names c e passes)
      shape numbers n s fits long

  -- a typed form of a length and signedness
  abbrev IsTyped : (n : ℕ) → (s : Bool) → TypedTree → Type 0
  IsTyped n s e =
      (well_formed signals e ≡ true) × (expression_width e ≡ n) × (expression_signed e ≡ s)

  typed_at : (e : ExpressionTree) → IsTrue (is_shaped_expression e) → NumbersHaveLengths e
      → (n : ℕ) (s : Bool)
      → IsLength n → ((asked names false e).end ≡ Ok tt → length_of names.scope e ≤ n)
      → (v : TypedTree) → (typed_walk names e n s).end ≡ Ok v → IsTyped n s v
  unfolding typed_walk
  typed_at e shape numbers n s long fits v h =
      let first = parts_done (asked names false e) _ v h in
      let second = parts_done (divisors names.scope e n s) _ v first.2 in
      let is : typed_of names e n s ≡ v = cc second.2 in
      let sort = type_of_typed names e n s in
      subst (IsTyped n s) is
      (formed false e first.1 shape numbers n s (fits first.1) long, sort.0, sort.1)

  pub expression_sound : (e : ExpressionTree) → IsTrue (is_shaped_expression e)
      → NumbersHaveLengths e → (width : ℕ)
      → width ≤ 64 → (v : TypedTree) → (expression_walk names e width).end ≡ Ok v
      → (well_formed signals v ≡ true) × (width ≤ expression_width v)
  unfolding expression_walk typed_walk
  expression_sound e shape numbers width few v h =
      let first = parts_done (asked names false e) _ v h in
      let long = own false e first.1 shape numbers in
      let result = typed_at e shape numbers (max (length_of names.scope e) width)
      (signed_of names.scope e)
      (omega (arith, long.0), omega (arith, long.1)) (λ _. omega arith) v h in
      (result.0, omega (arith, result.1))

  -- ---- assignments

  piece_inside : (t : TargetTree) → (target_steps names t).end ≡ Ok tt → (e : TypedTree) (from : ℕ)
      → target_width names.scope t + from ≤ expression_width e
      → piece_fits signals e (record {
        signal = names.number t.name;
        place = t.place;
        high = highest names.scope (width_of (names.scope t.name)) t.selection;
        low = lowest names.scope t.selection;
        from = from;
      }) ≡ true
  piece_inside t passes e from fits =
      let both = target_passes names t passes in
      let range = range_of names lengths t.name t.place t.selection both.0 both.1 in
      let there = signal_there (names.scope t.name) both.0 in
      let place = has_signals t.name there.0 there.1 there.2 in
      let width : width_of (names.scope t.name) ≡ there.0 = ap width_of there.2 in
      let high : ℕ = highest names.scope (width_of (names.scope t.name)) t.selection in
      let low : ℕ = lowest names.scope t.selection in
      let n : ℕ = signal_width signals (names.number t.name) in
      and_from (is_number_of_signal signals (names.number t.name))
      (is_part_of n (expression_width e - from) high low) place.0
      (and_from (nat_le low high && nat_lt high n)
      (nat_le (high + 1 - low) (expression_width e - from))
      (and_from (nat_le low high) (nat_lt high n) (le-leb low high range.1)
      (lt-ltb high n (omega (arith, range.0, width, place.1))))
      (le-leb (high + 1 - low) (expression_width e - from) (omega (arith, range.2, fits))))

  pieces_inside : (ts : List TargetTree) → (each (target_steps names) ts).end ≡ Ok tt
      → (e : TypedTree)
      → targets_width names.scope ts ≤ expression_width e
      → list_all (piece_fits signals e) (pieces_of names ts) ≡ true
  pieces_inside [] passes e fits = refl
  pieces_inside (t ∷ ts) passes e fits =
      let both = each_parts (target_steps names) t ts passes in
      and_from _ _ (piece_inside t both.0 e (targets_width names.scope ts) fits)
      (pieces_inside ts both.1 e (omega (arith, fits)))

  pub assignment_sound : (ts : List TargetTree) (p : Place) (blocking : Bool) (e : ExpressionTree)
      → IsTrue (is_shaped_expression e) → NumbersHaveLengths e → (f : FlatStatement)
      → (assignment_walk names ts p blocking e).end ≡ Ok f → statement_sound signals f ≡ true
  unfolding assignment_walk targets_steps
  assignment_sound ts p blocking e shape numbers f h =
      let first = parts_done (targets_steps names ts p) _ f h in
      let targets = both_pass (each (target_steps names) ts) _ first.1 in
      let few : targets_width names.scope ts ≤ 64 = leb-true _ _ (asked_true _ _ targets.1) in
      let second = parts_done (expression_walk names e (targets_width names.scope ts)) _ f
      first.2 in
      let value = expression_sound e shape numbers (targets_width names.scope ts) few second.0
      second.1 in
      let is : assign (pieces_of names ts) p blocking second.0 ≡ f = cc second.2 in
      subst (λ x. statement_sound signals x ≡ true) is
      (and_from _ _ value.0 (pieces_inside ts targets.0 second.0 value.1))

  -- a piece of a whole target
  whole_bits : (n : List ℕ) (sel : Selection) → is_signal (names.scope n) ≡ true
      → is_whole sel ≡ true
      → ((lowest names.scope sel == 0)
      && (highest names.scope (width_of (names.scope n)) sel + 1
      == signal_width signals (names.number n))) ≡ true
  whole_bits n whole h all =
      let there = signal_there (names.scope n) h in
      let place = has_signals n there.0 there.1 there.2 in
      let long = lengths n (signal there.0 there.1) there.2 in
      let width : width_of (names.scope n) ≡ there.0 = ap width_of there.2 in
      let few : 1 ≤ there.0 = long.0 in
      eq-eqb (width_of (names.scope n) - 1 + 1) (signal_width signals (names.number n))
      (omega (arith, few, width, place.1))
  whole_bits n (bit_at i) h all = absurd (cc all)
  whole_bits n (part_from high low) h all = absurd (cc all)

  pub pieces_whole : (ts : List TargetTree) → (each (target_steps names) ts).end ≡ Ok tt
      → list_all is_whole_target ts ≡ true
      → list_all (is_whole_piece signals) (pieces_of names ts) ≡ true
  pieces_whole [] passes all = refl
  pieces_whole (t ∷ ts) passes all =
      let both = each_parts (target_steps names) t ts passes in
      let whole = and_parts (is_whole_target t) (list_all is_whole_target ts) all in
      and_from _ _ (whole_bits t.name t.selection (target_passes names t both.0).0 whole.0)
      (pieces_whole ts both.1 whole.1)

  -- ---- cases

  abbrev AreTyped : (n : ℕ) → (s : Bool) → List TypedTree → Type 0
  AreTyped n s [] = Unit {0}
  AreTyped n s (e ∷ es) = IsTyped n s e × AreTyped n s es

  abbrev IsGood : (n : ℕ) → (s : Bool) → FlatArm → Type 0
  IsGood n s arm = AreTyped n s arm.items × (statement_sound signals arm.body ≡ true)

  abbrev AreGood : (n : ℕ) → (s : Bool) → List FlatArm → Type 0
  AreGood n s [] = Unit {0}
  AreGood n s (arm ∷ arms) = IsGood n s arm × AreGood n s arms

  equals_formed : (n : ℕ) (s : Bool) (a e : TypedTree) → IsTyped n s a → IsTyped n s e
      → well_formed signals (equals a e) ≡ true
  equals_formed n s a e p q =
      let widths : expression_width e ≡ expression_width a = q.1 ∙ sym p.1 in
      let signs : beq (expression_signed e) (expression_signed a) ≡ true =
      ap (λ x. beq x (expression_signed a)) (q.2 ∙ sym p.2) ∙ same_sign (expression_signed a) in
      and_from _ (well_formed signals e)
      (and_from _ (well_formed signals a)
      (and_from (expression_width e == expression_width a)
      (beq (expression_signed e) (expression_signed a))
      (eq-eqb (expression_width e) (expression_width a) widths) signs) p.0) q.0

  or_formed : (a b : TypedTree) → well_formed signals a ≡ true → well_formed signals b ≡ true
      → well_formed signals (typed 1 false (binary LogicOr a b)) ≡ true
  or_formed a b p q = and_from (well_formed signals a) (well_formed signals b) p q

  or_equals_formed : (n : ℕ) (s : Bool) (a before : TypedTree) (es : List TypedTree) → IsTyped n s a
      → well_formed signals before ≡ true → AreTyped n s es
      → well_formed signals (or_equals a before es) ≡ true
  or_equals_formed n s a before [] p q r = q
  or_equals_formed n s a before (e ∷ es) p q r =
      or_equals_formed n s a (typed 1 false (binary LogicOr before (equals a e))) es p
      (or_formed before (equals a e) q (equals_formed n s a e p r.0)) r.1

  branch_sound : (n : ℕ) (s : Bool) (a : TypedTree) (p : Place) (items : List TypedTree)
      (body rest : FlatStatement)
      → IsTyped n s a → AreTyped n s items → statement_sound signals body ≡ true
      → statement_sound signals rest ≡ true
      → statement_sound signals (arm_branch a p items body rest) ≡ true
  branch_sound n s a p [] body rest t items q r = r
  branch_sound n s a p (e ∷ es) body rest t items q r =
      and_from _ _ (and_from _ _
      (or_equals_formed n s a (equals a e) es t (equals_formed n s a e t items.0) items.1) q) r

  chain_sound : (n : ℕ) (s : Bool) (a : TypedTree) (arms : List FlatArm) (otherwise : FlatStatement)
      → IsTyped n s a
      → AreGood n s arms → statement_sound signals otherwise ≡ true
      → statement_sound signals (chain a arms otherwise) ≡ true
  chain_sound n s a [] otherwise t good r = r
  chain_sound n s a (arm ∷ arms) otherwise t good r =
      branch_sound n s a arm.place arm.items arm.body (chain a arms otherwise) t good.0.0 good.0.1
      (chain_sound n s a arms otherwise t good.1 r)

  closed_sound : (n : ℕ) (s : Bool) (a : TypedTree) (arms : List FlatArm) → IsTyped n s a
      → AreGood n s arms
      → statement_sound signals (closed_chain a arms) ≡ true
  closed_sound n s a [] t good = refl
  closed_sound n s a (arm ∷ []) t good = good.0.1
  closed_sound n s a (arm ∷ next ∷ arms) t good =
      branch_sound n s a arm.place arm.items arm.body (closed_chain a (next ∷ arms)) t good.0.0
      good.0.1
      (closed_sound n s a (next ∷ arms) t good.1)

  kept_good : (n : ℕ) (s : Bool) (p : FlatArm → Bool) (arms : List FlatArm) → AreGood n s arms →
      AreGood n s (filter p arms)
  kept_good n s p [] good = tt
  kept_good n s p (arm ∷ arms) good = by (p arm) (kept_good n s p arms good.1)
    where
      by : (b : Bool) → AreGood n s (filter p arms) →
          AreGood n s (cond b (arm ∷ filter p arms) (filter p arms))
      by true rest = (good.0, rest)
      by false rest = rest

  abbrev IfSound : Option FlatStatement → Type 0
  IfSound None = Unit {0}
  IfSound (Some f) = statement_sound signals f ≡ true

  default_sound : (n : ℕ) (s : Bool) (arms : List FlatArm) → AreGood n s arms →
      IfSound (default_of arms)
  default_sound n s [] good = tt
  default_sound n s (arm ∷ arms) good = by (is_empty arm.items) (default_sound n s arms good.1)
    where
      by : (b : Bool) → IfSound (default_of arms) →
          IfSound (if b then Some arm.body else default_of arms)
      by true rest = good.0.1
      by false rest = rest

  case_sound : (n : ℕ) (s : Bool) (a : TypedTree) (complete : Bool) (arms : List FlatArm)
      (default : Option FlatStatement)
      → IsTyped n s a → AreGood n s arms → IfSound default
      → statement_sound signals (case_chain a complete arms default) ≡ true
  case_sound n s a complete arms (Some otherwise) t good r =
      chain_sound n s a arms otherwise t good r
  case_sound n s a true arms None t good r = closed_sound n s a arms t good
  case_sound n s a false arms None t good r = chain_sound n s a arms nothing t good refl

  -- the items have lengths of at most 64 bits
  item_few : (e : ExpressionTree) → IsTrue (is_shaped_expression e) → NumbersHaveLengths e →
      item_length names e ≤ 64
  item_few e shape numbers = by (asked names true e).end refl
    where
      by : (r : Result (Unit {0}) WalkStep) → (asked names true e).end ≡ r
          → item_length names e ≤ 64
      by (Ok x) h = omega (arith, passed_length names e h, own true e h shape numbers)
      by (Err s) h = omega (arith, broken_length names e s h)

  items_few : (es : List ExpressionTree) → list_all is_shaped_expression es ≡ true
      → ItemsHaveLengths es
      → items_length names es ≤ 64
  items_few [] shape numbers = omega arith
  items_few (e ∷ es) shape numbers =
      let shapes = and_parts (is_shaped_expression e) (list_all is_shaped_expression es) shape in
      omega (arith, item_few e shapes.0 numbers.0, items_few es shapes.1 numbers.1)

  arms_few : (arms : ArmTrees) → are_shaped_arms arms ≡ true → ArmsHaveLengths arms →
      arms_length names arms ≤ 64
  arms_few no_arms shape numbers = omega arith
  arms_few (more_arms p items body arms) shape numbers =
      let shapes = three_parts (list_all is_shaped_expression items) (is_shaped_statement body)
      (are_shaped_arms arms) shape in
      omega (arith, items_few items shapes.0 numbers.0, arms_few arms shapes.2 numbers.2)

  items_typed : (n : ℕ) (s : Bool) (es : List ExpressionTree)
      → list_all is_shaped_expression es ≡ true → ItemsHaveLengths es
      → IsLength n → items_length names es ≤ n → (fs : List TypedTree)
      → (items_walk names n s es).end ≡ Ok fs → AreTyped n s fs
  unfolding items_walk
  items_typed n s [] shape numbers long fits fs h =
      let is : [] ≡ fs = cc h in subst (AreTyped n s) is tt
  items_typed n s (e ∷ es) shape numbers long fits fs h =
      let shapes = and_parts (is_shaped_expression e) (list_all is_shaped_expression es) shape in
      let first = parts_done (asked names true e) _ fs h in
      let second = parts_done (divisors names.scope e n s) _ fs first.2 in
      let rest = parts_done (items_walk names n s es) _ fs second.2 in
      let is : typed_of names e n s ∷ rest.0 ≡ fs = cc rest.2 in
      let sort = type_of_typed names e n s in
      let enough : length_of names.scope e ≤ n =
      omega (arith, passed_length names e first.1, fits) in
      subst (AreTyped n s) is (
        (formed true e first.1 shapes.0 numbers.0 n s enough long, sort.0, sort.1),
        items_typed n s es shapes.1 numbers.1 long (omega (arith, fits)) rest.0 rest.1,
      )

  selector_length : (e : ExpressionTree) → IsTrue (is_shaped_expression e) → NumbersHaveLengths e
      → (arms : ArmTrees)
      → arms_length names arms ≤ 64 → (s : Bool) (v : TypedTree)
      → (typed_walk names e (common_length names e arms) s).end ≡ Ok v
      → IsLength (common_length names e arms)
  unfolding typed_walk
  selector_length e shape numbers arms few s v h =
      let first = parts_done (asked names false e) _ v h in
      let long = own false e first.1 shape numbers in
      (omega (arith, long.0), omega (arith, long.1, few))

  -- ---- statements

  mutual
    unfolding statement_walk statements_walk arms_walk

    pub sound_of : (t : StatementTree) (f : FlatStatement) → is_shaped_statement t ≡ true
        → StatementHasLengths t
        → (statement_walk names t).end ≡ Ok f → statement_sound signals f ≡ true
    sound_of null f shape numbers h =
        let is : nothing ≡ f = cc h in
        subst (λ x. statement_sound signals x ≡ true) is refl
    sound_of (assignment ts p blocking e) f shape numbers h =
        assignment_sound ts p blocking e
        (and_parts (are_shaped_targets ts) (is_shaped_expression e) shape).1 numbers f h
    sound_of (block ss) f shape numbers h = statements_sound ss f shape numbers h
    sound_of (if_only p c a) f shape numbers h =
        let shapes = and_parts (is_shaped_expression c) (is_shaped_statement a) shape in
        let parts = if_only_done names p c a f h in
        subst (λ x. statement_sound signals x ≡ true) parts.is
        (and_from _ _ (and_from _ _
        (expression_sound c shapes.0 numbers.0 0 (omega arith) parts.condition parts.condition_is).0
        (sound_of a parts.first shapes.1 numbers.1 parts.first_is)) refl)
    sound_of (if_else p c a b) f shape numbers h =
        let shapes = three_parts (is_shaped_expression c) (is_shaped_statement a)
        (is_shaped_statement b) shape in
        let other = if_else_done names p c a b f h in
        let parts = other.2 in
        subst (λ x. statement_sound signals x ≡ true) parts.is
        (and_from _ _ (and_from _ _
        (expression_sound c shapes.0 numbers.0 0 (omega arith) parts.condition parts.condition_is).0
        (sound_of a parts.first shapes.1 numbers.1 parts.first_is))
        (sound_of b other.0 shapes.2 numbers.2 other.1))
    sound_of (case_of p e arms) f shape numbers h =
        let outer = and_parts (is_shaped_expression e && has_arm arms
        && nat_le (default_count arms) 1) (are_shaped_arms arms) shape in
        let middle = and_parts (is_shaped_expression e && has_arm arms)
        (nat_le (default_count arms) 1) outer.0 in
        let inner = and_parts (is_shaped_expression e) (has_arm arms) middle.0 in
        let n : ℕ = common_length names e arms in
        let s : Bool = common_signed names e arms in
        let first = parts_done (typed_walk names e n s) _ f h in
        let second = parts_done (arms_walk names n s arms) _ f first.2 in
        let long = selector_length e inner.0 numbers.0 arms (arms_few arms outer.1 numbers.1) s
        first.0 first.1 in
        let selector = typed_at e inner.0 numbers.0 n s long (λ _. omega arith) first.0 first.1 in
        let good = arms_good n s long arms outer.1 numbers.1 (omega arith) second.0 second.1 in
        let is : case_chain first.0 (is_complete names.scope e (arm_items arms) n s)
        (filter (λ (arm : FlatArm). not (is_empty arm.items)) second.0) (default_of second.0) ≡ f =
        cc second.2 in
        subst (λ x. statement_sound signals x ≡ true) is
        (case_sound n s first.0 (is_complete names.scope e (arm_items arms) n s)
        (filter (λ (arm : FlatArm). not (is_empty arm.items)) second.0) (default_of second.0)
        selector
        (kept_good n s (λ (arm : FlatArm). not (is_empty arm.items)) second.0 good)
        (default_sound n s second.0 good))

    statements_sound : (ss : StatementTrees) (f : FlatStatement) → are_shaped_statements ss ≡ true
        → StatementsHaveLengths ss
        → (statements_walk names ss).end ≡ Ok f → statement_sound signals f ≡ true
    statements_sound no_statements f shape numbers h =
        let is : nothing ≡ f = cc h in
        subst (λ x. statement_sound signals x ≡ true) is refl
    statements_sound (more_statements t ss) f shape numbers h =
        let shapes = and_parts (is_shaped_statement t) (are_shaped_statements ss) shape in
        let first = parts_done (statement_walk names t) _ f h in
        let second = parts_done (statements_walk names ss) _ f first.2 in
        let is : after first.0 second.0 ≡ f = cc second.2 in
        subst (λ x. statement_sound signals x ≡ true) is
        (and_from _ _ (sound_of t first.0 shapes.0 numbers.0 first.1)
        (statements_sound ss second.0 shapes.1 numbers.1 second.1))

    arms_good : (n : ℕ) (s : Bool) → IsLength n → (arms : ArmTrees) → are_shaped_arms arms ≡ true
        → ArmsHaveLengths arms
        → arms_length names arms ≤ n → (flat : List FlatArm)
        → (arms_walk names n s arms).end ≡ Ok flat → AreGood n s flat
    arms_good n s long no_arms shape numbers fits flat h =
        let is : [] ≡ flat = cc h in subst (AreGood n s) is tt
    arms_good n s long (more_arms p items body arms) shape numbers fits flat h =
        let shapes = three_parts (list_all is_shaped_expression items) (is_shaped_statement body)
        (are_shaped_arms arms) shape in
        let first = parts_done (items_walk names n s items) _ flat h in
        let second = parts_done (statement_walk names body) _ flat first.2 in
        let third = parts_done (arms_walk names n s arms) _ flat second.2 in
        let is : (record { place = p; items = first.0; body = second.0 }) ∷ third.0 ≡ flat =
        cc third.2 in
        subst (AreGood n s) is (
          (
            items_typed n s items shapes.0 numbers.0 long (omega (arith, fits)) first.0 first.1,
            sound_of body second.0 shapes.1 numbers.1 second.1,
          ),
          arms_good n s long arms shapes.2 numbers.2 (omega (arith, fits)) third.0 third.1,
        )
