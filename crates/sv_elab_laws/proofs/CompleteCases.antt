-- Where the items of a case are complete, one of them has the selector's value.
use Rattle.std.proofs.Common.{◌≡◌, ℕ, ◌^◌, ◌<◌, ◌≤◌, Bool, true, false, List, [], ◌∷◌, map, refl}
use Rattle.std.proofs.Common.{sym, ap, ◌∙◌, arith}
use Rattle.std.specs.Prelude.{◌==◌, ◌||◌, Option, Some, None, IsTrue, Ok}
use Rattle.std.specs.List.{list_any}
use Rattle.std.proofs.lemmas.Bool.{or_from}
use Rattle.sv_ast.specs.Scopes.{Binding, signal, parameter, width_of, value_of}
use Rattle.sv_ast.specs.Tree.{ExpressionTree, ExpressionTrees, literal, named, bit_of, part_of}
use Rattle.sv_ast.specs.Tree.{unary, binary, choice, join, replication, no_expressions}
use Rattle.sv_ast.specs.Tree.{more_expressions}
use Rattle.sv_ast.specs.Values.{nowhere, length_of, signed_of, value}
use Rattle.sv_ast.specs.Instances.{is_signal}
use Rattle.sv_ast.specs.Runs.{has_item}
use Rattle.sv_num.specs.Parts.{extended}
use Rattle.sv_system.specs.System.{Environment}
use Rattle.sv_flat.proofs.LeastSets.{range_has}
use Rattle.sv_flat.proofs.Depths.{from_all}
use Rattle.sv_elab_rules.specs.Names.{Names, is_parameter}
use Rattle.sv_elab_rules.specs.TypedExpressions.{names_signal, some_names_signal}
use Rattle.sv_elab_rules.specs.ExpressionSteps.{asked}
use Rattle.sv_elab_rules.specs.CaseChains.{numbers_below, cover, has_few_values, is_complete}
use Rattle.sv_width.specs.Agreement.{AllDeclared}
use Rattle.sv_width.proofs.Sound.{Sound, SoundParts, passed_sound}
use Rattle.sv_width.proofs.SameValue.{constant_value}
use Rattle.sv_elab_laws.specs.Numbers.{NumbersFit}
use Rattle.sv_elab_laws.proofs.ValuesLow.{value_low}
use Rattle.sv_elab_laws.proofs.KeptLengths.{kept_value}

-- ---- a constant place names no signal

no_signal : (b : Option Binding) → IsTrue (is_parameter b) → is_signal b ≡ false
no_signal (Some (parameter v)) h = refl
no_signal (Some (signal width signed)) h = absurd (cc h)
no_signal None h = absurd (cc h)

mutual
  unfolding Sound SoundParts names_signal some_names_signal

  names_none : (names : Names) (e : ExpressionTree) → Sound names true e →
      names_signal names.scope e ≡ false
  names_none names (literal l p) q = refl
  names_none names (named n p) q = no_signal (names.scope n) q.1
  names_none names (bit_of n p i) q = absurd (cc q.1)
  names_none names (part_of n p h l) q = absurd (cc q.1)
  names_none names (unary op p e) q = names_none names e q
  names_none names (binary op p a b) q =
      or_from (names_signal names.scope a) (names_signal names.scope b) (names_none names a q.0)
      (names_none names b q.1)
  names_none names (choice p c a b) q =
      or_from (names_signal names.scope c || names_signal names.scope a)
      (names_signal names.scope b)
      (or_from (names_signal names.scope c) (names_signal names.scope a) (names_none names c q.0)
      (names_none names a q.1))
      (names_none names b q.2)
  names_none names (join p es) q = parts_name_none names es q.0
  names_none names (replication p k es) q =
      or_from (names_signal names.scope k) (some_names_signal names.scope es)
      (names_none names k q.0) (parts_name_none names es q.2)

  parts_name_none : (names : Names) (es : ExpressionTrees) → SoundParts names true es →
      some_names_signal names.scope es ≡ false
  parts_name_none names no_expressions q = refl
  parts_name_none names (more_expressions e es) q =
      or_from (names_signal names.scope e) (some_names_signal names.scope es)
      (names_none names e q.0) (parts_name_none names es q.1)

-- ---- items

-- each item is a constant that breaks no rule
abbrev pub ItemsPass : Names → List ExpressionTree → Type 0
ItemsPass names [] = Unit {0}
ItemsPass names (e ∷ es) = ((asked names true e).end ≡ Ok tt) × ItemsPass names es

any_mapped : {X Y : Type 0} (test : Y → Bool) (f : X → Y) (xs : List X) →
    list_any test (map f xs) ≡ list_any (λ x. test (f x)) xs
any_mapped test f [] = refl
any_mapped test f (x ∷ xs) = ap (λ b. test (f x) || b) (any_mapped test f xs)

both_true : (b c : Bool) → (elim b [ true ↦ c | false ↦ false ]) ≡ true → (b ≡ true) × (c ≡ true)
both_true true c h = (refl, h)
both_true false c h = absurd (cc h)

module _ (names : Names) (declared : AllDeclared names) (environment : Environment (List ℕ))
    (fit : (n : List ℕ) →
    value_of (names.scope n) (environment n) < 2 ^ width_of (names.scope n)) where
  -- items have the same values everywhere
  same_items : (n : ℕ) (s : Bool) (v : ℕ) (items : List ExpressionTree) → ItemsPass names items
      → list_any (λ (e : ExpressionTree). value names.scope nowhere e n s == v) items ≡
      has_item names.scope environment n s v items
  same_items n s v [] pass = refl
  same_items n s v (e ∷ es) pass =
      let sound = passed_sound names true e pass.0 in
      ap (λ x. (x == v) || list_any (λ (i : ExpressionTree).
      value names.scope nowhere i n s == v) es)
      (sym (constant_value names declared environment true e sound (names_none names e sound) n s))
      ∙ ap (λ b. (value names.scope environment e n s == v) || b) (same_items n s v es pass.1)

  pub complete_has_item : (e : ExpressionTree) (items : List ExpressionTree) (n : ℕ) (s : Bool)
      → NumbersFit e
      → (s ≡ true → signed_of names.scope e ≡ true) → length_of names.scope e ≤ n
      → ItemsPass names items
      → is_complete names.scope e items n s ≡ true
      → has_item names.scope environment n s (value names.scope environment e n s) items ≡ true
  unfolding is_complete
  complete_has_item e items n s numbers signs fits pass complete =
      let own : ℕ = length_of names.scope e in
      let v : ℕ = value names.scope environment e own s in
      let values : List ℕ = map (λ (i : ExpressionTree). value names.scope nowhere i n s) items in
      let both = both_true (has_few_values names.scope e n s) (cover own n s values) complete in
      let is : value names.scope environment e n s ≡ extended s own n v =
      kept_value names.scope environment fit e n s numbers signs fits both.0 in
      let held : list_any (λ item. item == extended s own n v) values ≡ true =
      from_all (λ x. list_any (λ item. item == extended s own n x) values) (numbers_below (2 ^ own))
      v both.1
      (range_has (2 ^ own) v (value_low names.scope environment e own s (own_length own))) in
      sym (same_items n s (value names.scope environment e n s) items pass)
      ∙ ap (λ x. list_any (λ (i : ExpressionTree). value names.scope nowhere i n s == x) items) is
      ∙ sym (any_mapped (λ item. item == extended s own n v) (λ (i : ExpressionTree).
      value names.scope nowhere i n s) items)
      ∙ held
    where
      own_length : (k : ℕ) → k ≤ k
      own_length k = omega arith
