-- The values that items hold, as a table with a place for each value of a selector.
use Rattle.std.proofs.Common.{◌≡◌, ℕ, zero, suc, ◌+◌, ◌-◌, ◌*◌, ◌%◌, ◌^◌, ◌<◌, ◌≤◌, Bool, true}
use Rattle.std.proofs.Common.{false, List, map, length, get_or, set, refl, sym, ap, ◌∙◌, subst}
use Rattle.std.proofs.Common.{arith}
use Rattle.std.specs.Prelude.{◌==◌, ◌||◌, ◌&&◌, nat_le}
use Rattle.std.specs.List.{list_all}
use Rattle.std.proofs.lemmas.Nat.{pow-add, pow_pos, mod_low}
use Rattle.std.proofs.Math.Nat.{mod-eq_of_lt}
use Rattle.std.proofs.Math.Pow.{pow_mono}
use Rattle.std.proofs.lemmas.Bool.{false≢true, eqb-true, eq-eqb}
use Rattle.std.proofs.lemmas.List.{get_or-set_same, get_or-set_other}
use Rattle.std.proofs.lemmas.List.FromFn.{fill_by_all}
use Rattle.std.proofs.lemmas.List.Folds.{list_all-map}
use Rattle.sv_num.specs.Vectors.{is_negative, reduced}
use Rattle.sv_num.specs.Parts.{extended}
use Rattle.sv_num.proofs.NumberLemmas.{number_at, wider_above, wider_below}
use Rattle.sv_ast.specs.Scopes.{Scope}
use Rattle.sv_ast.specs.Tree.{ExpressionTree}
use Rattle.sv_ast.specs.Values.{nowhere, length_of, value}
use Rattle.sv_elab_rules.specs.CaseChains.{numbers_below, cover, keeps_length, has_few_values}
use Rattle.sv_elab_rules.specs.CaseChains.{is_complete}
use Rattle.sv_elab_stmt.specs.Cases.{is_held, AreHeld}

pub either_true : (b : Bool) → (b || true) ≡ true
either_true true = refl
either_true false = refl

pub either_false : (b : Bool) → (b || false) ≡ b
either_false true = refl
either_false false = refl

-- ---- one value

row_before : (p q : ℕ) → 1 ≤ p → p * q ≡ (p - 1) * q + q
row_before (suc p) q some = grind arith
row_before zero q some = absurd (omega arith)

-- the low bits of an extended value are the value
pub extended_low : (s : Bool) (own n v : ℕ) → own ≤ n → v < 2 ^ own →
    extended s own n v % 2 ^ own ≡ v
extended_low s own n v fits low = by (is_negative own s v) refl
  where
    split : 2 ^ n ≡ 2 ^ (n - own) * 2 ^ own
    split = ap (λ k. 2 ^ k) (let k : n ≡ n - own + own = omega arith in k) ∙ pow-add 2 (n - own) own

    rows : 2 ^ n - 1 - (2 ^ own - 1 - v) ≡ (2 ^ (n - own) - 1) * 2 ^ own + v
    rows = omega (arith, split, row_before (2 ^ (n - own)) (2 ^ own) (pow_pos (n - own)))

    by : (b : Bool) → is_negative own s v ≡ b → extended s own n v % 2 ^ own ≡ v
    by true h =
        ap (λ m. m % 2 ^ own) (ap (λ t. reduced n (number_at own t v)) h
        ∙ wider_below own n v fits low ∙ rows)
        ∙ mod_low (2 ^ (n - own) - 1) own v low
    by false h =
        ap (λ m. m % 2 ^ own) (ap (λ t. reduced n (number_at own t v)) h
        ∙ wider_above own n v fits low) ∙ mod-eq_of_lt low

pub small_power : (own : ℕ) → own ≤ 8 → 1 * 2 ^ own % 18446744073709551616 ≡ 2 ^ own
small_power own few =
    let one : 1 * 2 ^ own ≡ 2 ^ own = omega arith in
    let less : 2 ^ own ≤ 2 ^ 8 = pow_mono few in
    ap (λ k. k % 18446744073709551616) one ∙ mod-eq_of_lt (omega (arith, less))

-- so no two values are extended to one
pub extended_once : (s : Bool) (own n v w : ℕ) → own ≤ n → v < 2 ^ own → w < 2 ^ own
    → extended s own n v ≡ extended s own n w → v ≡ w
extended_once s own n v w fits low high same =
    sym (extended_low s own n v fits low) ∙ ap (λ x. x % 2 ^ own) same
    ∙ extended_low s own n w fits high

-- a value that its low bits are not extended to is that of none
pub no_value : (s : Bool) (own n x : ℕ) → own ≤ n → ((extended s own n (x % 2 ^ own) ≡ x) → ⊥)
    → (v : ℕ) → v < 2 ^ own → (x == extended s own n v) ≡ false
no_value s own n x fits not_low v low = by (x == extended s own n v) refl
  where
    by : (b : Bool) → (x == extended s own n v) ≡ b → (x == extended s own n v) ≡ false
    by false h = h
    by true h =
        let is : x ≡ extended s own n v = eqb-true x (extended s own n v) h in
        let bits : x % 2 ^ own ≡ v = ap (λ m. m % 2 ^ own) is ∙ extended_low s own n v fits low in
        absurd (not_low (ap (λ m. extended s own n m) bits ∙ sym is))

-- ---- the table

module _ (s : Bool) (own n x j : ℕ) (fits : own ≤ n) (low : j < 2 ^ own)
    (is : extended s own n j ≡ x) where
  marked_test : (v : ℕ) → v < 2 ^ own → (x == extended s own n v) ≡ (v == j)
  marked_test v below = by (v == j) refl
    where
      by : (b : Bool) → (v == j) ≡ b → (x == extended s own n v) ≡ b
      by true h =
          eq-eqb x (extended s own n v) (sym is
          ∙ ap (λ w. extended s own n w) (sym (eqb-true v j h)))
      by false h = none (x == extended s own n v) refl
        where
          none : (b : Bool) → (x == extended s own n v) ≡ b → b ≡ false
          none false e = refl
          none true e =
              let same : v ≡ j =
              extended_once s own n v j fits below low (sym (eqb-true x (extended s own n v) e)
              ∙ sym is) in
              absurd (false≢true (sym h ∙ eq-eqb v j same))

  pub marked : (held : List Bool) → length held ≡ 2 ^ own → (v : ℕ) → v < 2 ^ own
      → get_or (set held j true) v false ≡ (get_or held v false || (x == extended s own n v))
  marked held size v below = by (v == j) refl
    where
      by : (b : Bool) → (v == j) ≡ b
          → get_or (set held j true) v false ≡ (get_or held v false || (x == extended s own n v))
      by true h =
          let same : v ≡ j = eqb-true v j h in
          ap (λ w. get_or (set held j true) w false) same
          ∙ get_or-set_same held j true false (omega (arith, size, low))
          ∙ sym (ap (λ b. get_or held v false || b) (marked_test v below ∙ h)
          ∙ either_true (get_or held v false))
      by false h =
          get_or-set_other held j v true false (λ e. false≢true (sym h ∙ eq-eqb v j e))
          ∙ sym (ap (λ b. get_or held v false || b) (marked_test v below ∙ h)
          ∙ either_false (get_or held v false))

-- the table says whether all values are held
pub covered : (own n : ℕ) (s : Bool) (values : List ℕ) (held : List Bool)
    → AreHeld own n s values held
    → list_all (λ has. has) held ≡ cover own n s values
covered own n s values held h =
    ap (list_all (λ has. has)) (fill_by_all (is_held own n s values) held (2 ^ own) false h.0 h.1)
    ∙ list_all-map (λ has. has) (is_held own n s values) (numbers_below (2 ^ own))

-- ---- complete cases

no_few_values : (scope : Scope) (e : ExpressionTree) (items : List ExpressionTree) (n : ℕ)
    (s : Bool)
    → has_few_values scope e n s ≡ false → is_complete scope e items n s ≡ false
unfolding is_complete
no_few_values scope e items n s h =
    subst (λ (b : Bool). elim b as (λ x. Bool) [
      | true ↦ cover (length_of scope e) n s (map (λ item. value scope nowhere item n s) items)
      | false ↦ false
    ] ≡ false) (sym h) refl

some_few_values : (scope : Scope) (e : ExpressionTree) (items : List ExpressionTree) (n : ℕ)
    (s : Bool)
    → has_few_values scope e n s ≡ true
    → is_complete scope e items n s ≡
    cover (length_of scope e) n s (map (λ item. value scope nowhere item n s) items)
unfolding is_complete
some_few_values scope e items n s h =
    subst (λ (b : Bool). elim b as (λ x. Bool) [
      | true ↦ cover (length_of scope e) n s (map (λ item. value scope nowhere item n s) items)
      | false ↦ false
    ] ≡ cover (length_of scope e) n s (map (λ item. value scope nowhere item n s) items))
    (sym h) refl

module _ (scope : Scope) (e : ExpressionTree) (items : List ExpressionTree) (n own : ℕ) (s : Bool)
    (is : length_of scope e ≡ own) where
  few_is : has_few_values scope e n s ≡ (nat_le own 8 && (nat_le n own || keeps_length s e))
  few_is = ap (λ k. nat_le k 8 && (nat_le n k || keeps_length s e)) is

  pub not_complete : (nat_le own 8 && (nat_le n own || keeps_length s e)) ≡ false →
      false ≡ is_complete scope e items n s
  not_complete h = sym (no_few_values scope e items n s (few_is ∙ h))

  pub complete_is : (nat_le own 8 && (nat_le n own || keeps_length s e)) ≡ true
      → cover own n s (map (λ item. value scope nowhere item n s) items) ≡
      is_complete scope e items n s
  complete_is h =
      ap (λ k. cover k n s (map (λ item. value scope nowhere item n s) items)) (sym is)
      ∙ sym (some_few_values scope e items n s (few_is ∙ h))
