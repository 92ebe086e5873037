-- Where a signal stands among listed ones, which ascend.
use Rattle.std.proofs.Common.{◌≡◌, ℕ, zero, suc, ◌*◌, ◌%◌, ◌^◌, ◌<◌, ◌≤◌, ◌==◌, cond, List}
use Rattle.std.proofs.Common.{Bool, true, false, length, get_or, set, Result, Ok, Err, Option, refl, sym, ap, ◌∙◌}
use Rattle.std.proofs.Common.{subst, arith, ⊎_elim, add-one, IfSome, get_or-set_same, get_or-set_other}
use Rattle.std.specs.Prelude.{◌≢◌, bit_or, IfOk, IfErr, IsNone}
use Rattle.std.specs.Result.{result_ok}
use Rattle.std.specs.List.Sorted.{IsStrictlyIncreasing, IsSearchInRange, IsBinarySearchResult}
use Rattle.std.specs.List.Sorted.{IsNonDecreasingBy}
use Rattle.std.specs.Ordering.{nat_cmp, ordering_index}
use Rattle.std.proofs.Math.Pow.{pow-lt}
use Rattle.std.proofs.lemmas.Cmp.{ranked}
use Rattle.std.proofs.lemmas.Bool.{cases_lt, false≢true, eqb-true, eq-eqb}
use Rattle.std.proofs.lemmas.Bool.Decides.{nat_tests}
use Rattle.std.proofs.lemmas.List.{length-map, get_or-map}
use Rattle.std.proofs.lemmas.List.Sorted.{IsNonDecreasingBy-from_default}
use Rattle.sv_flat.specs.declared.signals.SigId.{SigId}
use Rattle.sv_design.specs.Numbers.{numbers}

-- ---- numbers that ascend

pub rises_far : (xs : List ℕ) → IsStrictlyIncreasing xs → (i j : ℕ) → i < j → j < length xs →
    get_or xs i 0 < get_or xs j 0
rises_far xs rises i zero less inside = absurd (omega (arith, less))
rises_far xs rises i (suc j) less inside =
    let one : get_or xs j 0 < get_or xs (suc j) 0 =
    subst (λ m. get_or xs j 0 < get_or xs m 0) (add-one j) (rises j (omega (arith, inside))) in
    ⊎_elim
    (λ before. let more = rises_far xs rises i j before (omega (arith, inside)) in
    omega (arith, more, one))
    (λ not_before. let same : j ≡ i = omega (arith, less, not_before) in
    subst (λ m. get_or xs m 0 < get_or xs (suc j) 0) same one)
    (cases_lt i j)

-- ---- a search

-- what a search by number says of a signal
pub record Found (listed : List ℕ) (s : ℕ) (r : Result ℕ ℕ) : Type 0 where
  pub here : IfOk r (λ at. (at < length listed) × (get_or listed at 0 ≡ s))
  pub nowhere : IfErr r (λ at. (k : ℕ) → k < length listed → get_or listed k 0 ≢ s)

module _ (listed : List SigId) (rises : IsStrictlyIncreasing (numbers listed)) (s : ℕ) where
  abbrev none : SigId
  none = record { 0 = 0 }

  number_at : (k : ℕ) → k < length listed →
      get_or (numbers listed) k 0 ≡ (get_or listed k none).0
  number_at k inside = get_or-map (λ (t : SigId). t.0) listed k none 0 inside

  answers_rise : IsNonDecreasingBy (λ (t : SigId). ordering_index (nat_cmp t.0 s)) listed
  answers_rise =
      IsNonDecreasingBy-from_default (λ (t : SigId). ordering_index (nat_cmp t.0 s)) listed none
      (λ i j below inside.
      let up : (get_or listed i none).0 ≤ (get_or listed j none).0 = ⊎_elim
      (λ less.
      let far = rises_far (numbers listed) rises i j less
      (omega (arith, length-map listed (λ (t : SigId). t.0), inside)) in
      omega (arith, far, number_at i (omega (arith, less, inside)), number_at j inside))
      (λ not_less. let same : i ≡ j = omega (arith, below, not_less) in
      omega (arith, ap (λ m. (get_or listed m none).0) same))
      (cases_lt i j) in
      grind (arith, nat_tests))

  pub searched : (r : Result ℕ ℕ) → IsSearchInRange r (length listed) →
      IsBinarySearchResult (λ (t : SigId). nat_cmp t.0 s) listed r → Found (numbers listed) s r
  searched (Ok at) inside equal = record {
    here = (
      omega (arith, inside, length-map listed (λ (t : SigId). t.0)),
      number_at at inside ∙ ranked _ s _ (sym (equal none)),
    );
    nowhere = tt;
  }
  searched (Err at) inside parted = record {
    here = tt;
    nowhere = λ k known same.
        let known_there : k < length listed =
        omega (arith, known, length-map listed (λ (t : SigId). t.0)) in
        let is : (get_or listed k none).0 ≡ s = sym (number_at k known_there) ∙ same in
        ⊎_elim
        (λ less. let before : (get_or listed k none).0 < s =
        ranked _ s _ (sym ((parted answers_rise).0 k none (omega arith) less)) in
        omega (arith, before, is))
        (λ not_less. let after : s < (get_or listed k none).0 =
        ranked _ s _ (sym ((parted answers_rise).1 k none not_less known_there)) in
        omega (arith, after, is))
        (cases_lt k at);
  }

  -- where a search ended, as an option
  pub found_some : (r : Result ℕ ℕ) (o : Option ℕ) → Found (numbers listed) s r →
      o ≡ result_ok r →
      IfSome o (λ at. (at < length listed) × (get_or (numbers listed) at 0 ≡ s))
  found_some (Ok at) o found e =
      subst (λ (z : Option ℕ).
      IfSome z (λ j. (j < length listed) × (get_or (numbers listed) j 0 ≡ s))) (sym e)
      (omega (arith, found.here.0, length-map listed (λ (t : SigId). t.0)), found.here.1)
  found_some (Err at) o found e =
      subst (λ (z : Option ℕ).
      IfSome z (λ j. (j < length listed) × (get_or (numbers listed) j 0 ≡ s))) (sym e) tt

  pub found_none : (r : Result ℕ ℕ) (o : Option ℕ) → Found (numbers listed) s r →
      o ≡ result_ok r → IsNone o → (k : ℕ) → k < length listed → get_or (numbers listed) k 0 ≢ s
  found_none (Ok at) o found e is k inside same =
      absurd (false≢true (sym (subst (λ (z : Option ℕ). IsNone z) e is)))
  found_none (Err at) o found e is k inside same =
      found.nowhere k (omega (arith, inside, length-map listed (λ (t : SigId). t.0))) same

-- ---- a bit that is set

test_off : (a b : ℕ) → a ≢ b → (a == b) ≡ false
test_off a b differs = by (a == b) refl
  where
    by : (c : Bool) → (a == b) ≡ c → c ≡ false
    by true is = absurd (differs (eqb-true a b is))
    by false is = refl

one_shifted : (bit : ℕ) → bit < 64 → 1 * 2 ^ bit % 2 ^ 64 ≡ 2 ^ bit
one_shifted bit small = let low : 2 ^ bit < 2 ^ 64 = pow-lt small in omega (arith, low)

-- a bit is set in the value of the listed signal, and no other value changes
pub set_listed : (listed values : List ℕ) (at s bit k : ℕ) → IsStrictlyIncreasing listed →
    length values ≡ length listed → at < length listed → get_or listed at 0 ≡ s → bit < 64 →
    k < length listed →
    get_or (set values at (bit_or (get_or values at 0) (1 * 2 ^ bit % 2 ^ 64))) k 0
    ≡ cond (s == get_or listed k 0) (bit_or (get_or values k 0) (2 ^ bit)) (get_or values k 0)
set_listed listed values at s bit k rises count inside is small known =
    ⊎_elim
    (λ less. apart (omega (arith, less))
    (λ same. let far = rises_far listed rises k at less inside in omega (arith, far, same, is)))
    (λ not_less. ⊎_elim
    (λ more. apart (omega (arith, more))
    (λ same. let far = rises_far listed rises at k more known in omega (arith, far, same, is)))
    (λ not_more. here (omega (arith, not_less, not_more)))
    (cases_lt at k))
    (cases_lt k at)
  where
    new : ℕ
    new = bit_or (get_or values at 0) (1 * 2 ^ bit % 2 ^ 64)

    apart : k ≢ at → s ≢ get_or listed k 0 →
        get_or (set values at new) k 0
        ≡ cond (s == get_or listed k 0) (bit_or (get_or values k 0) (2 ^ bit)) (get_or values k 0)
    apart other differs =
        rw get_or-set_other (sym (ap (λ c. cond c (bit_or (get_or values k 0) (2 ^ bit))
        (get_or values k 0)) (test_off s (get_or listed k 0) differs)))

    here : k ≡ at →
        get_or (set values at new) k 0
        ≡ cond (s == get_or listed k 0) (bit_or (get_or values k 0) (2 ^ bit)) (get_or values k 0)
    here same =
        let within : at < length values = omega arith in
        let there : get_or listed k 0 ≡ s = ap (λ j. get_or listed j 0) same ∙ is in
        ap (λ j. get_or (set values at new) j 0) same
        ∙ get_or-set_same values at new 0 within
        ∙ ap (bit_or (get_or values at 0)) (one_shifted bit small)
        ∙ ap (λ j. bit_or (get_or values j 0) (2 ^ bit)) (sym same)
        ∙ sym (ap (λ c. cond c (bit_or (get_or values k 0) (2 ^ bit)) (get_or values k 0))
        (eq-eqb s (get_or listed k 0) (sym there)))

-- a signal that is not listed changes nothing
pub keep_listed : (listed values : List ℕ) (s bit k : ℕ) → get_or listed k 0 ≢ s →
    get_or values k 0
    ≡ cond (s == get_or listed k 0) (bit_or (get_or values k 0) (2 ^ bit)) (get_or values k 0)
keep_listed listed values s bit k differs =
    sym (ap (λ c. cond c (bit_or (get_or values k 0) (2 ^ bit)) (get_or values k 0))
    (test_off s (get_or listed k 0) (λ same. differs (sym same))))
