-- The places of seen literals, from which a conflict clause is minimized.
use Rattle.std.proofs.Common.{◌≡◌, ◌≢◌, ℕ, ◌+◌, ◌<◌, ◌≤◌, true, false, ◌&&◌, ◌||◌, ℤ, pos, neg_ℤ}
use Rattle.std.proofs.Common.{List, [], ◌∷◌, ◌++◌, refl, sym, ap, ◌∙◌, subst, ⊎_elim, length, take}
use Rattle.std.proofs.Common.{get_or, arith}
use Rattle.std.specs.Prelude.{All, AllPairs, Contains}
use Rattle.std.specs.List.Sorted.{IsPermutation, IsSorted}
use Rattle.std.specs.Ordering.{nat_cmp}
use Rattle.std.proofs.Math.Dec.{eqb}
use Rattle.std.proofs.lemmas.Bool.{false≢true, false_from_ne_true, cases_order, or_left, or_cases}
use Rattle.std.proofs.lemmas.Bool.{and_parts}
use Rattle.std.proofs.lemmas.Bool.Decides.{Decides-eqb}
use Rattle.std.proofs.lemmas.List.{get_or_append_left, get_or_push, length_push}
use Rattle.std.proofs.lemmas.List.Elements.{All-push, Contains-push, Contains-push_cases}
use Rattle.std.proofs.lemmas.List.Elements.{Contains-append_left}
use Rattle.std.proofs.lemmas.List.Quantifiers.{all_pairs_push}
use Rattle.std.proofs.lemmas.List.Kept.{AllPairs-from_increasing}
use Rattle.std.proofs.lemmas.List.Sorted.{IsNonDecreasingBy-from_sort, All-permutation}
use Rattle.std.proofs.lemmas.List.Sorted.{Contains-permutation}
use Rattle.std.proofs.lemmas.Map.Keys.{IsDistinct-IsPermutation, IsStrictlyIncreasing-from_distinct}
use Rattle.std.proofs.lemmas.Map.Made.{IsDistinct-from_AllPairs}
use Rattle.sv_clause.specs.Literals.{stands}
use Rattle.sv_clause.proofs.Merging.{neg-neg}
use Rattle.sv_clause.proofs.Standing.{cases_int}
use Rattle.sv_solve.specs.Lists.{EachOpen}
use Rattle.sv_solve.specs.ConflictClauses.{IsMinimized, OthersSeen, IsSeenAt, ArePlaces}
use Rattle.sv_solve.specs.Search.{IsConsistent, NoneSeen, Derives}
use Rattle.sv_solve.proofs.Places.{stands_take_le, stands_more_cases, stands_more_here, same_tests}
use Rattle.sv_solve.proofs.Trails.{stands_before}

-- the places that are left ascend below a bound, and the literals that are kept make with those
-- seen below the bound the clause that the chain derives
abbrev pub GoesBack : List (List ℤ) → List ℤ → List ℤ → ℤ → ℕ → List ℕ → List ℤ → ℕ → List ℕ
    → Type 0
GoesBack clauses trail seen first mark chain literals keep places =
    AllPairs ◌<◌ places
    × ((bound : ℕ) × (bound ≤ mark) × ArePlaces seen trail places bound
    × Derives clauses chain literals seen trail bound
    × IsMinimized trail first literals bound keep mark)

-- a literal stands at one place of a trail alone
same_place : (trail : List ℤ) (i j : ℕ) → EachOpen trail → i < length trail → j < length trail →
    get_or trail i (pos 0) ≡ get_or trail j (pos 0) → i ≡ j
same_place trail i j o small below same =
    ⊎_elim (λ e. e)
    (λ other. ⊎_elim
    (λ lt.
    absurd (false≢true (sym (o j below).0
    ∙ stands_before trail i j (get_or trail j (pos 0)) lt (omega arith) same)))
    (λ gt.
    absurd (false≢true (sym (o i small).0
    ∙ stands_before trail j i (get_or trail i (pos 0)) gt (omega arith) (sym same))))
    other)
    (cases_order i j)

-- a clause of which all other literals are seen brings none
pub brings_none : (seen clause trail : List ℤ) (t : ℤ) → IsConsistent trail →
    stands t trail ≡ true → OthersSeen seen clause t → (l : ℤ) →
    stands l seen ≡ (stands l seen || (stands l clause && stands (neg_ℤ l) trail))
brings_none seen clause trail t consistent here others l =
    same_tests (stands l seen) (stands l seen || (stands l clause && stands (neg_ℤ l) trail))
    (or_left (stands l seen) (stands l clause && stands (neg_ℤ l) trail))
    (λ e. ⊎_elim (λ old. old)
    (λ both. let q = and_parts (stands l clause) (stands (neg_ℤ l) trail) both in
    ⊎_elim
    (λ same.
    absurd (false≢true (sym (consistent t here) ∙ ap (λ z. stands (neg_ℤ z) trail) (sym same)
    ∙ q.1)))
    (others l q.0)
    (cases_int l t))
    (or_cases (stands l seen) (stands l clause && stands (neg_ℤ l) trail) e))

module _ (seen trail : List ℤ) (mark : ℕ) where
  -- a literal that is not false below the mark has no place there
  pub places_skip : (places : List ℕ) (i : ℕ) → i < length seen → mark ≤ length trail
      → stands (neg_ℤ (get_or seen i (pos 0))) (take mark trail) ≡ false
      → ArePlaces (take i seen) trail places mark → ArePlaces (take (i + 1) seen) trail places mark
  places_skip places i small size free a =
      record {
        below = a.below;
        each =
            λ k d h. stands_take_le (neg_ℤ (get_or trail (get_or places k d) (pos 0))) seen i
            (i + 1) (omega arith) (a.each k d h);
        every = λ place low e. ⊎_elim (a.every place low)
            (λ same.
            absurd (false≢true (sym free
            ∙ stands_before trail place mark (neg_ℤ (get_or seen i (pos 0))) low size
            (sym (neg-neg (get_or trail place (pos 0))) ∙ ap neg_ℤ same))))
            (stands_more_cases (neg_ℤ (get_or trail place (pos 0))) seen i small e);
      }

  -- one that became false there brings its place
  pub places_more : (places now : List ℕ) (i p : ℕ) → i < length seen → mark ≤ length trail
      → EachOpen trail → p < mark → get_or trail p (pos 0) ≡ neg_ℤ (get_or seen i (pos 0))
      → now ≡ places ++ p ∷ []
      → ArePlaces (take i seen) trail places mark → ArePlaces (take (i + 1) seen) trail now mark
  places_more places now i p small size o low at is a =
      let back : neg_ℤ (get_or trail p (pos 0)) ≡ get_or seen i (pos 0) =
      ap neg_ℤ at ∙ neg-neg (get_or seen i (pos 0)) in
      subst (λ z. ArePlaces (take (i + 1) seen) trail z mark) (sym is)
      (record {
        below = All-push (λ place. place < mark) places p a.below low;
        each = All-push (IsSeenAt (take (i + 1) seen) trail) places p
            (λ k d h. stands_take_le (neg_ℤ (get_or trail (get_or places k d) (pos 0))) seen i
            (i + 1) (omega arith) (a.each k d h))
            (ap (λ z. stands z (take (i + 1) seen)) back ∙ stands_more_here seen i small);
        every = λ place high e. ⊎_elim
            (λ older. Contains-append_left places (p ∷ []) place (a.every place high older))
            (λ same. let alike : get_or trail place (pos 0) ≡
            get_or trail p (pos 0) = sym (neg-neg (get_or trail place (pos 0))) ∙ ap neg_ℤ same
            ∙ sym at in
            subst (Contains (places ++ p ∷ []))
            (same_place trail p place o (omega arith) (omega arith) (sym alike))
            (Contains-push places p))
            (stands_more_cases (neg_ℤ (get_or trail place (pos 0))) seen i small e);
      })

  -- and is no place that stands there already
  pub different_more : (places now : List ℕ) (i p : ℕ)
      → get_or trail p (pos 0) ≡ neg_ℤ (get_or seen i (pos 0)) → now ≡ places ++ p ∷ []
      → stands (get_or seen i (pos 0)) (take i seen) ≡ false
      → ArePlaces (take i seen) trail places mark → AllPairs ◌≢◌ places → AllPairs ◌≢◌ now
  different_more places now i p at is first a apart =
      subst (AllPairs ◌≢◌) (sym is)
      (all_pairs_push ◌≢◌ places p apart
      (λ k d h same. false≢true (sym first
      ∙ ap (λ z. stands z (take i seen))
      (sym (ap (λ z. neg_ℤ (get_or trail z (pos 0))) same ∙ ap neg_ℤ at
      ∙ neg-neg (get_or seen i (pos 0))))
      ∙ a.each k d h)))

  pub places_sorted : (places now : List ℕ) → IsPermutation places now →
      ArePlaces seen trail places mark → ArePlaces seen trail now mark
  places_sorted places now moved a =
      record {
        below = All-permutation (λ place. place < mark) places now moved a.below;
        each = All-permutation (IsSeenAt seen trail) places now moved a.each;
        every = λ place low e. Contains-permutation places now place moved (a.every place low e);
      }

-- different numbers ascend once they are sorted
pub ascending_sorted : (xs now : List ℕ) → IsPermutation xs now → IsSorted nat_cmp now →
    AllPairs ◌≢◌ xs → AllPairs ◌<◌ now
ascending_sorted xs now moved up apart =
    AllPairs-from_increasing now
    (IsStrictlyIncreasing-from_distinct now (IsNonDecreasingBy-from_sort (λ x. x) now up)
    (IsDistinct-IsPermutation eqb flips xs now moved
    (IsDistinct-from_AllPairs Decides-eqb xs apart)))
  where
    flips : (x y : ℕ) → eqb x y ≡ eqb y x
    flips x y =
        same_tests (eqb x y) (eqb y x) (λ e.
        (Decides-eqb y x).1 (sym ((Decides-eqb x y).0 e))) (λ e.
        (Decides-eqb x y).1 (sym ((Decides-eqb y x).0 e)))

module _ (seen trail : List ℤ) (bound : ℕ) where
  -- without places no literal is seen
  pub none_left : (places : List ℕ) → length places ≡ 0 → ArePlaces seen trail places bound →
      NoneSeen seen trail 0 bound
  none_left places none a i low high =
      false_from_ne_true (stands (neg_ℤ (get_or trail i (pos 0))) seen)
      (λ e. let found = a.every i high e in let small : found.0 < length places = found.1 in
      absurd (omega arith))

  module _ (rest : List ℕ) (p : ℕ) (a : ArePlaces seen trail (rest ++ p ∷ []) bound)
      (up : AllPairs ◌<◌ (rest ++ p ∷ [])) where
    size : length (rest ++ p ∷ []) ≡ length rest + 1
    size = length_push rest p

    before_last : All (λ place. place < p) rest
    before_last k d h =
        let less : get_or (rest ++ p ∷ []) k d < get_or (rest ++ p ∷ []) (length rest) d =
        up k (length rest) d h (omega (arith, size)) in
        let one : get_or (rest ++ p ∷ []) k d ≡ get_or rest k d =
        get_or_append_left rest (p ∷ []) d k h in
        let other : get_or (rest ++ p ∷ []) (length rest) d ≡ p =
        get_or_push rest p d (length rest) refl in
        omega arith

    below_last : (place : ℕ) → Contains rest place → place < p
    below_last place (k, h, at) = subst (λ z. z < p) at (before_last k place h)

    -- the last place is below the bound, and seen
    pub last_below : p < bound
    last_below =
        subst (λ z. z < bound) (get_or_push rest p 0 (length rest) refl)
        (a.below (length rest) 0 (omega (arith, size)))

    pub last_seen : stands (neg_ℤ (get_or trail p (pos 0))) seen ≡ true
    last_seen =
        subst (IsSeenAt seen trail) (get_or_push rest p 0 (length rest) refl)
        (a.each (length rest) 0 (omega (arith, size)))

    -- no later one is
    pub none_later : NoneSeen seen trail (p + 1) bound
    none_later i low high =
        false_from_ne_true (stands (neg_ℤ (get_or trail i (pos 0))) seen)
        (λ e. ⊎_elim (λ old. let less : i < p = below_last i old in absurd (omega arith)) (λ same.
        absurd (omega arith)) (Contains-push_cases rest p i (a.every i high e)))

    -- the other places are those below it
    pub rest_places : ArePlaces seen trail rest p
    rest_places =
        record {
          below = before_last;
          each =
              λ k d h. subst (IsSeenAt seen trail) (get_or_append_left rest (p ∷ []) d k h)
              (a.each k d (omega (arith, size)));
          every =
              λ place low e. ⊎_elim (λ old. old) (λ same.
              absurd (omega arith))
              (Contains-push_cases rest p place (a.every place (omega (arith, last_below)) e));
        }

    pub rest_ascending : AllPairs ◌<◌ rest
    rest_ascending i j d lt h =
        let less : get_or (rest ++ p ∷ []) i d < get_or (rest ++ p ∷ []) j d =
        up i j d lt (omega (arith, size)) in
        let one : get_or (rest ++ p ∷ []) i d ≡ get_or rest i d =
        get_or_append_left rest (p ∷ []) d i (omega arith) in
        let other : get_or (rest ++ p ∷ []) j d ≡ get_or rest j d =
        get_or_append_left rest (p ∷ []) d j h in
        omega arith
