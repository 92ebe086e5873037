-- Without a circle of reads there is an order of reads: signal by signal, from the last to the
-- first, those that do not read the signal over greater ones, then the signal, then those that do.
use Rattle.std.proofs.Common.{◌≡◌, ◌≢◌, ◌⊎◌, inl, inr, ⊎_elim, ℕ, zero, suc, ◌+◌, ◌<◌, ◌≤◌, Bool}
use Rattle.std.proofs.Common.{true, false, cond, not, ◌&&◌, ◌||◌, ◌==◌, nat_lt, List, [], ◌∷◌, ◌++◌}
use Rattle.std.proofs.Common.{length, refl, sym, subst, ◌∙◌, arith, ltb-true, lt-ltb}
use Rattle.std.specs.Prelude.{IsTrue, IsFalse, Contains, filter}
use Rattle.std.specs.List.{list_any, list_all}
use Rattle.std.proofs.lemmas.Bool.{false≢true, eqb-true, eq-eqb, or_left, or_right}
use Rattle.sv_system.proofs.Lists.{Contains-head, Contains-later, Contains-nil, Contains-cases}
use Rattle.sv_system.proofs.Lists.{Contains-filter}
use Rattle.sv_system.proofs.Fronts.{placed, is_placed}
use Rattle.sv_flat.specs.Breaches.{Breach}
use Rattle.sv_flat.specs.Design.{FlatDesign}
use Rattle.sv_flat.specs.Loops.{reads_along, all_differ, loop_breach, IsLoop, reads_only_before}
use Rattle.sv_flat.specs.Loops.{HasReadOrder}
use Rattle.sv_flat.specs.Processes.{signals_that}
use Rattle.sv_flat.specs.Reads.{is_combinational, is_read_for, reads_for}
use Rattle.sv_flat.specs.Sets.{holds, least_set}
use Rattle.sv_flat.proofs.AdmittedFacts.{and_true}
use Rattle.sv_flat.proofs.Depths.{first_of, second_of, is_below}
use Rattle.sv_flat.proofs.LeastSets.{either_way, holds-from_Contains, Contains-from_holds}
use Rattle.sv_flat.proofs.LeastSets.{Contains-from_filter, least_set_has, least_set_closed}
use Rattle.sv_flat.proofs.LeastSets.{least_set_least, those_pass}
use Rattle.sv_flat.proofs.Members.{Contains-left, Contains-right, Contains-either}

-- ---- small steps

turned : (b : Bool) → IsFalse b → IsTrue (not b)
turned true h = absurd (false≢true (sym h))
turned false h = refl

unequal : (a t : ℕ) → IsFalse (a == t) → a ≢ t
unequal a t ne e = false≢true (sym ne ∙ eq-eqb a t e)

-- what is greater than a, where it is from a on and not a
next_to : (a t : ℕ) → a ≤ t → a ≢ t → a < t
next_to a t le differ = omega arith

-- a list that has what another has still does with one more before both
both_more : (first more : List ℕ) (s : ℕ) → ((t : ℕ) → Contains first t → Contains more t)
    → (t : ℕ) → Contains (s ∷ first) t → Contains (s ∷ more) t
both_more first more s keeps t at = ⊎_elim
    (λ e. subst (Contains (s ∷ more)) e (Contains-head s more))
    (λ later. Contains-later s more t (keeps t later))
    (Contains-cases s first t at)

-- ---- lists of numbers in question, each of which reads only numbers in question before it

module _ (comb : ℕ → Bool) (reads : ℕ → ℕ → Bool) where
  -- what the number reads from `low` on stands in the list
  abbrev ReadsOf : (low s : ℕ) → List ℕ → Type 0
  ReadsOf low s first =
      (t : ℕ) → IsTrue (comb t) → low ≤ t → IsTrue (reads s t) → Contains first t

  -- each number of the list reads only others from `low` on that stand before it
  abbrev pub ReadsBefore : (low : ℕ) → (first signals : List ℕ) → Type 0
  ReadsBefore low first [] = Unit {0}
  ReadsBefore low first (s ∷ signals) =
      ReadsOf low s first × ReadsBefore low (s ∷ first) signals

  before_append : (low : ℕ) (first xs ys : List ℕ) → ReadsBefore low first xs
      → ReadsBefore low (placed first xs) ys → ReadsBefore low first (xs ++ ys)
  before_append low first [] ys h k = k
  before_append low first (x ∷ xs) ys h k = (h.0, before_append low (x ∷ first) xs ys h.1 k)

  -- all numbers of the list are in question and greater than a
  abbrev AreAbove : (a : ℕ) → List ℕ → Type 0
  AreAbove a signals = (s : ℕ) → Contains signals s → IsTrue (comb s) × (a < s)

  above_rest : (a s : ℕ) (signals : List ℕ) → AreAbove a (s ∷ signals) → AreAbove a signals
  above_rest a s signals are t at = are t (Contains-later s signals t at)

  -- ---- a number more, below those of the list

  module _ (a : ℕ) (above : ℕ → Bool)
      (closed : (s t : ℕ) → IsTrue (comb s) → a < s → IsTrue (comb t) → a ≤ t → IsTrue (reads s t)
      → (a ≡ t) ⊎ IsTrue (above t) → IsTrue (above s))
      (apart : (t : ℕ) → IsTrue (comb t) → a ≤ t → IsTrue (reads a t)
      → IsFalse (a == t) × IsFalse (above t)) where
    abbrev low_part : List ℕ → List ℕ
    low_part signals = filter (λ s. not (above s)) signals

    abbrev high_part : List ℕ → List ℕ
    high_part signals = filter above signals

    low_step : (b : Bool) (s : ℕ) (first_low signals : List ℕ)
        → (IsFalse b → ReadsOf a s first_low)
        → (IsFalse b → ReadsBefore a (s ∷ first_low) (low_part signals))
        → (IsTrue b → ReadsBefore a first_low (low_part signals))
        → ReadsBefore a first_low (cond (not b) (s ∷ low_part signals) (low_part signals))
    low_step true s first_low signals here kept left = left refl
    low_step false s first_low signals here kept left = (here refl, kept refl)

    -- what a number that does not lie above a reads does not lie there either
    low_reads : (s : ℕ) (first first_low : List ℕ) → IsTrue (comb s) → a < s
        → ((t : ℕ) → Contains first t → IsFalse (above t) → Contains first_low t)
        → ReadsOf (suc a) s first → IsFalse (above s) → ReadsOf a s first_low
    low_reads s first first_low s_is s_above has h out t t_is le r = ⊎_elim
        (λ up. absurd (false≢true (sym out ∙ closed s t s_is s_above t_is le r (inr up))))
        (λ down. ⊎_elim
        (λ e. absurd (false≢true (sym out
        ∙ closed s t s_is s_above t_is le r (inl (eqb-true a t e)))))
        (λ ne.
        let lt = next_to a t le (unequal a t ne) in
        has t (h t t_is (omega arith) r) down)
        (either_way (a == t)))
        (either_way (above t))

    -- the numbers that do not lie above a, in their order
    low_before : (first first_low signals : List ℕ) → AreAbove a signals
        → ((t : ℕ) → Contains first t → IsFalse (above t) → Contains first_low t)
        → ReadsBefore (suc a) first signals → ReadsBefore a first_low (low_part signals)
    low_before first first_low [] are has h = tt
    low_before first first_low (s ∷ signals) are has h =
        let is = are s (Contains-head s signals) in
        low_step (above s) s first_low signals
        (low_reads s first first_low is.0 is.1 has h.0)
        (λ out. low_before (s ∷ first) (s ∷ first_low) signals (above_rest a s signals are)
        (λ t at down. ⊎_elim
        (λ e. subst (Contains (s ∷ first_low)) e (Contains-head s first_low))
        (λ later. Contains-later s first_low t (has t later down))
        (Contains-cases s first t at)) h.1)
        (λ up. low_before (s ∷ first) first_low signals (above_rest a s signals are)
        (λ t at down. ⊎_elim
        (λ e. absurd (false≢true (sym down ∙ subst (λ z. IsTrue (above z)) e up)))
        (λ later. has t later down)
        (Contains-cases s first t at)) h.1)

    high_step : (b : Bool) (s : ℕ) (first_high signals : List ℕ)
        → (IsTrue b → ReadsOf a s first_high)
        → (IsTrue b → ReadsBefore a (s ∷ first_high) (high_part signals))
        → (IsFalse b → ReadsBefore a first_high (high_part signals))
        → ReadsBefore a first_high (cond b (s ∷ high_part signals) (high_part signals))
    high_step true s first_high signals here kept left = (here refl, kept refl)
    high_step false s first_high signals here kept left = left refl

    high_reads : (s : ℕ) (first first_high : List ℕ) → Contains first_high a
        → ((t : ℕ) → Contains first t → Contains first_high t)
        → ReadsOf (suc a) s first → ReadsOf a s first_high
    high_reads s first first_high own has h t t_is le r = ⊎_elim
        (λ e. subst (Contains first_high) (eqb-true a t e) own)
        (λ ne.
        let lt = next_to a t le (unequal a t ne) in
        has t (h t t_is (omega arith) r))
        (either_way (a == t))

    -- those that do, where a and the others stand before them
    high_before : (first first_high signals : List ℕ) → Contains first_high a
        → ((t : ℕ) → Contains first t → Contains first_high t)
        → ((t : ℕ) → Contains signals t → IsFalse (above t) → Contains first_high t)
        → ReadsBefore (suc a) first signals → ReadsBefore a first_high (high_part signals)
    high_before first first_high [] own has lows h = tt
    high_before first first_high (s ∷ signals) own has lows h =
        high_step (above s) s first_high signals
        (λ up. high_reads s first first_high own has h.0)
        (λ up. high_before (s ∷ first) (s ∷ first_high) signals
        (Contains-later s first_high a own) (both_more first first_high s has)
        (λ t at down. Contains-later s first_high t
        (lows t (Contains-later s signals t at) down)) h.1)
        (λ down. high_before (s ∷ first) first_high signals own
        (λ t at. ⊎_elim
        (λ e. lows t (subst (Contains (s ∷ signals)) e (Contains-head s signals))
        (subst (λ z. IsFalse (above z)) e down))
        (λ later. has t later)
        (Contains-cases s first t at))
        (λ t at low. lows t (Contains-later s signals t at) low) h.1)

    abbrev joined : List ℕ → List ℕ
    joined signals = low_part signals ++ (a ∷ high_part signals)

    joined_before : (signals : List ℕ) → AreAbove a signals
        → ((t : ℕ) → IsTrue (comb t) → a < t → Contains signals t)
        → ReadsBefore (suc a) [] signals → ReadsBefore a [] (joined signals)
    joined_before signals are has h =
        let lows = low_part signals in
        let low_in : (t : ℕ) → Contains signals t → IsFalse (above t)
        → Contains (placed [] lows) t = λ t at down.
        is_placed [] lows t
        (Contains-filter (λ s. not (above s)) signals t at (turned (above t) down)) in
        before_append a [] lows (a ∷ high_part signals)
        (low_before [] [] signals are (λ t at down. absurd (Contains-nil t at)) h) (
          λ t t_is le r.
              let out = apart t t_is le r in
              low_in t (has t t_is (next_to a t le (unequal a t out.0))) out.1,
          high_before [] (a ∷ placed [] lows) signals (Contains-head a (placed [] lows))
              (λ t at. absurd (Contains-nil t at))
              (λ t at down. Contains-later a (placed [] lows) t (low_in t at down)) h,
        )

    joined_has : (signals : List ℕ) (t : ℕ) → Contains signals t → Contains (joined signals) t
    joined_has signals t at = ⊎_elim
        (λ up. Contains-right (low_part signals) (a ∷ high_part signals) t
        (Contains-later a (high_part signals) t (Contains-filter above signals t at up)))
        (λ down. Contains-left (low_part signals) (a ∷ high_part signals) t
        (Contains-filter (λ s. not (above s)) signals t at (turned (above t) down)))
        (either_way (above t))

    joined_own : (signals : List ℕ) → Contains (joined signals) a
    joined_own signals =
        Contains-right (low_part signals) (a ∷ high_part signals) a
        (Contains-head a (high_part signals))

    joined_only : (signals : List ℕ) (t : ℕ) → Contains (joined signals) t
        → (a ≡ t) ⊎ Contains signals t
    joined_only signals t at = ⊎_elim
        (λ low. inr (Contains-from_filter (λ s. not (above s)) signals t low).1)
        (λ rest. ⊎_elim
        (λ e. inl e)
        (λ high. inr (Contains-from_filter above signals t high).1)
        (Contains-cases a (high_part signals) t rest))
        (Contains-either (low_part signals) (a ∷ high_part signals) t at)

  -- a number that is not in question changes nothing
  same_before : (a : ℕ) (first signals : List ℕ) → IsFalse (comb a)
      → ReadsBefore (suc a) first signals → ReadsBefore a first signals
  same_before a first [] out h = tt
  same_before a first (s ∷ signals) out h = (
    λ t c l r. h.0 t c (let differ : a ≢ t = λ e.
        false≢true (sym out ∙ subst (λ z. IsTrue (comb z)) (sym e) c) in omega arith) r,
    same_before a (s ∷ first) signals out h.1,
  )

-- ---- designs

all_from : (test : ℕ → Bool) (xs : List ℕ) → ((x : ℕ) → Contains xs x → IsTrue (test x))
    → IsTrue (list_all test xs)
all_from test [] h = refl
all_from test (x ∷ xs) h =
    and_true (test x) (list_all test xs) (h x (Contains-head x xs))
    (all_from test xs (λ y at. h y (Contains-later x xs y at)))

module _ (design : FlatDesign) where
  abbrev n : ℕ
  n = length design.signals

  abbrev comb : ℕ → Bool
  comb = is_combinational design

  abbrev reads : ℕ → ℕ → Bool
  reads = is_read_for design

  -- reads lead from a signal to a, over greater signals, none twice
  abbrev IsWay : (a t : ℕ) → List ℕ → Type 0
  IsWay a t signals =
      IsTrue (reads_along design t signals a) × IsTrue (list_all comb (t ∷ signals))
      × IsTrue (list_all (nat_lt a) (t ∷ signals)) × IsTrue (all_differ (t ∷ signals))

  abbrev HasWay : (a t : ℕ) → Type 0
  HasWay a t = (signals : List ℕ) × IsWay a t signals

  way_rest : (a t u : ℕ) (signals : List ℕ) → IsWay a t (u ∷ signals) → IsWay a u signals
  way_rest a t u signals way = (
    second_of (reads t u) (reads_along design u signals a) way.0,
    second_of (comb t) (list_all comb (u ∷ signals)) way.1,
    second_of (nat_lt a t) (list_all (nat_lt a) (u ∷ signals)) way.2,
    second_of (not (list_any (λ b. b == t) (u ∷ signals))) (all_differ (u ∷ signals)) way.3,
  )

  -- each signal of a way has the rest of it
  way_from : (a : ℕ) (signals : List ℕ) (t : ℕ) → IsWay a t signals → (k : ℕ)
      → Contains (t ∷ signals) k → HasWay a k
  way_from a [] t way k at = ⊎_elim
      (λ e. subst (HasWay a) e ([], way))
      (λ none. absurd (Contains-nil k none))
      (Contains-cases t [] k at)
  way_from a (u ∷ signals) t way k at = ⊎_elim
      (λ e. subst (HasWay a) e (u ∷ signals, way))
      (λ later. way_from a signals u (way_rest a t u signals way) k later)
      (Contains-cases t (u ∷ signals) k at)

  -- one signal more
  way_more : (a t : ℕ) (signals : List ℕ) (k : ℕ) → IsWay a t signals → IsTrue (reads k t)
      → IsTrue (comb k) → IsTrue (nat_lt a k) → HasWay a k
  way_more a t signals k way reads_it k_is above = ⊎_elim
      (λ old. way_from a signals t way k (Contains-from_holds (t ∷ signals) k old))
      (λ new. (
        t ∷ signals,
        (
          and_true (reads k t) (reads_along design t signals a) reads_it way.0,
          and_true (comb k) (list_all comb (t ∷ signals)) k_is way.1,
          and_true (nat_lt a k) (list_all (nat_lt a) (t ∷ signals)) above way.2,
          and_true (not (holds (t ∷ signals) k)) (all_differ (t ∷ signals))
              (turned (holds (t ∷ signals) k) new) way.3,
        ),
      ))
      (either_way (holds (t ∷ signals) k))

  way_begun : (a k : ℕ) → IsTrue (reads k a) → IsTrue (comb k) → IsTrue (nat_lt a k)
      → HasWay a k
  way_begun a k reads_it k_is above = (
    [],
    (reads_it, and_true (comb k) true k_is refl, and_true (nat_lt a k) true above refl, refl),
  )

  module _ (none : (b : Breach) → IsLoop design b → ⊥) where
    module _ (a : ℕ) (a_is : IsTrue (comb a)) where
      abbrev brings : ℕ → ℕ → Bool
      brings s t = reads t s && comb t && nat_lt a t

      abbrev reached : List ℕ
      reached = least_set n brings (a ∷ [])

      -- the signals that read a over greater ones
      abbrev above : ℕ → Bool
      above t = holds reached t && nat_lt a t

      within : (k : ℕ) → Contains (a ∷ []) k → k < n
      within k at = ⊎_elim
          (λ e. subst (λ z. z < n) e (is_below design a a_is))
          (λ nowhere. absurd (Contains-nil k nowhere))
          (Contains-cases a [] k at)

      closed : (s t : ℕ) → IsTrue (comb s) → a < s → IsTrue (comb t) → a ≤ t → IsTrue (reads s t)
          → (a ≡ t) ⊎ IsTrue (above t) → IsTrue (above s)
      closed s t s_is s_above t_is t_above reads_it where_t =
          let from : Contains reached t = ⊎_elim
          (λ e. subst (Contains reached) e
          (least_set_has n brings (a ∷ []) within a (Contains-head a [])))
          (λ h. Contains-from_holds reached t (first_of (holds reached t) (nat_lt a t) h))
          where_t in
          let lt = lt-ltb a s s_above in
          and_true (holds reached s) (nat_lt a s)
          (holds-from_Contains reached s
          (least_set_closed n brings (a ∷ []) within t s from
          (and_true (reads s t && comb s) (nat_lt a s)
          (and_true (reads s t) (comb s) reads_it s_is) lt) (is_below design s s_is)))
          lt

      way_to : (t : ℕ) → Contains reached t → (a ≡ t) ⊎ HasWay a t
      way_to = least_set_least n brings (a ∷ []) within (λ t. (a ≡ t) ⊎ HasWay a t)
          (λ k at. ⊎_elim (λ e. inl e) (λ nowhere. absurd (Contains-nil k nowhere))
          (Contains-cases a [] k at))
          (λ m k so_far h below.
          let both = first_of (reads k m && comb k) (nat_lt a k) h in
          let k_above = second_of (reads k m && comb k) (nat_lt a k) h in
          let reads_it = first_of (reads k m) (comb k) both in
          let k_is = second_of (reads k m) (comb k) both in
          inr (⊎_elim
          (λ e. way_begun a k (subst (λ z. IsTrue (reads k z)) (sym e) reads_it) k_is k_above)
          (λ way. way_more a m way.0 k way.1 reads_it k_is k_above)
          so_far))

      apart : (t : ℕ) → IsTrue (comb t) → a ≤ t → IsTrue (reads a t)
          → IsFalse (a == t) × IsFalse (above t)
      apart t t_is t_above reads_it = (
        ⊎_elim
            (λ e. absurd (none (loop_breach design a []) (
              a,
              [],
              and_true (reads a a && list_all comb (a ∷ []) && true) true
                  (and_true (reads a a && list_all comb (a ∷ [])) true
                  (and_true (reads a a) (list_all comb (a ∷ []))
                  (subst (λ z. IsTrue (reads a z)) (sym (eqb-true a t e)) reads_it)
                  (and_true (comb a) true a_is refl)) refl) refl,
              refl,
            )))
            (λ fails. fails)
            (either_way (a == t)),
        ⊎_elim
            (λ h.
            let lt = ltb-true a t (second_of (holds reached t) (nat_lt a t) h) in ⊎_elim
            (λ e. absurd (omega arith))
            (λ (way : HasWay a t).
            let along = reads_along design a (t ∷ way.0) a in
            let all = list_all comb (a ∷ t ∷ way.0) in
            let greater = list_all (nat_lt a) (t ∷ way.0) in
            absurd (none (loop_breach design a (t ∷ way.0)) (
              a,
              t ∷ way.0,
              and_true (along && all && greater) (all_differ (t ∷ way.0))
                  (and_true (along && all) greater
                  (and_true along all
                  (and_true (reads a t) (reads_along design t way.0 a) reads_it way.1.0)
                  (and_true (comb a) (list_all comb (t ∷ way.0)) a_is way.1.1))
                  way.1.2) way.1.3,
              refl,
            )))
            (way_to t (Contains-from_holds reached t
            (first_of (holds reached t) (nat_lt a t) h))))
            (λ fails. fails)
            (either_way (above t)),
      )

    -- the combinational signals from `low` on, in an order
    abbrev OrderedFrom : ℕ → Type 0
    OrderedFrom low = (signals : List ℕ)
        × ((s : ℕ) → Contains signals s → IsTrue (comb s) × (low ≤ s))
        × ((t : ℕ) → IsTrue (comb t) → low ≤ t → Contains signals t)
        × ReadsBefore comb reads low [] signals

    ordered_with : (a : ℕ) → IsTrue (comb a) → OrderedFrom (suc a) → OrderedFrom a
    ordered_with a a_is (signals, are, has, before) =
        let all = joined comb reads a (above a a_is) (closed a a_is) (apart a a_is) signals in (
          all,
          λ s at. ⊎_elim
              (λ e. (subst (λ z. IsTrue (comb z)) e a_is, omega arith))
              (λ old. let is = are s old in let le = is.1 in (is.0, omega arith))
              (joined_only comb reads a (above a a_is) (closed a a_is) (apart a a_is) signals s at),
          λ t t_is le. ⊎_elim
              (λ e. subst (Contains all) (eqb-true a t e)
              (joined_own comb reads a (above a a_is) (closed a a_is) (apart a a_is) signals))
              (λ ne. joined_has comb reads a (above a a_is) (closed a a_is) (apart a a_is) signals
              t (has t t_is
              (next_to a t le (unequal a t ne))))
              (either_way (a == t)),
          joined_before comb reads a (above a a_is) (closed a a_is) (apart a a_is) signals
              (λ s at. let is = are s at in let le = is.1 in (is.0, omega arith))
              (λ t t_is lt. has t t_is (omega arith)) before,
        )

    ordered_without : (a : ℕ) → IsFalse (comb a) → OrderedFrom (suc a) → OrderedFrom a
    ordered_without a out (signals, are, has, before) = (
      signals,
      λ s at. let is = are s at in let le = is.1 in (is.0, omega arith),
      λ t t_is le. has t t_is (let differ : a ≢ t = λ e.
          false≢true (sym out ∙ subst (λ z. IsTrue (comb z)) (sym e) t_is) in omega arith),
      same_before comb reads a [] signals out before,
    )

    ordered_from : (more low : ℕ) → low + more ≡ n → OrderedFrom low
    ordered_from zero low at_end = (
      [],
      λ s at. absurd (Contains-nil s at),
      λ t t_is le. absurd (let lt = is_below design t t_is in omega arith),
      tt,
    )
    ordered_from (suc more) low left =
        let later = ordered_from more (suc low) (omega arith) in ⊎_elim
        (λ low_is. ordered_with low low_is later)
        (λ out. ordered_without low out later)
        (either_way (comb low))

    only_before : (first signals : List ℕ) → ReadsBefore comb reads 0 first signals
        → IsTrue (reads_only_before design first signals)
    only_before first [] before = refl
    only_before first (s ∷ signals) before =
        and_true (list_all (λ t. not (comb t) || holds first t) (reads_for design s))
        (reads_only_before design (s ∷ first) signals)
        (all_from (λ t. not (comb t) || holds first t) (reads_for design s) (λ t at. ⊎_elim
        (λ t_is. or_right (not (comb t)) (holds first t)
        (holds-from_Contains first t
        (before.0 t t_is (omega arith) (those_pass n (reads s) t at))))
        (λ out. or_left (not (comb t)) (holds first t) (turned (comb t) out))
        (either_way (comb t))))
        (only_before (s ∷ first) signals before.1)

  -- where no signals read each other in a circle, there is an order of reads
  pub no_circle_has_order : ((b : Breach) → IsLoop design b → ⊥) → HasReadOrder design
  no_circle_has_order none =
      let found = ordered_from none n 0 (omega arith) in (
        found.0,
        and_true (list_all (holds found.0) (signals_that design comb))
            (reads_only_before design [] found.0)
            (all_from (holds found.0) (signals_that design comb) (λ t at.
            holds-from_Contains found.0 t
            (found.2 t (those_pass n comb t at) (omega arith))))
            (only_before none [] found.0 found.3),
      )
