-- Lists of numbers, where they come to rest, and drawn rounds.
use Rattle.std.proofs.Common.{◌≡◌, ℕ, zero, suc, ◌+◌, ◌-◌, ◌%◌, ◌<◌, ◌≤◌}
use Rattle.std.proofs.Common.{List, [], ◌∷◌, ◌++◌, length}
use Rattle.std.proofs.Common.{map, refl, sym, ap, subst, ◌∙◌, ⊎_elim, arith, append-nil, not, ◌||◌}
use Rattle.std.proofs.Common.{length-append, add-one, eq-or-lt_of_le}
use Rattle.std.proofs.Common.{Bool, nat_lt, ltb-true, ltb-false}
use Rattle.std.specs.Prelude.{All, Contains, IsTrue, IsFalse, flat_map, filter, swap}
use Rattle.std.specs.List.{range_with_len}
use Rattle.std.specs.List.Sorted.{IsPermutation}
use Rattle.std.proofs.Math.Nat.{mod-lt}
use Rattle.std.proofs.lemmas.Grind.{flat_map-append}
use Rattle.std.proofs.lemmas.List.{length-map, map-append, get_or_default}
use Rattle.std.proofs.lemmas.List.Edits.{length-swap}
use Rattle.std.proofs.lemmas.Bool.{false≢true}
use Rattle.std.proofs.lemmas.List.Elements.{All-contains, All-append, Contains-get_or}
use Rattle.std.proofs.lemmas.List.Elements.{All-head, All-tail}
use Rattle.std.proofs.lemmas.List.FromFn.{length-range_with_len}
use Rattle.std.proofs.lemmas.List.Sorted.{IsPermutation-refl, IsPermutation-trans}
use Rattle.std.proofs.lemmas.List.Sorted.{IsPermutation-swap, Contains-permutation}
use Rattle.std.proofs.lemmas.List.Sorted.{All-permutation}
use Rattle.std.proofs.lemmas.List.Sums.{length-filter, count_by-le-length}
use Rattle.sv_system.specs.System.{Environment, Run, Fits, IsStill}
use Rattle.sv_system.specs.Schedules.{after_runs, IsSchedule, IsRound, IsTheSettled, combinational}
use Rattle.sv_system.proofs.Lists.{Contains-cases, Contains-nil}
use Rattle.sv_system.proofs.Lists.{Contains-map, Contains-from_map}
use Rattle.sv_system.proofs.Orders.{after_runs-append, rest_is_settled, enough_rounds_settle}
use Rattle.sv_system.proofs.Pointwise.{each, still_at, still_from}
use Rattle.sv_flat.specs.Admission.{IsAdmitted}
use Rattle.sv_flat.specs.Clocks.{is_clock}
use Rattle.sv_flat.specs.Design.{ProcessForm, FlatDesign}
use Rattle.sv_flat.specs.FlatSystem.{flat_system, combinational_processes, run_of}
use Rattle.sv_flat.specs.Schedules.{numbered_run, after_schedule, is_quiet, next_state, drawn}
use Rattle.sv_flat.specs.Schedules.{Drawing, shuffled, round, process_count, state_after}
use Rattle.sv_flat.specs.Schedules.{after_rounds}
use Rattle.sv_flat.specs.Soundness.{sound}
use Rattle.sv_flat.proofs.FlatScheduled.{flat_is_scheduled}
use Rattle.sv_flat.proofs.LeastSets.{range_has, either_way}
use Rattle.sv_sim.proofs.OneDesign.{design_ordered}
use Rattle.sv_event.specs.Rests.{AreNumbers, IsNumberedRound, QuietIsSettled, NumberedRoundsSettle}
use Rattle.sv_event.proofs.QuietFacts.{quiet_from, from_quiet}

-- ---- lists

each_mapped : {X Y : Type 0} (f : X → Y) (xss : List (List X))
    → map f (flat_map (λ (xs : List X). xs) xss) ≡
    flat_map (λ (ys : List Y). ys) (map (map f) xss)
each_mapped f [] = refl
each_mapped {X} f (xs ∷ xss) =
    map-append f xs (flat_map (λ (ys : List X). ys) xss)
    ∙ ap (λ ys. map f xs ++ ys) (each_mapped f xss)

one_more_list : {X : Type 0} (xss : List (List X)) (xs : List X)
    → flat_map (λ (ys : List X). ys) (xss ++ xs ∷ []) ≡
    flat_map (λ (ys : List X). ys) xss ++ xs
one_more_list {X} xss xs =
    flat_map-append (λ (ys : List X). ys) xss (xs ∷ [])
    ∙ ap (λ ys. flat_map (λ (zs : List X). zs) xss ++ ys) (append-nil xs)

All-one : {X : Type 0} (P : X → Type 0) (x : X) → P x → All P (x ∷ [])
All-one {X} P x holds =
    each P (x ∷ []) (λ y at. ⊎_elim (λ same. subst P same holds)
    (λ none. absurd (Contains-nil y none)) (Contains-cases x [] y at))

fewer_kept : {X : Type 0} (test : X → Bool) (xs : List X) → length (filter test xs) ≤ length xs
fewer_kept test xs =
    subst (λ n. n ≤ length xs) (sym (length-filter test xs)) (count_by-le-length test xs)

-- ---- drawn orders

shuffled_permutes : (i : ℕ) (drawing : Drawing) → (0 < i → i < length drawing.order)
    → IsPermutation drawing.order (shuffled i drawing).order
shuffled_permutes zero drawing inside = IsPermutation-refl drawing.order
shuffled_permutes (suc i) drawing inside =
    let x = next_state drawing.state in
    let xs = drawing.order in
    let j = drawn x % (suc i + 1) in
    let last : suc i < length xs = inside (omega arith) in
    let below : j < suc i + 1 = mod-lt (drawn x) (omega arith) in
    let same = length-swap xs (suc i) j in
    IsPermutation-trans xs (swap xs (suc i) j) (shuffled (suc i) drawing).order
    (IsPermutation-swap xs (swap xs (suc i) j) (suc i) j last (omega (arith, last, below)) refl)
    (shuffled_permutes i (record { order = swap xs (suc i) j; state = x })
    (λ some. omega (arith, last, same)))

-- a drawn order has each number once
round_permutes : (n state : ℕ) → IsPermutation (range_with_len 0 n) (round n state).order
round_permutes n state =
    let size = length-range_with_len 0 n in
    shuffled_permutes (n - 1) (record { order = range_with_len 0 n; state = state })
    (λ some. omega (arith, size))

pub range_is_below : (n : ℕ) → All (λ k. k < n) (range_with_len 0 n)
range_is_below n = each (λ k. k < n) (range_with_len 0 n) (below 0 n n (omega arith))
  where
    below : (a m n : ℕ) → a + m ≤ n → (k : ℕ) → Contains (range_with_len a m) k → k < n
    below a zero n within k at = absurd (Contains-nil k at)
    below a (suc m) n within k at = ⊎_elim
        (λ same. subst (λ z. z < n) same (omega (arith, within)))
        (λ later. below (a + 1) m n (omega (arith, within)) k later)
        (Contains-cases a (range_with_len (a + 1) m) k at)

module _ (design : FlatDesign) where
  pub drawn_is_round : (state : ℕ) →
      IsNumberedRound design (round (process_count design) state).order
  drawn_is_round state =
      let n = process_count design in
      let moved = round_permutes n state in
      record {
        numbers = All-permutation (λ k. k < n) (range_with_len 0 n) (round n state).order moved
            (range_is_below n);
        whole = λ k below. Contains-permutation (range_with_len 0 n) (round n state).order k moved
            (range_has n k below);
      }

  -- the orders of so many rounds
  abbrev pub drawn_rounds : (number rounds : ℕ) → List (List ℕ)
  drawn_rounds number zero = []
  drawn_rounds number (suc k) =
      drawn_rounds number k
      ++ (round (process_count design) (state_after design number k)).order ∷ []

  drawn_count : (number rounds : ℕ) → length (drawn_rounds number rounds) ≡ rounds
  drawn_count number zero = refl
  drawn_count number (suc k) =
      length-append (drawn_rounds number k)
      ((round (process_count design) (state_after design number k)).order ∷ [])
      ∙ ap (λ n. n + 1) (drawn_count number k) ∙ add-one k

  drawn_are_rounds : (number rounds : ℕ) →
      All (IsNumberedRound design) (drawn_rounds number rounds)
  drawn_are_rounds number zero =
      each (IsNumberedRound design) [] (λ xs at. absurd (Contains-nil xs at))
  drawn_are_rounds number (suc k) =
      All-append (IsNumberedRound design) (drawn_rounds number k)
      ((round (process_count design) (state_after design number k)).order ∷ [])
      (drawn_are_rounds number k)
      (All-one (IsNumberedRound design)
      (round (process_count design) (state_after design number k)).order
      (drawn_is_round (state_after design number k)))

  -- so many rounds are one list of runs
  abbrev pub drawn_schedule : (number rounds : ℕ) → List ℕ
  drawn_schedule number rounds = flat_map (λ (xs : List ℕ). xs) (drawn_rounds number rounds)

  schedule_append : (first second : List ℕ) (e : Environment ℕ)
      → after_schedule design (first ++ second) e ≡
      after_schedule design second (after_schedule design first e)
  schedule_append first second e =
      ap (λ runs. after_runs runs e) (map-append (numbered_run design) first second)
      ∙ after_runs-append (map (numbered_run design) first) (map (numbered_run design) second) e

  pub after_drawn : (number rounds : ℕ) (e : Environment ℕ)
      → after_rounds design number rounds e ≡ after_schedule design (drawn_schedule number rounds) e
  after_drawn number zero e = refl
  after_drawn number (suc k) e =
      let last = (round (process_count design) (state_after design number k)).order in
      ap (after_schedule design last) (after_drawn number k e)
      ∙ sym (schedule_append (drawn_schedule number k) last e)
      ∙ ap (λ ks. after_schedule design ks e) (sym (one_more_list (drawn_rounds number k) last))

  -- ---- lists of numbers are schedules

  number_of_runs : process_count design ≡ length (flat_system design).processes
  number_of_runs = sym (length-map (combinational_processes design) (run_of design))

  numbered_in : (k : ℕ) → k < process_count design →
      Contains (flat_system design).processes (numbered_run design k)
  numbered_in k below =
      Contains-get_or (flat_system design).processes k (λ e. e)
      (subst (λ n. k < n) number_of_runs below)

  pub numbers_schedule : (schedule : List ℕ) → AreNumbers design schedule →
      IsSchedule (flat_system design) (map (numbered_run design) schedule)
  numbers_schedule schedule all =
      each (Contains (flat_system design).processes) (map (numbered_run design) schedule)
      (λ run at. let from = Contains-from_map (numbered_run design) schedule run at in
      subst (Contains (flat_system design).processes) from.2
      (numbered_in from.0
      (All-contains (λ k. k < process_count design) schedule from.0 all from.1)))

  numbers_round : (ks : List ℕ) → IsNumberedRound design ks →
      IsRound (flat_system design) (map (numbered_run design) ks)
  numbers_round ks is = record {
    schedule = numbers_schedule ks is.numbers;
    whole = each (Contains (map (numbered_run design) ks)) (flat_system design).processes
        (λ run at.
        let k = at.0 in
        subst (Contains (map (numbered_run design) ks))
        (get_or_default (flat_system design).processes k (λ e. e) run at.1 ∙ at.2)
        (Contains-map (numbered_run design) ks k
        (is.whole k (subst (λ n. k < n) (sym number_of_runs) at.1))));
  }

  -- there are no more combinational signals than signals
  pub fewer_combinational : length (combinational (flat_system design)) ≤ length design.signals
  fewer_combinational =
      let system = flat_system design in
      let n = length design.signals in
      let first = fewer_kept (λ s. not (system.is_input s || system.is_register s))
      system.signals in
      let second = fewer_kept (λ s. not (is_clock design s)) (range_with_len 0 n) in
      let size = length-range_with_len 0 n in
      omega (arith, first, second, size)

-- ---- one more drawn round

module _ (design : FlatDesign) (number before : ℕ) (order : List ℕ) (state : ℕ)
    (size : length order ≡ process_count design)
    (state_is : state ≡ state_after design number before) where
  pub one_more_state : (round (length order) state).state ≡ state_after design number (before + 1)
  one_more_state =
      ap (λ n. (round n state).state) size
      ∙ ap (λ x. (round (process_count design) x).state) state_is
      ∙ ap (state_after design number) (sym (add-one before))

  pub one_more_round : (drawn : List ℕ) (old new start : Environment ℕ)
      → drawn ≡ (round (length order) state).order → old ≡ after_rounds design number before start
      → new ≡ after_schedule design drawn old → new ≡ after_rounds design number (before + 1) start
  one_more_round drawn old new start drawn_is old_is new_is =
      new_is ∙ ap (after_schedule design drawn) old_is
      ∙ ap (λ ks. after_schedule design ks (after_rounds design number before start))
      (drawn_is ∙ ap (λ n. (round n state).order) size
      ∙ ap (λ x. (round (process_count design) x).order) state_is)
      ∙ ap (λ k. after_rounds design number k start) (sym (add-one before))

  pub drawn_numbers : (drawn : List ℕ) → drawn ≡ (round (length order) state).order →
      AreNumbers design drawn
  drawn_numbers drawn is =
      subst (AreNumbers design) (sym (is ∙ ap (λ n. (round n state).order) size))
      (IsNumberedRound.numbers (drawn_is_round design state))

-- what holds of the numbers so far and of the next one
pub one_more_of : (P : ℕ → Type 0) (before : ℕ) → ((k : ℕ) → 1 ≤ k → k ≤ before → P k)
    → P (before + 1) → (k : ℕ) → 1 ≤ k → k ≤ before + 1 → P k
one_more_of P before each last k low high = ⊎_elim
    (λ same. subst P (sym same) last)
    (λ less. each k low (omega (arith, less)))
    (eq-or-lt_of_le high)

module _ (design : FlatDesign) (is_sound : IsTrue (sound design))
    (admitted : IsAdmitted design) where
  abbrev combs : List ProcessForm
  combs = combinational_processes design

  pub quiet_still : (e : Environment ℕ) → IsTrue (is_quiet design e) →
      IsStill (flat_system design) e
  quiet_still e quiet =
      still_from (flat_system design) e (λ run listed s.
      let from = Contains-from_map (run_of design) combs run listed in
      subst (λ (r : Run ℕ). r e s ≡ e s) from.2
      (from_quiet design is_sound admitted e quiet from.0 from.1 s))

  pub still_quiet : (e : Environment ℕ) → IsStill (flat_system design) e →
      IsTrue (is_quiet design e)
  still_quiet e still =
      quiet_from design is_sound admitted e (λ p at s.
      still_at (flat_system design) e still (run_of design p)
      (Contains-map (run_of design) combs p at)
      s)

  -- ---- where lists of numbers come to rest

  pub quiet_is_settled : QuietIsSettled design
  quiet_is_settled start schedule fits all quiet =
      rest_is_settled (flat_system design) (design_ordered design is_sound admitted)
      (flat_is_scheduled design is_sound admitted) start (map (numbered_run design) schedule) fits
      (numbers_schedule design schedule all)
      (quiet_still (after_schedule design schedule start) quiet)

  pub numbered_rounds_settle : NumberedRoundsSettle design
  numbered_rounds_settle start rounds fits all enough =
      let f = numbered_run design in
      let runs = map (map f) rounds in
      subst (λ (rs : List (Run ℕ)). IsTheSettled (flat_system design) start start
      (after_runs rs start)) (sym (each_mapped f rounds))
      (enough_rounds_settle (flat_system design) (design_ordered design is_sound admitted)
      (flat_is_scheduled design is_sound admitted) start runs fits
      (each (IsRound (flat_system design)) runs (λ run at.
      let from = Contains-from_map (map f) rounds run at in
      subst (IsRound (flat_system design)) from.2
      (numbers_round design from.0
      (All-contains (IsNumberedRound design) rounds from.0 all from.1))))
      (subst (λ n. length (combinational (flat_system design)) ≤ n)
      (sym (length-map rounds (map f))) enough))

  -- the settled environment of an environment's own registers and inputs is quiet, and the other
  -- way round
  pub settled_quiet : (e f g : Environment ℕ) → IsTheSettled (flat_system design) e f g →
      IsTrue (is_quiet design g)
  settled_quiet e f g is = still_quiet g is.settled.still

  pub quiet_settled : (e : Environment ℕ) → Fits (flat_system design) e → IsTrue (is_quiet design e)
      → IsTheSettled (flat_system design) e e e
  quiet_settled e fits quiet =
      quiet_is_settled e [] fits (each (λ k. k < process_count design) []
      (λ k at. absurd (Contains-nil k at))) quiet

  module _ (number : ℕ) (start : Environment ℕ) (fits : Fits (flat_system design) start) where
    -- enough drawn rounds end in quiet
    pub rounds_quiet : (rounds : ℕ) → length (combinational (flat_system design)) ≤ rounds →
        IsTrue (is_quiet design (after_rounds design number rounds start))
    rounds_quiet rounds enough =
        subst (λ (e : Environment ℕ). IsTrue (is_quiet design e))
        (sym (after_drawn design number rounds start))
        (settled_quiet start start
        (after_schedule design (drawn_schedule design number rounds) start)
        (numbered_rounds_settle start (drawn_rounds design number rounds) fits
        (drawn_are_rounds design number rounds)
        (subst (λ n. length (combinational (flat_system design)) ≤ n)
        (sym (drawn_count design number rounds)) enough)))

    -- drawn rounds that end in quiet end in the one settled environment
    pub rounds_settled : (rounds : ℕ)
        → IsTrue (is_quiet design (after_rounds design number rounds start))
        → IsTheSettled (flat_system design) start start (after_rounds design number rounds start)
    rounds_settled rounds quiet =
        subst (λ (e : Environment ℕ). IsTheSettled (flat_system design) start start e)
        (sym (after_drawn design number rounds start))
        (quiet_is_settled start (drawn_schedule design number rounds) fits
        (all_numbers (drawn_rounds design number rounds) (drawn_are_rounds design number rounds))
        (subst (λ (e : Environment ℕ). IsTrue (is_quiet design e))
        (after_drawn design number rounds start) quiet))
      where
        all_numbers : (rounds : List (List ℕ)) → All (IsNumberedRound design) rounds →
            AreNumbers design (flat_map (λ (ks : List ℕ). ks) rounds)
        all_numbers [] all = each (λ k. k < process_count design) [] (λ k at.
            absurd (Contains-nil k at))
        all_numbers (ks ∷ rounds) all =
            All-append (λ k. k < process_count design) ks (flat_map (λ (ms : List ℕ). ms) rounds)
            (IsNumberedRound.numbers (All-head (IsNumberedRound design) ks rounds all))
            (all_numbers rounds (All-tail (IsNumberedRound design) ks rounds all))

    -- no more rounds than one more than the combinational signals are run
    pub most_rounds : (before : ℕ)
        → ((k : ℕ) → 1 ≤ k → k ≤ before →
        IsFalse (is_quiet design (after_rounds design number k start)))
        → before ≤ length (combinational (flat_system design))
    most_rounds before none =
        let n = length (combinational (flat_system design)) in
        ⊎_elim
        (λ past. absurd (false≢true (sym (none before (omega (arith, ltb-true n before past))
        (omega arith)) ∙ rounds_quiet before (omega (arith, ltb-true n before past)))))
        (λ within. ltb-false n before within)
        (either_way (nat_lt n before))
