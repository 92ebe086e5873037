-- For each order number, start and list of cycles, all of them fitting, an admitted design has an
-- ordered run, and all its ordered runs take as many rounds.
use mathlib.Core.Path.{fun_ext}
use Rattle.std.proofs.Common.{◌≡◌, ℕ, zero, suc, ◌+◌, ◌%◌, ◌^◌, ◌<◌, ◌≤◌, Bool, true, false, cond}
use Rattle.std.proofs.Common.{not, nat_lt, ltb-true, ltb-false, lt-ltb, List, [], ◌∷◌, length, map}
use Rattle.std.proofs.Common.{⊎_elim, refl, sym, ap, subst, ◌∙◌, arith, pow_pos, eq-or-lt_of_le}
use Rattle.std.specs.Prelude.{All, IsTrue, IsFalse, sum}
use Rattle.std.proofs.lemmas.Bool.{false≢true}
use Rattle.std.proofs.lemmas.List.Elements.{All-head, All-tail}
use Rattle.sv_system.specs.System.{Environment, Fits}
use Rattle.sv_system.specs.Schedules.{combinational}
use Rattle.sv_system.proofs.Pointwise.{fits_at, fits_from}
use Rattle.sv_flat.specs.Admission.{IsAdmitted}
use Rattle.sv_flat.specs.Clocks.{is_clock}
use Rattle.sv_flat.specs.Design.{FlatDesign}
use Rattle.sv_flat.specs.FlatSystem.{flat_system}
use Rattle.sv_flat.specs.Processes.{is_register}
use Rattle.sv_flat.specs.Schedules.{is_quiet, after_rounds, IsRoundCount, after_tick, tick_order}
use Rattle.sv_flat.specs.Schedules.{starting, with_inputs, IsOrderedRun}
use Rattle.sv_flat.specs.SignalLists.{inputs, registers}
use Rattle.sv_flat.specs.Soundness.{sound}
use Rattle.sv_flat.specs.Values.{signal_width}
use Rattle.sv_flat.proofs.LeastSets.{either_way, those_below}
use Rattle.sv_flat.proofs.RunsFit.{edge_fits}
use Rattle.sv_flat.specs.Given.{FitListed, given}
use Rattle.sv_sim.proofs.NextValues.{next_same, unclocked_values, unclocked_fit, seen_same}
use Rattle.sv_event.proofs.CycleOrders.{tick_order_is_order}
use Rattle.sv_event.proofs.RoundFacts.{rounds_quiet, rounds_settled}
use Rattle.sv_event.proofs.TickFacts.{tick_is_next}
use Rattle.sv_sim_run.specs.Runners.{with_values}
use Rattle.sv_sim_run.specs.Simulated.{RunsInOrder}
use Rattle.sv_sim_run.proofs.GivenFacts.{given_to_fits}

-- ---- the first number that passes

module _ (test : ℕ → Bool) where
  record IsFirst (n : ℕ) : Type 0 where
    some : 1 ≤ n
    passes : IsTrue (test n)
    before : (k : ℕ) → 1 ≤ k → k < n → IsFalse (test k)

  first_from : (more k : ℕ) → 1 ≤ k → IsTrue (test (k + more))
      → ((j : ℕ) → 1 ≤ j → j < k → IsFalse (test j))
      → (n : ℕ) × IsFirst n
  first_from zero k low passes none =
      let last : k + zero ≡ k = omega arith in
      (k, record { some = low; passes = subst (λ m. IsTrue (test m)) last passes; before = none })
  first_from (suc more) k low passes none = ⊎_elim
      (λ here. (k, record { some = low; passes = here; before = none }))
      (λ fails.
      let next : k + suc more ≡ k + 1 + more = omega arith in
      first_from more (k + 1) (omega arith) (subst (λ m. IsTrue (test m)) next passes)
      (λ j above below.
      let within : j ≤ k = omega (arith, below) in
      ⊎_elim
      (λ same. subst (λ m. IsFalse (test m)) (sym same) fails)
      (λ less. none j above less)
      (eq-or-lt_of_le within)))
      (either_way (test k))

-- ---- one ordered run

module _ (design : FlatDesign) (number : ℕ) where
  abbrev IsCount : ℕ → Environment ℕ → ℕ → Type 0
  IsCount drawn_by e n = IsRoundCount design drawn_by e n

  -- there is one count of rounds
  pub one_count : (drawn_by : ℕ) (e : Environment ℕ) (m n : ℕ) → IsCount drawn_by e m →
      IsCount drawn_by e n → m ≡ n
  one_count drawn_by e m n first second = ⊎_elim
      (λ less. absurd (false≢true (sym (second.before m first.some (ltb-true m n less))
      ∙ first.quiet)))
      (λ not_less. ⊎_elim
      (λ more. absurd (false≢true (sym (first.before n second.some (ltb-true n m more))
      ∙ second.quiet)))
      (λ not_more. let low = ltb-false m n not_less in let high = ltb-false n m not_more in
      omega (arith, low, high))
      (either_way (nat_lt n m)))
      (either_way (nat_lt m n))

  abbrev drawn_by : ℕ → ℕ
  drawn_by cycle = (number + cycle) % 2 ^ 64

  -- how an ordered run begins
  record Begins (cycle : ℕ) (before i : Environment ℕ) (later : List (Environment ℕ))
      (counts : List ℕ) : Type 0 where
    count : ℕ
    others : List ℕ
    are : counts ≡ count ∷ others
    settled : Environment ℕ
    environments : List (Environment ℕ)
    runs : IsOrderedRun design number cycle before (i ∷ later) (settled ∷ environments)
        (count ∷ others)

  begins : (cycle : ℕ) (before i : Environment ℕ) (later es : List (Environment ℕ))
      (counts : List ℕ) → IsOrderedRun design number cycle before (i ∷ later) es counts
      → Begins cycle before i later counts
  begins cycle before i later (e ∷ es) (k ∷ ks) is = record {
    count = k;
    others = ks;
    are = refl;
    settled = e;
    environments = es;
    runs = is;
  }
  begins cycle before i later [] [] is = absurd is
  begins cycle before i later [] (k ∷ ks) is = absurd is
  begins cycle before i later (e ∷ es) [] is = absurd is

  no_counts : (cycle : ℕ) (before : Environment ℕ) (es : List (Environment ℕ)) (counts : List ℕ)
      → IsOrderedRun design number cycle before [] es counts → counts ≡ []
  no_counts cycle before [] [] is = refl
  no_counts cycle before [] (k ∷ ks) is = absurd is
  no_counts cycle before (e ∷ es) [] is = absurd is
  no_counts cycle before (e ∷ es) (k ∷ ks) is = absurd is

  same_counts : (cycle : ℕ) (before : Environment ℕ) (inputs es fs : List (Environment ℕ))
      (ks ms : List ℕ)
      → IsOrderedRun design number cycle before inputs es ks
      → IsOrderedRun design number cycle before inputs fs ms → ks ≡ ms
  same_counts cycle before [] es fs ks ms first second =
      no_counts cycle before es ks first ∙ sym (no_counts cycle before fs ms second)
  same_counts cycle before (i ∷ later) es fs ks ms first second =
      let a = begins cycle before i later es ks first in
      let b = begins cycle before i later fs ms second in
      let start : Environment ℕ = with_inputs design i before in
      let then : Environment ℕ → Environment ℕ = after_tick design (tick_order design cycle) in
      let count = one_count (drawn_by cycle) start a.count b.count a.runs.0 b.runs.0 in
      let settled : b.settled ≡ a.settled = fun_ext (λ s.
      b.runs.1 s ∙ ap (λ n. after_rounds design (drawn_by cycle) n start s) (sym count)
      ∙ sym (a.runs.1 s)) in
      a.are
      ∙ ap (λ n. n ∷ a.others) count
      ∙ ap (λ ns. b.count ∷ ns)
      (same_counts (cycle + 1) (then a.settled) later a.environments b.environments a.others
      b.others a.runs.2
      (subst (λ (e : Environment ℕ).
      IsOrderedRun design number (cycle + 1) (then e) later b.environments b.others) settled
      b.runs.2))
      ∙ sym b.are

  pub one_ordered_run : (start : List ℕ) (cycles : List (List ℕ)) (m n : ℕ)
      → RunsInOrder design number start cycles m → RunsInOrder design number start cycles n
      → m ≡ n
  one_ordered_run start cycles m n first second =
      first.runs.summed
      ∙ ap sum
      (same_counts 0 (starting design (given (registers design) start))
      (map (given (inputs design)) cycles) first.environments second.environments
      first.runs.counts second.runs.counts first.runs.runs second.runs.runs)
      ∙ sym second.runs.summed

-- ---- each has an ordered run

module _ (design : FlatDesign) (is_sound : IsTrue (sound design))
    (admitted : IsAdmitted design) where
  abbrev Fitting : Environment ℕ → Type 0
  Fitting e = Fits (flat_system design) e

  -- the rounds come to an end
  pub has_rounds : (number : ℕ) (start : Environment ℕ) → Fitting start →
      (count : ℕ) × IsRoundCount design number start count
  has_rounds number start fits =
      let enough = 1 + length (combinational (flat_system design)) in
      let found = first_from (λ k. is_quiet design (after_rounds design number k start))
      (length (combinational (flat_system design))) 1 (omega arith)
      (rounds_quiet design is_sound admitted number start fits enough (omega arith))
      (λ j above below. absurd (omega (arith, above, below))) in (
        found.0,
        record {
          some = found.1.some;
          quiet = found.1.passes;
          before = found.1.before;
        },
      )

  -- ---- values that fit

  cond_fits : (b : Bool) (m n most : ℕ) → m < most → n < most → cond b m n < most
  cond_fits true m n most first second = first
  cond_fits false m n most first second = second

  start_fits : (start : List ℕ) → FitListed design.signals (registers design) start →
      Fitting (starting design (given (registers design) start))
  start_fits start fit =
      fits_from (flat_system design) (starting design (given (registers design) start)) (λ s seen.
      cond_fits (is_register design s) (given (registers design) start s) 0
      (2 ^ signal_width design.signals s)
      (given_to_fits design.signals (registers design) start s fit)
      (pow_pos (signal_width design.signals s)))

  inputs_fit : (values : List ℕ) (before : Environment ℕ)
      → FitListed design.signals (inputs design) values → Fitting before
      → Fitting (with_values design values before)
  inputs_fit values before fit fits =
      fits_from (flat_system design) (with_values design values before) (λ s seen.
      cond_fits ((flat_system design).is_input s) (given (inputs design) values s) (before s)
      (2 ^ signal_width design.signals s)
      (given_to_fits design.signals (inputs design) values s fit)
      (fits_at (flat_system design) before fits s seen))

  rounds_fit : (number count : ℕ) (start : Environment ℕ) → Fitting start
      → IsRoundCount design number start count → Fitting (after_rounds design number count start)
  rounds_fit number count start fits is =
      (rounds_settled design is_sound admitted number start fits count is.quiet).settled.fits

  edge_fits_all : (e : Environment ℕ) → Fitting e → Fitting ((flat_system design).next e)
  edge_fits_all e fits =
      fits_from (flat_system design) ((flat_system design).next e) (λ s seen.
      subst (λ v. v < 2 ^ signal_width design.signals s)
      (sym (next_same design is_sound admitted e (unclocked_values design is_sound admitted e) s
      (seen_same design is_sound admitted e s seen) (seen_same design is_sound admitted e)))
      (edge_fits design is_sound admitted (unclocked_values design is_sound admitted e)
      (unclocked_fit design is_sound admitted e fits) s
      (lt-ltb s (length design.signals)
      (those_below (length design.signals) (λ z. not (is_clock design z)) s seen))))

  tick_fits : (cycle : ℕ) (e : Environment ℕ) → Fitting e →
      Fitting (after_tick design (tick_order design cycle) e)
  tick_fits cycle e fits =
      subst Fitting
      (sym (tick_is_next design is_sound admitted (tick_order design cycle)
      (tick_order_is_order design cycle) e))
      (edge_fits_all e fits)

  -- ---- runs

  record HasRun (number cycle : ℕ) (before : Environment ℕ) (cycles : List (List ℕ)) :
      Type 0 where
    environments : List (Environment ℕ)
    counts : List ℕ
    runs : IsOrderedRun design number cycle before (map (given (inputs design)) cycles)
        environments counts

  has_run : (number cycle : ℕ) (before : Environment ℕ) (cycles : List (List ℕ))
      → Fitting before → All (FitListed design.signals (inputs design)) cycles
      → HasRun number cycle before cycles
  has_run number cycle before [] fits all =
      record { environments = []; counts = []; runs = tt }
  has_run number cycle before (values ∷ later) fits all =
      let by = (number + cycle) % 2 ^ 64 in
      let start : Environment ℕ = with_values design values before in
      let start_fit = inputs_fit values before
      (All-head (FitListed design.signals (inputs design)) values later all) fits in
      let found = has_rounds by start start_fit in
      let settled : Environment ℕ = after_rounds design by found.0 start in
      let rest = has_run number (cycle + 1) (after_tick design (tick_order design cycle) settled)
      later (tick_fits cycle settled (rounds_fit by found.0 start start_fit found.1))
      (All-tail (FitListed design.signals (inputs design)) values later all) in
      record {
        environments = settled ∷ rest.environments;
        counts = found.0 ∷ rest.counts;
        runs = (found.1, λ s. refl, rest.runs);
      }

  pub has_ordered_run : (number : ℕ) (start : List ℕ) (cycles : List (List ℕ))
      → FitListed design.signals (registers design) start
      → All (FitListed design.signals (inputs design)) cycles
      → (rounds : ℕ) × RunsInOrder design number start cycles rounds
  has_ordered_run number start cycles fit all =
      let run = has_run number 0 (starting design (given (registers design) start)) cycles
      (start_fits start fit) all in (
        sum run.counts,
        record {
          environments = run.environments;
          runs = record { counts = run.counts; runs = run.runs; summed = refl };
        },
      )
