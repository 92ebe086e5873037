-- What the steps of a simulation keep and reach.
use Rattle.std.proofs.Common.{◌≡◌, ℕ, zero, suc, ◌+◌, ◌<◌, ◌^◌, Bool, true, false, cond, not}
use Rattle.std.proofs.Common.{◌&&◌}
use Rattle.std.proofs.Common.{nat_lt, nat_eq, ltb-true, ltb-false, lt-ltb, List, [], ◌∷◌, ◌++◌}
use Rattle.std.proofs.Common.{length, take, drop}
use Rattle.std.proofs.Common.{get_or, Option, Some, None, ⊎_elim, refl, sym, ap, subst, ◌∙◌, arith}
use Rattle.std.proofs.Common.{pow_pos}
use Rattle.std.specs.Prelude.{Contains, IsTrue, IsFalse, IfSome, IsSome, position, slice_index}
use Rattle.std.specs.Prelude.{replicate}
use Rattle.std.specs.Option.{is_some, option_eq}
use Rattle.std.specs.List.{position_or_len}
use Rattle.std.proofs.Math.Seq.{take-append_seam}
use Rattle.std.proofs.Math.ListN.{get_or-eq_default}
use Rattle.std.proofs.lemmas.Bool.{eqb-true, false≢true}
use Rattle.std.proofs.lemmas.List.{length-map, get_or-map, get_or-replicate, length-replicate}
use Rattle.std.proofs.lemmas.List.Elements.{Contains-get_or}
use Rattle.std.proofs.lemmas.List.Quantifiers.{position-Some}
use Rattle.sv_system.specs.System.{Environment, Settled, IsStill, SameSignals}
use Rattle.sv_system.specs.Schedules.{IsTheSettled}
use Rattle.sv_system.proofs.Lists.{Contains-nil, Contains-cases, Contains-filter}
use Rattle.sv_system.proofs.OneTrace.{settled_agree}
use Rattle.sv_system.proofs.Pointwise.{each}
use Rattle.sv_flat.specs.declared.designs.Flat.{Flat}
use Rattle.sv_flat.specs.declared.signals.SigId.{SigId}
use Rattle.sv_flat.specs.declared.signals.Signal.{Signal}
use Rattle.sv_flat.specs.Design.{SignalForm, ProcessForm, FlatDesign}
use Rattle.sv_flat.specs.Admission.{IsAdmitted}
use Rattle.sv_flat.specs.Assigned.{assigns}
use Rattle.sv_flat.specs.ByNumber.{by_number, FitSignals}
use Rattle.sv_flat.specs.Clocks.{is_clock, processes_of}
use Rattle.sv_flat.specs.FlatSystem.{flat_system}
use Rattle.sv_flat.specs.Processes.{is_clocked, is_top_kind, is_top_input}
use Rattle.sv_flat.specs.Processes.{signals_that}
use Rattle.sv_flat.specs.Reads.{is_combinational, order}
use Rattle.sv_flat.specs.SignalLists.{inputs as inputs_of, driver_of}
use Rattle.sv_flat.specs.Soundness.{sound}
use Rattle.sv_flat.specs.Values.{signal_of, signal_width}
use Rattle.sv_flat.specs.Views.{signal_form, design_of}
use Rattle.sv_flat.proofs.AdmittedFacts.{and_true, negated_true, is_process}
use Rattle.sv_flat.proofs.AdmittedFacts.{combinational_is_driven}
use Rattle.sv_flat.proofs.Depths.{first_of, second_of, is_below}
use Rattle.sv_flat.proofs.FlatScheduled.{parts_of}
use Rattle.sv_flat.proofs.LeastSets.{either_way, some_from, in_those, those_pass}
use Rattle.sv_flat.proofs.Orders.{order_only}
use Rattle.sv_flat.proofs.SameRuns.{none_found}
use Rattle.sv_design.specs.Numbers.{numbers}
use Rattle.sv_flat.specs.Given.{with_given, given}
use Rattle.sv_sim.specs.Settling.{IsDriver, SameOthers}
use Rattle.sv_sim.specs.Simulations.{process_at}
use Rattle.sv_sim.specs.Simulations.{IsSimulation}
use Rattle.sv_sim.proofs.AtPlace.{idle, is_among}
use Rattle.sv_sim.proofs.Fitting.{numbers_fit}
use Rattle.sv_sim.proofs.GivenValues.{listed_value, other_value, listed_within}
use Rattle.sv_sim.proofs.InOrder.{no_given, no_register}
use Rattle.sv_sim.proofs.OneDesign.{design_ordered, input_no_register}

-- ---- lists

-- a vector that is written whole
pub written : (len : ℕ) (new old : List ℕ) → length new ≡ len →
    take len (new ++ drop (length new) old) ≡ new
written len new old is =
    subst (λ n. take n (new ++ drop (length new) old) ≡ new) is
    (take-append_seam new (drop (length new) old))

-- the number at a place of a list of signals
pub number_at : (ss : List SigId) (ns : List ℕ) → numbers ss ≡ ns → (k : ℕ) → k < length ss
    → slice_index ns k ≡ (get_or ss k (record { 0 = 0 })).0
number_at ss ns is k inside =
    ap (λ ms. slice_index ms k) (sym is)
    ∙ get_or-map (λ (s : SigId). s.0) ss k (record { 0 = 0 }) 0 inside

-- it is one of them
pub listed_at : (ss : List SigId) (ns : List ℕ) → numbers ss ≡ ns → (k : ℕ) → k < length ss
    → Contains ns (get_or ss k (record { 0 = 0 })).0
listed_at ss ns is k inside =
    subst (Contains ns) (number_at ss ns is k inside)
    (Contains-get_or ns k 0
    (subst (λ n. k < n) (sym (length-map ss (λ (s : SigId). s.0)) ∙ ap length is) inside))

-- each signal of the order is combinational, and a signal
pub order_at : (flat : Flat) → IsAdmitted (design_of flat) → (ss : List SigId)
    → numbers ss ≡ order (design_of flat) → (k : ℕ) → k < length ss
    → IsTrue (is_combinational (design_of flat) (get_or ss k (record { 0 = 0 })).0)
order_at flat admitted ss is k inside =
    order_only (design_of flat) admitted.ordered (get_or ss k (record { 0 = 0 })).0
    (listed_at ss (order (design_of flat)) is k inside)

pub order_within : (flat : Flat) → IsAdmitted (design_of flat) → (ss : List SigId)
    → numbers ss ≡ order (design_of flat) → (k : ℕ) → k < length ss
    → (get_or ss k (record { 0 = 0 })).0 < length flat.signals.items
order_within flat admitted ss is k inside =
    subst (λ n. (get_or ss k (record { 0 = 0 })).0 < n)
    (length-map flat.signals.items signal_form)
    (is_below (design_of flat) (get_or ss k (record { 0 = 0 })).0
    (order_at flat admitted ss is k inside))

-- listed signals are signals
pub numbers_within : (flat : Flat) (signals : List Signal) → signals ≡ flat.signals.items
    → (test : ℕ → Bool) (listed : List SigId)
    → numbers listed ≡ signals_that (design_of flat) test
    → (k : ℕ) → k < length listed → slice_index (numbers listed) k < length signals
numbers_within flat signals is test listed are k inside =
    subst (λ n. slice_index (numbers listed) k < n)
    (length-map flat.signals.items signal_form ∙ ap length (sym is))
    (listed_within (length (design_of flat).signals) test (numbers listed) are k
    (subst (λ n. k < n) (sym (length-map listed (λ (s : SigId). s.0))) inside))

-- ---- drivers

module _ {X : Type 0} (test : X → Bool) where
  one_step : (c : Bool) (rest n : ℕ) → (IsFalse c → rest < n) →
      cond (not c) (1 + rest) 0 < suc n
  one_step true rest n later = omega arith
  one_step false rest n later = let less = later refl in omega arith

  found_within : (xs : List X) (x : X) → Contains xs x → IsTrue (test x) →
      position_or_len test xs < length xs
  found_within [] x at passes = absurd (Contains-nil x at)
  found_within (y ∷ ys) x at passes =
      one_step (test y) (position_or_len test ys) (length ys) (λ fails. ⊎_elim
      (λ same. absurd (false≢true (sym fails ∙ ap test same ∙ passes)))
      (λ later. found_within ys x later passes)
      (Contains-cases y ys x at))

  found : (xs : List X) (x : X) → Contains xs x → IsTrue (test x) → IsSome (position test xs)
  found xs x at passes =
      ap (λ c. is_some (cond c (Some (position_or_len test xs)) None))
      (lt-ltb (position_or_len test xs) (length xs) (found_within xs x at passes))

module _ (design : FlatDesign) (is_sound : IsTrue (sound design))
    (admitted : IsAdmitted design) where
  pub has_driver : (s : ℕ) → IsTrue (is_combinational design s) → IsSome (driver_of design s)
  has_driver s comb =
      let driven = combinational_is_driven design is_sound admitted s comb in
      found (λ (p : ProcessForm). assigns p.body s) (processes_of design) driven.0 driven.1 driven.3

  pub driver_is : (s k : ℕ) → IsTrue (is_combinational design s) → driver_of design s ≡ Some k →
      IsDriver design s k
  driver_is s k comb is =
      let first = position-Some (λ (p : ProcessForm). assigns p.body s) (processes_of design) k idle
      is in
      let p = process_at design k in
      let at = is_among design is_sound admitted k first.0 in
      let unclocked = none_found (is_clocked p.kind) (λ clock.
      false≢true (sym (parts_of design is_sound admitted s comb).2
      ∙ some_from (λ (q : ProcessForm). is_clocked q.kind && assigns q.body s) design.processes p
      (is_process design is_sound admitted p at)
      (and_true (is_clocked p.kind) (assigns p.body s) clock first.1))) in
      record {
        among = first.0;
        process = Contains-filter (λ (q : ProcessForm). not (is_clocked q.kind))
            (processes_of design) p at (ap not unclocked);
        assigned = first.1;
      }

-- the place that ran last
pub last_is : (last : Option ℕ) (place : ℕ) (P : ℕ → Type 0) → IfSome last P →
    option_eq nat_eq last (Some place) ≡ true → P place
last_is None place P holds same = absurd (false≢true same)
last_is (Some x) place P holds same = subst P (eqb-true x place same) holds

-- ---- values

-- zeros fit every signal
pub zeros_fit : (signals : List SignalForm) → FitSignals signals (replicate (length signals) 0)
zeros_fit signals = record {
  count = length-replicate (length signals) 0;
  each = λ s inside. subst (λ v. v < 2 ^ signal_width signals s)
      (sym (get_or-replicate (length signals) s 0 0 inside))
      (pow_pos (signal_width signals s));
}

zero_at : (n s : ℕ) → slice_index (replicate n 0) s ≡ 0
zero_at zero s = refl
zero_at (suc n) zero = refl
zero_at (suc n) (suc s) = zero_at n s

pub new_simulation : (design : FlatDesign) (values : List ℕ)
    → values ≡ replicate (length design.signals) 0 → IsSimulation design values false
new_simulation design values is = subst (λ vs. IsSimulation design vs false) (sym is) (record {
  fit = zeros_fit design.signals;
  clocks = λ s clock. zero_at (length design.signals) s;
  still = λ settled. absurd (false≢true settled);
})

-- a signal that is not listed keeps its value
pub given_keeps : (listed values old new : List ℕ)
    → by_number new ≡ with_given listed values (by_number old)
    → (s : ℕ) → (Contains listed s → ⊥) → by_number new s ≡ by_number old s
given_keeps listed values old new is s none =
    ap (λ e. e s) is ∙ other_value listed values s (by_number old s) none

-- values given to signals that are no clocks
pub given_simulation : (design : FlatDesign) (test : ℕ → Bool)
    → ((s : ℕ) → IsTrue (test s) → IsFalse (is_clock design s))
    → (listed values old new : List ℕ) (is_settled : Bool) → listed ≡ signals_that design test
    → IsSimulation design old is_settled → FitSignals design.signals new
    → by_number new ≡ with_given listed values (by_number old) → IsSimulation design new false
given_simulation design test no_clocks listed values old new is_settled are before fit is = record {
  fit = fit;
  clocks = λ s clock.
      given_keeps listed values old new is s (λ at.
      false≢true (sym (no_clocks s (those_pass (length design.signals) test s
      (subst (λ ss. Contains ss s) are at))) ∙ clock))
      ∙ before.clocks s clock;
  still = λ settled. absurd (false≢true settled);
}

-- an input is a signal, and is listed
input_inside : (design : FlatDesign) (s : ℕ) → IsTrue (is_top_input design s) →
    s < length design.signals
input_inside design s top = ⊎_elim
    (λ below. ltb-true s (length design.signals) below)
    (λ past. absurd (false≢true (ap (λ (z : SignalForm). is_top_kind z.kind)
    (sym (get_or-eq_default design.signals (signal_of [] 0)
    (ltb-false s (length design.signals) past))) ∙ top)))
    (either_way (nat_lt s (length design.signals)))

pub input_listed : (design : FlatDesign) (s : ℕ)
    → IsTrue (is_top_input design s && not (is_clock design s)) → Contains (inputs_of design) s
input_listed design s input =
    in_those (length design.signals) (λ z. is_top_input design z && not (is_clock design z)) s
    (input_inside design s (first_of (is_top_input design s) (not (is_clock design s)) input))
    input

module _ (design : FlatDesign) (is_sound : IsTrue (sound design))
    (admitted : IsAdmitted design) where
  pub input_no_clock : (s : ℕ) → IsTrue (is_top_input design s && not (is_clock design s)) →
      IsFalse (is_clock design s)
  input_no_clock s input =
      negated_true (is_clock design s)
      (second_of (is_top_input design s) (not (is_clock design s)) input)

  clock_no_comb : (s : ℕ) → IsTrue (is_clock design s) → IsFalse (is_combinational design s)
  clock_no_comb s clock = none_found (is_combinational design s) (λ comb.
      false≢true (sym (parts_of design is_sound admitted s comb).3 ∙ clock))

  pub settled_simulation : (mid new : List ℕ) → IsSimulation design mid false
      → FitSignals design.signals new
      → SameOthers design (by_number new) (by_number mid)
      → IsStill (flat_system design) (by_number new) → IsSimulation design new true
  settled_simulation mid new before fit others still = record {
    fit = fit;
    clocks = λ s clock. others s (clock_no_comb s clock) ∙ before.clocks s clock;
    still = λ settled. still;
  }

  -- what settling reaches
  pub is_the_settled : (values mid new given_inputs : List ℕ)
      → FitSignals design.signals new
      → by_number mid ≡ with_given (inputs_of design) given_inputs (by_number values)
      → length given_inputs ≡ length (inputs_of design)
      → SameOthers design (by_number new) (by_number mid)
      → IsStill (flat_system design) (by_number new)
      → IsTheSettled (flat_system design) (by_number values)
      (given (inputs_of design) given_inputs) (by_number new)
  is_the_settled values mid new given_inputs fit is count others still =
      record { settled = settled; alone = alone }
    where
      settled : Settled (flat_system design) (by_number values)
          (given (inputs_of design) given_inputs) (by_number new)
      settled = record {
        registers = λ s register.
            others s (no_register design is_sound admitted s register)
            ∙ given_keeps (inputs_of design) given_inputs values mid is s (λ at.
            false≢true (sym (input_no_register design is_sound admitted s
            (those_pass (length design.signals) (λ z.
            is_top_input design z && not (is_clock design z)) s at)) ∙ register));
        inputs_are = λ s input.
            others s (no_given design is_sound admitted s input)
            ∙ ap (λ e. e s) is
            ∙ listed_value (inputs_of design) given_inputs s (by_number values s) 0 count
            (input_listed design s input);
        fits = numbers_fit design new fit;
        still = still;
      }

      alone : (other : Environment ℕ) → Settled (flat_system design) (by_number values)
          (given (inputs_of design) given_inputs) other
          → SameSignals (flat_system design) (by_number new) other
      alone other rests = each (λ s. by_number new s ≡ other s) (flat_system design).signals
          (settled_agree (flat_system design) (design_ordered design is_sound admitted)
          (by_number values) (by_number values) (given (inputs_of design) given_inputs)
          (by_number new) other (λ s register. refl) settled rests)
