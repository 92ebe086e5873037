-- What the steps of a runner in drawn orders reach, and what they keep.
use Rattle.std.proofs.Common.{◌≡◌, ℕ, zero, suc, ◌<◌, ◌%◌, Bool, cond, ◌==◌, List, [], ◌∷◌}
use Rattle.std.proofs.Common.{length, get_or, refl, sym, ap, subst, ◌∙◌}
use Rattle.std.specs.Prelude.{Contains, IsTrue, replicate, reverse, slice_index}
use Rattle.std.specs.List.{range_with_len}
use Rattle.std.proofs.lemmas.Bool.{eqb-true, eq-eqb, false≢true}
use Rattle.std.proofs.lemmas.List.{get_or-map}
use Rattle.std.proofs.lemmas.List.Elements.{All-head, All-tail, Contains-get_or}
use Rattle.sv_system.specs.System.{Environment, Run, Settled}
use Rattle.sv_system.specs.Schedules.{IsTheSettled}
use Rattle.sv_design.specs.Designs.{IsDesign}
use Rattle.sv_flat.specs.declared.designs.Flat.{Flat}
use Rattle.sv_flat.specs.Admission.{IsAdmitted}
use Rattle.sv_flat.specs.Assigned.{assigns}
use Rattle.sv_flat.specs.ByNumber.{by_number}
use Rattle.sv_flat.specs.Clocks.{processes_of}
use Rattle.sv_flat.specs.Design.{ProcessForm, FlatDesign}
use Rattle.sv_flat.specs.FlatSystem.{flat_system, combinational_processes, clocked_processes}
use Rattle.sv_flat.specs.FlatSystem.{run_of, all_updates}
use Rattle.sv_flat.specs.Processes.{is_clocked}
use Rattle.sv_flat.specs.Reads.{is_combinational}
use Rattle.sv_flat.specs.Runs.{updates_of}
use Rattle.sv_flat.specs.Schedules.{numbered_run, after_schedule, round, process_count}
use Rattle.sv_flat.specs.Schedules.{state_after, after_rounds, clocked_count, tick_order}
use Rattle.sv_flat.specs.SignalLists.{system_signals, inputs}
use Rattle.sv_flat.specs.Soundness.{sound}
use Rattle.sv_flat.specs.Views.{design_of}
use Rattle.sv_flat.proofs.AdmittedFacts.{body_is_sound, assigned_is_signal, assigns_no_clock}
use Rattle.sv_flat.proofs.FlatScheduled.{to_system}
use Rattle.sv_flat.proofs.LeastSets.{Contains-from_filter}
use Rattle.sv_flat.proofs.SameRuns.{none_found}
use Rattle.sv_flat.specs.Given.{with_given, given}
use Rattle.sv_sim.proofs.AtPlace.{idle}
use Rattle.sv_sim.proofs.EdgeFacts.{last_untouched, all_touch, run_touch}
use Rattle.sv_sim.proofs.InOrder.{run_keeps_given}
use Rattle.sv_sim.proofs.NextValues.{is_seen}
use Rattle.sv_sim.proofs.OneDesign.{input_no_register}
use Rattle.sv_sim.proofs.Simulated.{input_listed}
use Rattle.sv_event.specs.Events.{EventState}
use Rattle.sv_event.specs.Rests.{AreNumbers, IsNumberedRound}
use Rattle.sv_event.proofs.RoundFacts.{drawn_is_round}
use Rattle.sv_sim_run.specs.declared.runners.Drawn.{Drawn}
use Rattle.sv_sim_run.specs.Runners.{OthersAreZero, IsDrawn, with_values}
use Rattle.sv_sim_run.proofs.GivenFacts.{input_seen, inputs_given}

module _ (design : FlatDesign) (is_sound : IsTrue (sound design))
    (admitted : IsAdmitted design) where
  abbrev combs : List ProcessForm
  combs = combinational_processes design

  -- ---- clocks, and what is no signal

  module _ (s : ℕ) (unseen : Contains (system_signals design) s → ⊥) where
    -- no run of a process changes them
    run_leaves_other : (k : ℕ) → k < process_count design → (e : Environment ℕ) →
        numbered_run design k e s ≡ e s
    run_leaves_other k below e =
        ap (λ (run : Run ℕ). run e s) (get_or-map (run_of design) combs k idle (λ f. f) below)
        ∙ run_keeps_given design is_sound admitted (get_or combs k idle)
        (Contains-get_or combs k idle below) e s
        (none_found (is_combinational design s) (λ comb.
        unseen (to_system design is_sound admitted s comb).among))

    schedule_leaves_other : (ks : List ℕ) → AreNumbers design ks → (e : Environment ℕ) →
        after_schedule design ks e s ≡ e s
    schedule_leaves_other [] all e = refl
    schedule_leaves_other (k ∷ ks) all e =
        schedule_leaves_other ks (All-tail (λ m. m < process_count design) k ks all)
        (numbered_run design k e)
        ∙ run_leaves_other k (All-head (λ m. m < process_count design) k ks all) e

    rounds_leave_other : (number rounds : ℕ) (e : Environment ℕ) →
        after_rounds design number rounds e s ≡ e s
    rounds_leave_other number zero e = refl
    rounds_leave_other number (suc k) e =
        let state = state_after design number k in
        schedule_leaves_other (round (process_count design) state).order
        (IsNumberedRound.numbers (drawn_is_round design state)) (after_rounds design number k e)
        ∙ rounds_leave_other number k e

    -- nor does the clock edge
    edge_leaves_other : (e : Environment ℕ) → (flat_system design).next e s ≡ e s
    edge_leaves_other e =
        last_untouched s (e s) (all_updates design (clocked_processes design) e)
        (all_touch (λ (q : ProcessForm). updates_of design.signals q.body e)
        (clocked_processes design) s (λ q q_at.
        let among = (Contains-from_filter (λ (r : ProcessForm). is_clocked r.kind)
        (processes_of design) q q_at).1 in
        run_touch design.signals q.body (e, []) s (none_found (assigns q.body s) (λ assigned.
        unseen (is_seen design is_sound admitted s
        (assigned_is_signal design.signals q.body
        (body_is_sound design is_sound admitted q among) s assigned)
        (assigns_no_clock design is_sound admitted q s among assigned)))) refl))

  -- ---- a cycle

  -- an input has the value that it is given, and what is none keeps its own
  input_value : (values : List ℕ) (e : Environment ℕ) (s : ℕ)
      → IsTrue ((flat_system design).is_input s)
      → with_values design values e s ≡ given (inputs design) values s
  input_value values e s input = ap (λ b. cond b (given (inputs design) values s) (e s)) input

  other_kept : (values : List ℕ) (e : Environment ℕ) (s : ℕ)
      → (IsTrue ((flat_system design).is_input s) → ⊥) → with_values design values e s ≡ e s
  other_kept values e s none =
      ap (λ b. cond b (given (inputs design) values s) (e s))
      (none_found ((flat_system design).is_input s) none)

  -- the settled environment of what the inputs are given is that of the registers before, and of
  -- the inputs
  pub drawn_settles : (values : List ℕ) (old new : Environment ℕ)
      → IsTheSettled (flat_system design) (with_values design values old)
      (with_values design values old) new
      → Settled (flat_system design) old (given (inputs design) values) new
  drawn_settles values old new is = record {
    registers = λ s register.
        is.settled.registers s register
        ∙ other_kept values old s (λ input.
        false≢true (sym (input_no_register design is_sound admitted s input) ∙ register));
    inputs_are = λ s input. is.settled.inputs_are s input ∙ input_value values old s input;
    fits = is.settled.fits;
    still = is.settled.still;
  }

  -- the rounds keep the clocks
  pub rounds_keep_zeros : (values : List ℕ) (number count : ℕ) (old new : Environment ℕ)
      → new ≡ after_rounds design number count (with_values design values old)
      → OthersAreZero design old → OthersAreZero design new
  rounds_keep_zeros values number count old new is zeros s unseen =
      ap (λ (e : Environment ℕ). e s) is
      ∙ rounds_leave_other s unseen number count (with_values design values old)
      ∙ other_kept values old s (λ input.
      unseen (input_seen design s (input_listed design s input)))
      ∙ zeros s unseen

  -- so does the clock edge
  pub edge_keeps_zeros : (old new : Environment ℕ) → new ≡ (flat_system design).next old →
      OthersAreZero design old → OthersAreZero design new
  edge_keeps_zeros old new is zeros s unseen =
      ap (λ (e : Environment ℕ). e s) is ∙ edge_leaves_other s unseen old ∙ zeros s unseen

-- ---- environments that are run process by process

-- an environment that is run on stays that of its design
pub moved : (run : Drawn) (event : EventState) (rounds : ℕ) → IsDrawn run
    → event.design ≡ run.event.design
    → OthersAreZero (design_of run.event.design) (by_number event.values)
    → IsDrawn (record run { event = event; rounds = rounds })
moved run event rounds is same zeros =
    let range = λ (flat : Flat). range_with_len 0 (clocked_count (design_of flat)) in
    record {
      admitted = subst (λ (flat : Flat). IsDesign (design_of flat)) (sym same) is.admitted;
      orders = record {
        up = is.orders.up ∙ ap range (sym same);
        down = is.orders.down ∙ ap (λ (flat : Flat). reverse (range flat)) (sym same);
      };
      others = subst (λ (flat : Flat). OthersAreZero (design_of flat) (by_number event.values))
          (sym same) zeros;
    }

-- what holds once the inputs are set holds of the environment with their values
pub after_inputs : (old new : EventState) (values : List ℕ)
    → length values ≡ length (inputs (design_of old.design))
    → new.design ≡ old.design
    → by_number new.values ≡
    with_given (inputs (design_of old.design)) values (by_number old.values)
    → (P : Flat → Environment ℕ → Type 0) → P new.design (by_number new.values)
    → P old.design (with_values (design_of old.design) values (by_number old.values))
after_inputs old new values count same put P holds =
    subst (P old.design)
    (put ∙ inputs_given (design_of old.design) values (by_number old.values) count)
    (subst (λ (flat : Flat). P flat (by_number new.values)) same holds)

-- ---- ticks

module _ (design : FlatDesign) (cycle : ℕ) where
  abbrev ascending : List ℕ
  ascending = range_with_len 0 (clocked_count design)

  abbrev chosen : Bool → List ℕ
  chosen even = cond even ascending (reverse ascending)

  pub even_order : cycle % 2 ≡ 0 → tick_order design cycle ≡ ascending
  even_order even = ap chosen (eq-eqb (cycle % 2) 0 even)

  pub odd_order : (cycle % 2 ≡ 0 → ⊥) → tick_order design cycle ≡ reverse ascending
  odd_order odd = ap chosen (none_found (cycle % 2 == 0) (λ even.
      odd (eqb-true (cycle % 2) 0 even)))

-- ---- zeros

pub all_zero : (n s : ℕ) → slice_index (replicate n 0) s ≡ 0
all_zero zero s = refl
all_zero (suc n) zero = refl
all_zero (suc n) (suc s) = all_zero n s
