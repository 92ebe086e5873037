-- In a settled environment exactly one path of a target is taken, and it gives the target's value.
use Rattle.std.proofs.Common.{◌≡◌, ℕ, ◌^◌, ◌<◌, not, List, [], ⊎_elim, ap}
use Rattle.std.specs.Prelude.{Contains, IsTrue, IsFalse}
use Rattle.sv_system.specs.System.{Environment, Fits, IsStill}
use Rattle.sv_system.proofs.Lists.{Contains-filter}
use Rattle.sv_flat.specs.Design.{SignalForm, ProcessForm, FlatDesign}
use Rattle.sv_flat.specs.Values.{signal_width, value}
use Rattle.sv_flat.specs.Assigned.{assigns}
use Rattle.sv_flat.specs.Processes.{is_clocked}
use Rattle.sv_flat.specs.Clocks.{processes_of}
use Rattle.sv_flat.specs.FlatSystem.{flat_system, combinational_processes}
use Rattle.sv_flat.proofs.LeastSets.{either_way}
use Rattle.sv_flat.proofs.Depths.{from_all}
use Rattle.sv_flat.proofs.AdmittedFacts.{assigns_no_clock}
use Rattle.sv_obl.specs.Paths.{StepForm, Path, paths}
use Rattle.sv_obl.specs.PathValues.{is_true_in, Holds, IsTaken}
use Rattle.sv_obl.specs.Noninterference.{IsChecked}
use Rattle.sv_flat.proofs.Members.{all_contained, contained_all}
use Rattle.sv_obl.proofs.PathLists.{same_truth, truth_same, all_from}
use Rattle.sv_obl.proofs.PathRuns.{step_holds, steps_hold}
use Rattle.sv_obl.proofs.TargetReads.{inside, in_system}
use Rattle.sv_obl.proofs.TargetValues.{path_gives_value, some_value_path, one_value_path}
use Rattle.sv_obl.proofs.TargetValues.{path_gives_next, some_next_path, one_next_path}
use Rattle.sv_obl.proofs.GuardedDesigns.{one_driver}

module _ (signals : List SignalForm) (e : Environment ℕ) where
  to_holds : (steps : List StepForm) → IsTrue (steps_hold signals e steps) → Holds signals e steps
  to_holds steps h =
      contained_all (λ (step : StepForm). is_true_in signals e step.condition ≡ step.truth) steps
      (λ step at.
      same_truth (is_true_in signals e step.condition) step.truth
      (from_all (step_holds signals e) steps step h at))

  of_holds : (steps : List StepForm) → Holds signals e steps → IsTrue (steps_hold signals e steps)
  of_holds steps h = all_from (step_holds signals e) steps (λ step at.
      truth_same (is_true_in signals e step.condition) step.truth
      (all_contained (λ (x : StepForm).
      is_true_in signals e x.condition ≡ x.truth) steps h step at))

module _ (design : FlatDesign) (checked : IsChecked design) (p : ProcessForm) (s : ℕ)
    (at : Contains (processes_of design) p)
    (assigned : IsTrue (assigns p.body s)) (e : Environment ℕ)
    (fits : Fits (flat_system design) e) where
  among : IsFalse (is_clocked p.kind) → Contains (combinational_processes design) p
  among unclocked =
      Contains-filter (λ (x : ProcessForm).
      not (is_clocked x.kind)) (processes_of design) p at (ap not unclocked)

  abbrev AnyPath : Path → Type 0
  AnyPath q = Contains (paths design.signals s p.kind p.body) q

  taken_from : (found : (q : Path) × AnyPath q × IsTrue (steps_hold design.signals e q.steps))
      → ((q r : Path) → AnyPath q → IsTrue (steps_hold design.signals e q.steps) → AnyPath r
      → IsTrue (steps_hold design.signals e r.steps) → q ≡ r)
      → (q : Path) × IsTaken design.signals e s p.kind p.body q
  taken_from found one = (
    found.0,
    record {
      among = found.1;
      holds = to_holds design.signals e (found.0).steps found.2;
      alone =
          λ other other_at holds.
          one other found.0 other_at (of_holds design.signals e other.steps holds) found.1 found.2;
    },
  )

  -- exactly one path is taken
  pub one_is_taken : IsStill (flat_system design) e →
      (q : Path) × IsTaken design.signals e s p.kind p.body q
  one_is_taken still = ⊎_elim
      (λ clock. taken_from
      (some_next_path design checked.is_sound checked.admitted p s at clock assigned e)
      (one_next_path design checked.is_sound checked.admitted p s at clock assigned e))
      (λ unclocked. taken_from
      (some_value_path design checked.is_sound checked.admitted p (among unclocked) e fits still
      s assigned)
      (one_value_path design checked.is_sound checked.admitted p (among unclocked) e fits still s
      assigned))
      (either_way (is_clocked p.kind))

  module _ (q : Path) (taken : IsTaken design.signals e s p.kind p.body q) where
    pub gives_value : IsFalse (is_clocked p.kind) → IsStill (flat_system design) e →
        e s ≡ value design.signals e q.result
    gives_value unclocked still =
        path_gives_value design checked.is_sound checked.admitted p (among unclocked) e fits still s
        assigned
        q taken.among (of_holds design.signals e q.steps taken.holds)

    pub gives_next : IsTrue (is_clocked p.kind) →
        (flat_system design).next e s ≡ value design.signals e q.result
    gives_next clock =
        path_gives_next design checked.is_sound checked.admitted p s at clock assigned e
        (one_driver [] design checked p s at assigned)
        (all_contained (λ z.
        e z < 2 ^ signal_width design.signals z) (flat_system design).signals fits s
        (in_system design checked.is_sound checked.admitted p s at assigned s
        (inside design checked.is_sound checked.admitted p s at assigned)
        (assigns_no_clock design checked.is_sound checked.admitted p s at assigned)))
        q taken.among (of_holds design.signals e q.steps taken.holds)
