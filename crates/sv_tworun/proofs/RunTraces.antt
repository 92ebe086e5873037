-- Fitting runs of an admitted design have traces.
use Rattle.std.proofs.Common.{◌≡◌, ℕ, suc, ◌^◌, ◌<◌, Bool, List, [], ◌∷◌, length, map, ⊎_elim}
use Rattle.std.proofs.Common.{subst, arith}
use Rattle.std.specs.Prelude.{IsTrue, Contains, All, slice_index}
use Rattle.std.specs.List.{zip}
use Rattle.std.proofs.lemmas.List.Elements.{All-map, All-weaker}
use Rattle.std.proofs.lemmas.Nat.{pow_pos}
use Rattle.sv_system.specs.System.{Environment, KindFits}
use Rattle.sv_system.proofs.Lists.{Contains-nil, Contains-cases}
use Rattle.sv_system.proofs.Pointwise.{each}
use Rattle.sv_lattice.specs.declared.points.Point.{Point}
use Rattle.sv_flat.specs.Design.{SignalForm, FlatDesign}
use Rattle.sv_flat.specs.FlatSystem.{flat_system}
use Rattle.sv_flat.specs.SignalLists.{inputs, registers}
use Rattle.sv_flat.specs.Values.{signal_width}
use Rattle.sv_flat.proofs.RunsFit.{last_update_fits}
use Rattle.sv_design.specs.Designs.{IsDesign}
use Rattle.sv_flat.specs.Given.{FitListed, given}
use Rattle.sv_sim.proofs.OneDesign.{design_has_one_trace}
use Rattle.sv_tworun.specs.declared.compared.Compared.{Compared}
use Rattle.sv_tworun.specs.Comparisons.{IsFound, IsComparison}
use Rattle.sv_tworun.specs.Forms.{Run, FitsRun, IsTraceOf, finding}

module _ (signals : List SignalForm) where
  -- each value that is given fits its signal
  given_fit : (listed values : List ℕ) → length values ≡ length listed
      → ((k : ℕ) → k < length listed
      → slice_index values k < 2 ^ signal_width signals (slice_index listed k))
      → (u : ℕ × ℕ) → Contains (zip listed values) u → u.1 < 2 ^ signal_width signals u.0
  given_fit [] values count fit u at = absurd (Contains-nil u at)
  given_fit (t ∷ ts) [] count fit u at = absurd (omega (arith, count))
  given_fit (t ∷ ts) (v ∷ vs) count fit u at = ⊎_elim
      (λ is. subst (λ (w : ℕ × ℕ). w.1 < 2 ^ signal_width signals w.0) is (fit 0 (omega arith)))
      (λ later. given_fit ts vs (omega (arith, count)) (λ k inside. fit (suc k) (omega arith)) u
      later)
      (Contains-cases (t, v) (zip ts vs) u at)

  pub given_fits : (listed values : List ℕ) → FitListed signals listed values → (s : ℕ) →
      given listed values s < 2 ^ signal_width signals s
  given_fits listed values fit s =
      last_update_fits signals s 0 (zip listed values) (pow_pos (signal_width signals s))
      (given_fit listed values fit.count fit.each)

module _ (design : FlatDesign) where
  kind_fits : (kind : ℕ → Bool) (listed values : List ℕ) → FitListed design.signals listed values →
      KindFits kind (flat_system design) (given listed values)
  kind_fits kind listed values fit =
      each (λ s. IsTrue (kind s) → given listed values s < 2 ^ signal_width design.signals s)
      (flat_system design).signals (λ s at of_kind. given_fits design.signals listed values fit s)

  all_fit : (cycles : List (List ℕ)) → All (FitListed design.signals (inputs design)) cycles →
      All (KindFits (flat_system design).is_input (flat_system design))
      (map (given (inputs design)) cycles)
  all_fit cycles fit =
      All-map (KindFits (flat_system design).is_input (flat_system design)) (given (inputs design))
      cycles
      (All-weaker (FitListed design.signals (inputs design))
      (λ values. KindFits (flat_system design).is_input (flat_system design)
      (given (inputs design) values))
      (kind_fits (flat_system design).is_input (inputs design)) cycles fit)

  trace_of : IsDesign design → (run : Run) → FitsRun design run →
      (trace : List (Environment ℕ)) × IsTraceOf design run trace
  trace_of is run fit =
      let has = design_has_one_trace design is.is_sound is.is_admitted
      (given (registers design) run.start) (map (given (inputs design)) run.cycles)
      (kind_fits (flat_system design).is_register (registers design) run.start fit.start)
      (all_fit run.cycles fit.cycles) in
      (has.0, has.1)

  -- what is found of any traces of both runs
  abbrev pub IsFoundOfAll : (level : Point) → (first second : Run) → Compared → Type 0
  IsFoundOfAll level first second found =
      (one other : List (Environment ℕ)) → IsTraceOf design first one →
      IsTraceOf design second other → IsFound (flat_system design) level one other (finding found)

  pub compared : IsDesign design → (level : Point) (first second : Run) (found : Compared)
      → FitsRun design first → FitsRun design second → IsFoundOfAll level first second found
      → IsComparison design level first second found
  compared is level first second found first_fits second_fits finds =
      let one = trace_of is first first_fits in
      let other = trace_of is second second_fits in
      record {
        one = one.0;
        other = other.0;
        of_first = one.1;
        of_second = other.1;
        finds = finds one.0 other.0 one.1 other.1;
      }
