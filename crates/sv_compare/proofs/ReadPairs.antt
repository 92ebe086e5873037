-- What is compared of a design is what its stimuli ask for.
use Rattle.std.proofs.Common.{◌≡◌, ℕ, List, Option, Some, None, refl, sym, subst}
use Rattle.std.proofs.Common.{option_map, ◌<◌, not}
use Rattle.std.specs.Prelude.{Contains, length}
use Rattle.std.proofs.lemmas.List.{length-map}
use Rattle.sv_system.specs.System.{Environment}
use Rattle.sv_lattice.specs.declared.points.Point.{Point}
use Rattle.sv_flat.specs.declared.designs.Flat.{Flat}
use Rattle.sv_flat.specs.Clocks.{is_clock}
use Rattle.sv_flat.specs.Design.{FlatDesign}
use Rattle.sv_flat.specs.FlatSystem.{flat_system}
use Rattle.sv_flat.specs.Views.{signal_form, design_of}
use Rattle.sv_flat.proofs.LeastSets.{those_below}
use Rattle.sv_design.specs.Designs.{IsDesign}
use Rattle.sv_trace.specs.declared.stim.Stim.{Stim}
use Rattle.sv_trace.specs.Forms.{StimForm, form_of, name_in}
use Rattle.sv_trace.specs.Reading.{IsStim}
use Rattle.sv_trace.specs.Stimulus.{LinesRead, read_whole, fault_of, start_of, cycles_of}
use Rattle.sv_sim_run.specs.Traces.{form_in, IsTraceFrom}
use Rattle.sv_sim_run.proofs.DesignForms.{form_is, from_given}
use Rattle.sv_tworun.specs.declared.compared.Compared.{Compared}
use Rattle.sv_tworun.specs.Comparisons.{IsComparison}
use Rattle.sv_tworun.specs.Forms.{run_of, FitsRun, IsTraceOf, Finding, finding}
use Rattle.sv_compare.specs.ComparedTexts.{IsDesignCompared}
use Rattle.sv_compare.proofs.ToldSignals.{Told, told_within, told_weaker}

none_kept : {X Y : Type 0} (f : X → Y) (o : Option X) → option_map f o ≡ None → o ≡ None
none_kept f None is = refl
none_kept f (Some x) is = let clash : ⊥ = cc in absurd clash

-- lines without a fault have no wrong one
pub right_of : (read : LinesRead) → fault_of read ≡ None → read.wrong ≡ None
right_of read is = none_kept _ read.wrong is

-- a stimulus was read of these bytes
abbrev pub IsReadOf : FlatDesign → (bytes : List ℕ) → Stim → Type 0
IsReadOf design bytes stim =
    IsStim (form_of design) (read_whole (form_of design) bytes) (run_of stim).start
    (run_of stim).cycles

module _ (design : FlatDesign) (is : IsDesign design) where
  -- the trace of its run is the trace that the bytes ask for
  asked_of : (bytes : List ℕ) (stim : Stim) (trace : List (Environment ℕ))
      → IsReadOf design bytes stim → FitsRun design (run_of stim)
      → IsTraceOf design (run_of stim) trace
      → IsTraceFrom (flat_system design)
      (start_of (form_in (name_in design.signals) (flat_system design))
      (read_whole (form_in (name_in design.signals) (flat_system design)) bytes).right)
      (cycles_of
      (read_whole (form_in (name_in design.signals) (flat_system design)) bytes).right) trace
  asked_of bytes stim trace read fits of_run =
      subst (λ (f : StimForm). IsTraceFrom (flat_system design)
      (start_of f (read_whole f bytes).right) (cycles_of (read_whole f bytes).right) trace)
      (sym (form_is design is.is_sound is.is_admitted))
      (subst (λ ss. IsTraceFrom (flat_system design) ss
      (cycles_of (read_whole (form_of design) bytes).right) trace) read.starts
      (subst (λ vs. IsTraceFrom (flat_system design) (run_of stim).start vs trace)
      read.cycles_are
      (from_given design is.is_sound is.is_admitted (run_of stim).start (run_of stim).cycles trace
      fits.start fits.cycles of_run)))

  pub compared_of : (level : Point) (first second : List ℕ) (one other : Stim) (found : Compared)
      → IsReadOf design first one → IsReadOf design second other
      → FitsRun design (run_of one) → FitsRun design (run_of other)
      → IsComparison design level (run_of one) (run_of other) found
      → IsDesignCompared design level first second (finding found)
  compared_of level first second one other found read_one read_other fits_one fits_other is_found =
      record {
        one = is_found.one;
        other = is_found.other;
        of_first = asked_of first one is_found.one read_one fits_one is_found.of_first;
        of_second = asked_of second other is_found.other read_other fits_other is_found.of_second;
        finds = is_found.finds;
      }

-- the signal that is told is one
pub told_signal : (flat : Flat) (level : Point) (first second : List ℕ) (found : Finding ℕ)
    → IsDesignCompared (design_of flat) level first second found
    → Told (λ s. (s < length flat.signals.items)
    × Contains (flat_system (design_of flat)).signals s) found
told_signal flat level first second found is =
    let design = design_of flat in
    told_weaker (Contains (flat_system design).signals)
    (λ s. (s < length flat.signals.items) × Contains (flat_system design).signals s)
    (λ s at. (
      subst (λ n. s < n) (length-map flat.signals.items signal_form)
          (those_below (length design.signals) (λ z. not (is_clock design z)) s at),
      at,
    ))
    found (told_within (flat_system design) level is.one is.other found is.finds)
