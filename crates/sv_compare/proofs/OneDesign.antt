-- Of an admitted design the comparison of two stimuli at a point finds exactly one thing.
use Rattle.std.proofs.Common.{◌≡◌, ℕ, List, [], ◌∷◌, refl, sym, ap, subst, length}
use Rattle.std.proofs.Common.{lt-ltb, not}
use Rattle.std.specs.Prelude.{Contains}
use Rattle.std.specs.List.{AllZip}
use Rattle.std.proofs.lemmas.List.{map-id}
use Rattle.std.proofs.lemmas.List.Elements.{All-contains}
use Rattle.sv_lattice.specs.declared.points.Point.{Point}
use Rattle.sv_system.specs.System.{System, Environment, SameSignals, SameTraces}
use Rattle.sv_flat.specs.Clocks.{is_clock}
use Rattle.sv_flat.specs.Design.{FlatDesign}
use Rattle.sv_flat.specs.FlatSystem.{flat_system}
use Rattle.sv_flat.specs.Values.{signal_of}
use Rattle.sv_flat.proofs.LeastSets.{those_below}
use Rattle.sv_flat.proofs.SelectorFacts.{label_selected, selector_is_seen}
use Rattle.sv_design.specs.Designs.{IsDesign}
use Rattle.sv_sim.proofs.OneDesign.{design_has_one_trace}
use Rattle.sv_trace.specs.Forms.{StimForm, form_of, name_in}
use Rattle.sv_trace.specs.Stimulus.{read_whole, start_of, cycles_of}
use Rattle.sv_sim_run.specs.Traces.{form_in, IsTraceFrom}
use Rattle.sv_sim_run.proofs.DesignForms.{form_is, form_is_plain, from_given, start_fit}
use Rattle.sv_sim_run.proofs.DesignForms.{cycles_fit, inputs_listed, registers_listed}
use Rattle.sv_sim_run.proofs.OneText.{traced}
use Rattle.sv_sim_run.proofs.ReadFits.{whole_fits}
use Rattle.sv_sim_run.proofs.SameTraces.{same_from}
use Rattle.sv_tworun.specs.Comparisons.{IsFound}
use Rattle.sv_tworun.specs.Forms.{Finding}
use Rattle.sv_tworun.proofs.OneFinding.{one_finding}
use Rattle.sv_compare.specs.ComparedTexts.{IsDesignCompared}
use Rattle.sv_compare.proofs.HasFindings.{has_finding}
use Rattle.sv_compare.proofs.SameFindings.{SameNames, SayAlike, found_over}
use Rattle.sv_compare.proofs.ToldSignals.{told_itself}

module _ (design : FlatDesign) (is : IsDesign design) (level : Point) where
  abbrev system : System ℕ Point
  system = flat_system design

  -- ---- traces that agree

  itself : SameNames system system (λ s. s)
  itself = record {
    from = λ s. s;
    from_to = λ s at. refl;
    signals = sym (map-id system.signals);
    inputs = λ s at. refl;
    registers = λ s at. refl;
  }

  abbrev Alike : Environment ℕ → Environment ℕ → Type 0
  Alike e f = SayAlike system system (λ s. s) level level e f

  alike : (e f : Environment ℕ) → SameSignals system e f → Alike e f
  alike e f same =
      let at_signal = λ (s : ℕ) (at : Contains system.signals s).
      All-contains (λ t. e t ≡ f t) system.signals s same at in
      record {
        values = at_signal;
        sees = λ s at. ap (λ l. system.flows l level)
            (label_selected design.maps (signal_of design.signals s).label e f (λ t selects.
            at_signal t (selector_is_seen design is.is_sound is.is_admitted s
            (lt-ltb s (length design.signals)
            (those_below (length design.signals) (λ z. not (is_clock design z)) s at)) t
            selects)));
      }

  all_alike : (es fs : List (Environment ℕ)) → SameTraces system es fs → AllZip Alike es fs
  all_alike [] [] same = tt
  all_alike (e ∷ es) (f ∷ fs) same = (alike e f same.0, all_alike es fs same.1)
  all_alike [] (f ∷ fs) same = absurd same
  all_alike (e ∷ es) [] same = absurd same

  same_traces : (start : List ℕ) (cycles : List (List ℕ)) (es fs : List (Environment ℕ))
      → IsTraceFrom system start cycles es → IsTraceFrom system start cycles fs
      → AllZip Alike es fs
  same_traces start cycles es fs one other =
      all_alike es fs
      (same_from system (inputs_listed design is.is_sound is.is_admitted)
      (registers_listed design is.is_sound is.is_admitted)
      (design_has_one_trace design is.is_sound is.is_admitted) start cycles es fs one other)

  -- ---- one finding

  module _ (first second : List ℕ) where
    pub one_compared : (found others : Finding ℕ)
        → IsDesignCompared design level first second found
        → IsDesignCompared design level first second others → others ≡ found
    one_compared found others one other =
        one_finding system level one.one one.other others found
        (subst (IsFound system level one.one one.other) (told_itself others)
        (found_over system system (λ s. s) itself level level other.one other.other one.one
        one.other
        (same_traces _ _ other.one one.one other.of_first one.of_first)
        (same_traces _ _ other.other one.other other.of_second one.of_second)
        others other.finds))
        one.finds

    abbrev Asked : StimForm → (bytes : List ℕ) → List (Environment ℕ) → Type 0
    Asked form bytes trace =
        IsTraceFrom system (start_of form (read_whole form bytes).right)
        (cycles_of (read_whole form bytes).right) trace

    has_trace : (bytes : List ℕ) → (trace : List (Environment ℕ))
        × Asked (form_in (name_in design.signals) system) bytes trace
    has_trace bytes =
        let form = form_of design in
        let right = (read_whole form bytes).right in
        let fit = whole_fits form (form_is_plain design) bytes in
        let run = traced design is.is_sound is.is_admitted right fit in (
          run.trace,
          subst (λ f. Asked f bytes run.trace) (sym (form_is design is.is_sound is.is_admitted))
              (from_given design is.is_sound is.is_admitted (start_of form right)
              (cycles_of right) run.trace (start_fit design is.is_sound is.is_admitted right fit)
              (cycles_fit design is.is_sound is.is_admitted right fit) run.is),
        )

    pub has_compared : (found : Finding ℕ) × IsDesignCompared design level first second found
    has_compared =
        let one = has_trace first in
        let other = has_trace second in
        let found = has_finding design is level one.0 other.0 in (
          found.0,
          record {
            one = one.0;
            other = other.0;
            of_first = one.1;
            of_second = other.1;
            finds = found.1;
          },
        )
