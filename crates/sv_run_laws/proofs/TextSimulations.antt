-- What is written of a flat design for a stimulus is what is written of its text.
use Rattle.std.proofs.Common.{◌≡◌, ℕ, List, ◌++◌, map, Option, Some, None, refl, sym, ap, subst}
use Rattle.std.proofs.Common.{◌∙◌}
use Rattle.std.specs.Prelude.{Contains}
use Rattle.sv_system.specs.Joining.{Joined}
use Rattle.sv_system.proofs.JoinedCycles.{renamed}
use Rattle.sv_lattice.specs.declared.points.Point.{Point}
use Rattle.sv_ast.specs.TextSystem.{text_system}
use Rattle.sv_ast.specs.Tree.{TextTree}
use Rattle.sv_flat.specs.Admission.{IsAdmitted}
use Rattle.sv_flat.specs.Design.{FlatDesign}
use Rattle.sv_flat.specs.FlatSystem.{flat_system}
use Rattle.sv_elab_rules.specs.Texts.{flat_of}
use Rattle.sv_design.specs.Designs.{IsDesign}
use Rattle.sv_elab_laws.specs.FlattenedTexts.{CanBeFlattened}
use Rattle.sv_trace.specs.Forms.{form_of, name_in}
use Rattle.sv_trace.specs.Stimulus.{LinesRead, read_front, start_of, cycles_of}
use Rattle.sv_sim_run.specs.declared.endings.Ending.{Ending}
use Rattle.sv_sim_run.specs.Simulated.{level_asked, IsSimulatedAt, IsSimulated, WritesFrontFor}
use Rattle.sv_sim_run.specs.Simulated.{WritesAllCycles, HasOneText, AreRounds}
use Rattle.sv_sim_run.specs.Traces.{IsTraceFrom}
use Rattle.sv_sim_run.proofs.DesignForms.{form_is}
use Rattle.sv_run_laws.specs.Signals.{dotted}
use Rattle.sv_run_laws.specs.SimulatedTexts.{level_asked_of, IsTextSimulatedAt, IsTextSimulated}
use Rattle.sv_run_laws.specs.SimulatedTexts.{WritesTextFront, text_form, WritesTextCycles}
use Rattle.sv_run_laws.specs.SimulatedTexts.{IsWrittenAlike, HasOneWrittenText}
use Rattle.sv_run_laws.proofs.CheckedDesigns.{admitted_checked}
use Rattle.sv_run_laws.proofs.SameSimulations.{forms_same, trace_from_over, trace_from_back}
use Rattle.sv_run_laws.proofs.SameSimulations.{lines_over, lines_back}
use Rattle.sv_run_laws.proofs.SameSimulations.{simulated_over, simulated_back}
use Rattle.sv_run_laws.proofs.TextNames as names

module _ (text : TextTree) (asked : Option (List ℕ)) (design : FlatDesign)
    (can : CanBeFlattened text) (flat : flat_of text asked ≡ Some design)
    (admitted : IsAdmitted design) where
  abbrev joined : Joined (flat_system design) (text_system text asked)
  joined = names.joined text asked design can flat admitted

  same_names : (s : ℕ) → Contains (flat_system design).signals s →
      name_in design.signals s ≡ dotted (joined.to s)
  same_names = names.same_names text asked design can flat admitted

  abbrev AskedAlike : Option (Option Point) → Option (Option (List ℕ)) → Type 0
  AskedAlike = names.AskedAlike text asked design can flat admitted

  asked_alike : (level : Option (List ℕ)) →
      AskedAlike (level_asked design level) (level_asked_of text level)
  asked_alike = names.asked_alike text asked design can flat admitted

  -- ---- the whole text

  module _ (order : Option ℕ) (bytes : List ℕ) (ends : Ending) (printed : List ℕ) where
    at_both : (level : Option (Option Point)) (other : Option (Option (List ℕ)))
        → AskedAlike level other
        → (IsSimulatedAt design level order bytes ends printed
        → IsTextSimulatedAt text asked design other order bytes ends printed)
        × (IsTextSimulatedAt text asked design other order bytes ends printed
        → IsSimulatedAt design level order bytes ends printed)
    at_both None None alike = (λ is. is, λ is. is)
    at_both (Some level) (Some other) alike = (
      λ is. let new = simulated_over (flat_system design) (text_system text asked) joined
          (name_in design.signals) dotted same_names level other alike is.0 bytes ends printed is.1
          in (
            is.0,
            new.0,
            subst (λ (read : LinesRead). AreRounds design order read is.0) (sym new.1)
                is.2,
          ),
      λ is. let new = simulated_back (flat_system design) (text_system text asked) joined
          (name_in design.signals) dotted same_names level other alike is.0 bytes ends printed is.1
          in (
            is.0,
            new.0,
            subst (λ (read : LinesRead). AreRounds design order read is.0) (sym new.1)
                is.2,
          ),
    )
    at_both None (Some other) alike = absurd alike
    at_both (Some level) None alike = absurd alike

  module _ (level : Option (List ℕ)) (order : Option ℕ) (bytes : List ℕ) where
    whole_over : (ends : Ending) (printed : List ℕ)
        → IsSimulated design level order bytes ends printed
        → IsTextSimulated text asked design level order bytes ends printed
    whole_over ends printed =
        (at_both order bytes ends printed (level_asked design level) (level_asked_of text level)
        (asked_alike level)).0

    whole_back : (ends : Ending) (printed : List ℕ)
        → IsTextSimulated text asked design level order bytes ends printed
        → IsSimulated design level order bytes ends printed
    whole_back ends printed =
        (at_both order bytes ends printed (level_asked design level) (level_asked_of text level)
        (asked_alike level)).1

    front_over : (old new : List ℕ) → WritesFrontFor design level order bytes old new
        → WritesTextFront text asked design level order bytes old new
    front_over old new is = record {
      ends = is.ends;
      printed = is.printed;
      is = whole_over is.ends is.printed is.is;
      front = is.front;
    }

    front_back : (old new : List ℕ) → WritesTextFront text asked design level order bytes old new
        → WritesFrontFor design level order bytes old new
    front_back old new is = record {
      ends = is.ends;
      printed = is.printed;
      is = whole_back is.ends is.printed is.is;
      front = is.front;
    }

  -- ---- the lines of cycles

  same_form : form_of design ≡ text_form text asked
  same_form =
      sym (form_is design (admitted_checked text asked design can flat admitted).is_sound admitted)
      ∙ sym (forms_same (flat_system design) (text_system text asked) joined
      (name_in design.signals) dotted same_names)

  module _ (level : Option (List ℕ)) (bytes old new : List ℕ) where
    cycles_over : WritesAllCycles design level bytes old new
        → WritesTextCycles text asked level bytes old new
    cycles_over is =
        by_level (level_asked_of text level) refl
        (subst (λ o. AskedAlike o (level_asked_of text level)) is.asked (asked_alike level))
      where
        by_level : (o : Option (Option (List ℕ))) → level_asked_of text level ≡ o
            → AskedAlike (Some is.shown) o → WritesTextCycles text asked level bytes old new
        by_level None e alike = absurd alike
        by_level (Some other) e alike =
            let right = is.read.right in
            let traces = is.traces in
            record {
              shown = other;
              is_shown = e;
              read = is.read;
              is_read = is.is_read ∙ ap (λ form. read_front form bytes) same_form;
              right = is.right;
              few = is.few;
              trace = map (renamed joined.from) is.trace;
              traces =
                  subst (λ form. IsTraceFrom (text_system text asked) (start_of form right)
                  (cycles_of right) (map (renamed joined.from) is.trace)) same_form
                  (trace_from_over (flat_system design) (text_system text asked) joined
                  (name_in design.signals) dotted same_names (start_of (form_of design) right)
                  (cycles_of right) is.trace traces);
              accepted =
                  is.accepted
                  ∙ ap (λ t. old ++ t)
                  (sym (lines_over (flat_system design) (text_system text asked) joined
                  (name_in design.signals) dotted same_names is.shown other alike traces.inputs
                  is.trace traces.state traces.follows 0));
            }

    cycles_back : WritesTextCycles text asked level bytes old new
        → WritesAllCycles design level bytes old new
    cycles_back is =
        by_level (level_asked design level) refl
        (subst (AskedAlike (level_asked design level)) is.is_shown (asked_alike level))
      where
        by_level : (o : Option (Option Point)) → level_asked design level ≡ o
            → AskedAlike o (Some is.shown) → WritesAllCycles design level bytes old new
        by_level None e alike = absurd alike
        by_level (Some other) e alike =
            let right = is.read.right in
            let traces = is.traces in
            record {
              shown = other;
              asked = e;
              read = is.read;
              is_read = is.is_read ∙ ap (λ form. read_front form bytes) (sym same_form);
              right = is.right;
              few = is.few;
              trace = map (renamed joined.to) is.trace;
              traces =
                  subst (λ form. IsTraceFrom (flat_system design) (start_of form right)
                  (cycles_of right) (map (renamed joined.to) is.trace)) (sym same_form)
                  (trace_from_back (flat_system design) (text_system text asked) joined
                  (name_in design.signals) dotted same_names (start_of (text_form text asked) right)
                  (cycles_of right) is.trace traces);
              accepted =
                  is.accepted
                  ∙ ap (λ t. old ++ t)
                  (sym (lines_back (flat_system design) (text_system text asked) joined
                  (name_in design.signals) dotted same_names other is.shown alike traces.inputs
                  is.trace traces.state traces.follows 0));
            }

  pub written_alike : IsWrittenAlike text asked design
  written_alike = record {
    whole = λ level order bytes ends printed. (
      whole_over level order bytes ends printed,
      whole_back level order bytes ends printed,
    );
    front = λ level order bytes old new. (
      front_over level order bytes old new,
      front_back level order bytes old new,
    );
    cycles = λ level bytes old new. (
      cycles_over level bytes old new,
      cycles_back level bytes old new,
    );
  }

  pub one_written_text : ((d : FlatDesign) → IsDesign d → HasOneText d)
      → HasOneWrittenText text asked design
  one_written_text law level order bytes =
      let is_design : IsDesign design =
      record {
        is_sound = (admitted_checked text asked design can flat admitted).is_sound;
        is_admitted = admitted;
      } in
      let found = law design is_design level order bytes in (
        found.0,
        found.1,
        whole_over level order bytes found.0 found.1 found.2,
        λ other others is. found.3 other others (whole_back level order bytes other others is),
      )
