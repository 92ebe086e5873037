-- Each stimulus of an admitted design has one text and one ending.
use Rattle.std.proofs.Common.{◌≡◌, ℕ, Bool, true, false, cond, List, ◌++◌}
use Rattle.std.proofs.Common.{map, flat_map, take, codes, decimal, refl, sym, ap, ◌∙◌}
use Rattle.std.proofs.Common.{subst, Option, Some, None}
use Rattle.std.specs.Prelude.{Contains, IsTrue}
use Rattle.std.proofs.lemmas.List.Elements.{All-contains}
use Rattle.sv_lattice.specs.declared.points.Point.{Point}
use Rattle.sv_system.specs.System.{System, Environment, IsTrace, SameSignals, SameTraces}
use Rattle.sv_system.specs.System.{HasOneTrace}
use Rattle.sv_flat.specs.Admission.{IsAdmitted}
use Rattle.sv_flat.specs.Design.{FlatDesign}
use Rattle.sv_flat.specs.FlatSystem.{flat_system}
use Rattle.sv_flat.specs.SignalLists.{system_signals, inputs, registers}
use Rattle.sv_flat.specs.Soundness.{sound}
use Rattle.sv_design.specs.Designs.{IsDesign}
use Rattle.sv_flat.specs.Given.{given}
use Rattle.sv_sim.proofs.OneDesign.{design_has_one_trace}
use Rattle.sv_trace.specs.Forms.{StimForm, form_of, name_in}
use Rattle.sv_trace.specs.Stimulus.{LinesRead, read_front, read_whole, start_of, cycles_of}
use Rattle.sv_trace.specs.Traces.{pair_text, shown as shown_of}
use Rattle.sv_trace.proofs.Shown.{shown_text, texts_agree}
use Rattle.sv_sim_run.specs.declared.endings.Ending.{Ending}
use Rattle.sv_sim_run.specs.declared.endings.Ending.TheVariants as ending
use Rattle.sv_sim_run.specs.Runs.{lines_of}
use Rattle.sv_sim_run.specs.Simulated.{largest_stimulus, is_within, read_of, ending_of, last_line}
use Rattle.sv_sim_run.specs.Simulated.{IsTraceText, AreRounds, IsSimulatedAt}
use Rattle.sv_sim_run.specs.Simulated.{level_asked, HasOneText}
use Rattle.sv_sim_run.specs.Traces.{form_in, IsTraceFrom, line_in, pair_in, shown_in}
use Rattle.sv_sim_run.proofs.DesignForms.{form_is_plain, form_is, inputs_listed, registers_listed}
use Rattle.sv_sim_run.proofs.DesignForms.{from_given, start_fits_kind, cycles_fit_kind, start_fit}
use Rattle.sv_sim_run.proofs.DesignForms.{cycles_fit}
use Rattle.sv_sim_run.proofs.OrderedRuns.{one_ordered_run, has_ordered_run}
use Rattle.sv_sim_run.proofs.ReadFits.{FitForm, front_fits, whole_fits}
use Rattle.sv_sim_run.proofs.SameTraces.{same_from, same_lines}

module _ (design : FlatDesign) (is_sound : IsTrue (sound design))
    (admitted : IsAdmitted design) where
  abbrev system : System ℕ Point
  system = flat_system design

  abbrev form : StimForm
  form = form_of design

  -- ---- lines

  pub line_same : (level : Option Point) (cycle : ℕ) (e f : Environment ℕ)
      → SameSignals system e f
      → line_in (name_in design.signals) system level cycle e
      ≡ line_in (name_in design.signals) system level cycle f
  line_same level cycle e f same =
      ap (λ text. decimal cycle ++ text ++ codes "\n") (pairs level)
    where
      at : (t : ℕ) → Contains (system_signals design) t → e t ≡ f t
      at t within = All-contains (λ s. e s ≡ f s) system.signals t same within

      texts : (shown : Option Point)
          → flat_map (pair_text design) (shown_of design shown e)
          ≡ flat_map (pair_text design) (shown_of design shown f)
      texts shown = shown_text design shown e
          ∙ texts_agree design is_sound admitted shown e f at
          ∙ sym (shown_text design shown f)

      pairs : (shown : Option Point)
          → flat_map (pair_in (name_in design.signals)) (shown_in system shown e)
          ≡ flat_map (pair_in (name_in design.signals)) (shown_in system shown f)
      pairs None = texts None
      pairs (Some point) = texts (Some point)

  pub one : HasOneTrace system
  one = design_has_one_trace design is_sound admitted

  pub lines_same : (level : Option Point) (first second : List (Environment ℕ))
      → SameTraces system first second
      → lines_of design level first ≡ lines_of design level second
  lines_same level first second same =
      same_lines system (name_in design.signals) level (line_same level) 0 first second same

  -- ---- what is read

  pub fits_read : (bytes : List ℕ) → FitForm form (read_of form bytes).right
  fits_read bytes = by_limit (is_within bytes)
    where
      by_limit : (b : Bool) → FitForm form
          (cond b (read_whole form bytes) (read_front form (take largest_stimulus bytes))).right
      by_limit true = whole_fits form (form_is_plain design) bytes
      by_limit false = front_fits form (form_is_plain design) (take largest_stimulus bytes)

  abbrev starts_at : List (List ℕ) → Environment ℕ
  starts_at right = given (registers design) (start_of form right)

  abbrev takes : List (List ℕ) → List (Environment ℕ)
  takes cycles = map (given (inputs design)) cycles

  pub record Traced (right : List (List ℕ)) : Type 0 where
    pub trace : List (Environment ℕ)
    pub is : IsTrace system (starts_at right) (takes (cycles_of right)) trace

  pub traced : (right : List (List ℕ)) → FitForm form right → Traced right
  traced right fit =
      let found = one (starts_at right) (takes (cycles_of right))
      (start_fits_kind design is_sound admitted (start_of form right)
      (start_fit design is_sound admitted right fit))
      (cycles_fit_kind design is_sound admitted (cycles_of right)
      (cycles_fit design is_sound admitted right fit)) in
      record { trace = found.0; is = found.1 }

  -- ---- texts

  simulation : (level : Option Point) (rounds : Option ℕ) (bytes : List ℕ)
      (trace : List (Environment ℕ))
      → IsTrace system (starts_at (read_of form bytes).right)
      (takes (cycles_of (read_of form bytes).right)) trace
      → IsTraceText (name_in design.signals) system level rounds bytes
      (ending_of (is_within bytes) (read_of form bytes))
      (lines_of design level trace
      ++ last_line (ending_of (is_within bytes) (read_of form bytes)) rounds)
  simulation level rounds bytes trace is =
      let read : LinesRead = read_of form bytes in
      let same = form_is design is_sound admitted in
      let fit = fits_read bytes in
      record {
        read = read;
        is_read = ap (λ f. read_of f bytes) (sym same);
        trace = trace;
        traces = subst (λ f.
            IsTraceFrom system (start_of f read.right) (cycles_of read.right) trace) (sym same)
            (from_given design is_sound admitted (start_of form read.right) (cycles_of read.right)
            trace (start_fit design is_sound admitted read.right fit)
            (cycles_fit design is_sound admitted read.right fit) is);
        ended = refl;
        prints = refl;
      }

  one_simulation : (level : Option Point) (rounds : Option ℕ) (bytes : List ℕ)
      (ends other : Ending) (printed others : List ℕ)
      → IsTraceText (name_in design.signals) system level rounds bytes ends printed
      → IsTraceText (name_in design.signals) system level rounds bytes other others
      → (other ≡ ends) × (others ≡ printed)
  one_simulation level rounds bytes ends other printed others a b =
      let f : StimForm = form_in (name_in design.signals) system in
      let reads : b.read ≡ a.read = b.is_read ∙ sym a.is_read in
      let same_ends : other ≡ ends =
      b.ended ∙ ap (ending_of (is_within bytes)) reads ∙ sym a.ended in
      let traces = subst (λ (r : LinesRead).
      IsTraceFrom system (start_of f r.right) (cycles_of r.right) b.trace) reads b.traces in
      let same = same_from system (inputs_listed design is_sound admitted)
      (registers_listed design is_sound admitted) one (start_of f a.read.right)
      (cycles_of a.read.right) b.trace a.trace traces a.traces in (
        same_ends,
        b.prints
            ∙ ap (λ text. text ++ last_line other rounds)
            (lines_same level b.trace a.trace same)
            ∙ ap (λ e. lines_of design level a.trace ++ last_line e rounds) same_ends
            ∙ sym a.prints,
      )

  pub has_rounds : (order : Option ℕ) (bytes : List ℕ)
      → (rounds : Option ℕ) × AreRounds design order (read_of form bytes) rounds
  has_rounds None bytes = (None, refl)
  has_rounds (Some number) bytes =
      let right : List (List ℕ) = (read_of form bytes).right in
      let fit = fits_read bytes in
      let run = has_ordered_run design is_sound admitted number (start_of form right)
      (cycles_of right) (start_fit design is_sound admitted right fit)
      (cycles_fit design is_sound admitted right fit) in
      (Some run.0, (run.0, refl, run.1))

  one_rounds : (order : Option ℕ) (read : LinesRead) (rounds others : Option ℕ)
      → AreRounds design order read rounds → AreRounds design order read others
      → others ≡ rounds
  one_rounds None read rounds others a b = b ∙ sym a
  one_rounds (Some number) read rounds others a b =
      b.1
      ∙ ap Some (one_ordered_run design number (start_of form read.right) (cycles_of read.right)
      b.0 a.0 b.2 a.2)
      ∙ sym a.1

  -- a simulation with the rounds of its order
  pub simulated : (level : Option Point) (order rounds : Option ℕ) (bytes : List ℕ)
      (trace : List (Environment ℕ))
      → IsTrace system (starts_at (read_of form bytes).right)
      (takes (cycles_of (read_of form bytes).right)) trace
      → AreRounds design order (read_of form bytes) rounds
      → IsSimulatedAt design (Some level) order bytes
      (ending_of (is_within bytes) (read_of form bytes))
      (lines_of design level trace
      ++ last_line (ending_of (is_within bytes) (read_of form bytes)) rounds)
  simulated level order rounds bytes trace is counted =
      let whole = simulation level rounds bytes trace is in
      let same = form_is design is_sound admitted in (
        rounds,
        whole,
        subst (λ (read : LinesRead). AreRounds design order read rounds)
            (sym (whole.is_read ∙ ap (λ f. read_of f bytes) same)) counted,
      )

  -- two texts for one stimulus
  pub one_at : (asked : Option (Option Point)) (order : Option ℕ) (bytes : List ℕ)
      (ends other : Ending) (printed others : List ℕ)
      → IsSimulatedAt design asked order bytes ends printed
      → IsSimulatedAt design asked order bytes other others
      → (other ≡ ends) × (others ≡ printed)
  one_at None order bytes ends other printed others a b = (b.0 ∙ sym a.0, b.1 ∙ sym a.1)
  one_at (Some level) order bytes ends other printed others a b =
      let reads : b.1.read ≡ a.1.read = b.1.is_read ∙ sym a.1.is_read in
      let counted = subst (λ (read : LinesRead). AreRounds design order read b.0) reads b.2 in
      one_simulation level a.0 bytes ends other printed others a.1
      (subst (λ rounds.
      IsTraceText (name_in design.signals) system level rounds bytes other others)
      (one_rounds order a.1.read a.0 b.0 a.2 counted) b.1)

  -- a stimulus has a text
  pub has_text : (asked : Option (Option Point)) (order : Option ℕ) (bytes : List ℕ)
      → (ends : Ending) × (printed : List ℕ) × IsSimulatedAt design asked order bytes ends printed
  has_text None order bytes = (ending.NoLevel, last_line ending.NoLevel None, (refl, refl))
  has_text (Some level) order bytes =
      let rounds = has_rounds order bytes in
      let run = traced (read_of form bytes).right (fits_read bytes) in
      let ends : Ending = ending_of (is_within bytes) (read_of form bytes) in (
        ends,
        lines_of design level run.trace ++ last_line ends rounds.0,
        simulated level order rounds.0 bytes run.trace run.is rounds.1,
      )

pub has_one_text : (design : FlatDesign) → IsDesign design → HasOneText design
has_one_text design is level order bytes =
    let asked = level_asked design level in
    let text = has_text design is.is_sound is.is_admitted asked order bytes in (
      text.0,
      text.1,
      text.2,
      λ other others simulated. one_at design is.is_sound is.is_admitted asked order bytes text.0
          other text.1 others text.2 simulated,
    )
