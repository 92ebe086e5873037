-- The rounds of an order over a stimulus are those of the text's own processes.
use Rattle.std.proofs.Common.{◌≡◌, ℕ, ◌<◌, ◌^◌, Bool, List, [], ◌∷◌, map, length, Option, Some}
use Rattle.std.proofs.Common.{None, inl, inr, refl, sym, ap, ap₂, subst, ◌∙◌}
use Rattle.std.specs.Prelude.{◌↔◌, All, Contains, IsTrue, filter}
use Rattle.std.specs.List.{AllZip}
use Rattle.std.proofs.lemmas.List.Elements.{All-head, All-tail}
use Rattle.sv_system.specs.System.{System, Environment, KindFits}
use Rattle.sv_system.proofs.Lists.{Contains-head, Contains-later}
use Rattle.sv_system.proofs.Lists.{map_map}
use Rattle.sv_lattice.specs.declared.points.Point.{Point}
use Rattle.sv_ast.specs.Parts.{Path, PartSignal}
use Rattle.sv_ast.specs.TextSystem.{text_system}
use Rattle.sv_ast.specs.Tree.{TextTree}
use Rattle.sv_flat.specs.Admission.{IsAdmitted}
use Rattle.sv_flat.specs.Design.{FlatDesign}
use Rattle.sv_flat.specs.FlatSystem.{flat_system}
use Rattle.sv_flat.specs.Given.{FitListed, given}
use Rattle.sv_flat.specs.Processes.{is_register}
use Rattle.sv_flat.specs.SignalLists.{inputs, registers}
use Rattle.sv_flat.specs.Soundness.{sound}
use Rattle.sv_flat.proofs.LeastSets.{Contains-from_filter}
use Rattle.sv_elab_rules.specs.Texts.{flat_of}
use Rattle.sv_elab_laws.specs.FlattenedTexts.{CanBeFlattened}
use Rattle.sv_elab_laws.specs.Rounds.{SameGiven, RoundsAreOfText}
use Rattle.sv_elab_laws.specs.SideBySide.{text_signals, path_at}
use Rattle.sv_elab_laws.proofs.JoinedOrdered.{rounds_of_text}
use Rattle.sv_elab_laws.proofs.JoinedWhole.{flattened_named}
use Rattle.sv_elab_laws.proofs.PartsShapes.{flattened}
use Rattle.sv_elab_laws.proofs.SoundDesigns.{design_sound}
use Rattle.sv_trace.specs.Forms.{form_of, name_in}
use Rattle.sv_trace.specs.Stimulus.{LinesRead, start_of, cycles_of}
use Rattle.sv_sim_run.specs.Simulated.{read_of, RunsInOrder, AreRounds}
use Rattle.sv_sim_run.specs.Traces.{inputs_in, registers_in}
use Rattle.sv_sim_run.proofs.CycleFacts.{agree_on}
use Rattle.sv_sim_run.proofs.DesignForms.{form_is, inputs_are, registers_are, inputs_listed}
use Rattle.sv_sim_run.proofs.DesignForms.{registers_listed, start_fit, cycles_fit}
use Rattle.sv_sim_run.proofs.GivenFacts.{IsApart, own_values, filter_apart, given_to_fits}
use Rattle.sv_sim_run.proofs.OneText.{fits_read}
use Rattle.sv_system.proofs.Pointwise.{each}
use Rattle.sv_run_laws.specs.FalsifiedTexts.{by_path}
use Rattle.sv_run_laws.specs.SimulatedTexts.{text_form}
use Rattle.sv_run_laws.specs.Signals.{dotted}
use Rattle.sv_run_laws.specs.TextRounds.{RunsTextInOrder, AreTextRounds}
use Rattle.sv_run_laws.proofs.FalsifiedTexts.{same_by_path, in_text, number_below}
use Rattle.sv_run_laws.proofs.SameSimulations.{filter_named, forms_same}
use Rattle.sv_run_laws.proofs.TextNames as names

map_same : {X Y : Type 0} (f g : X → Y) (xs : List X) → ((x : X) → Contains xs x → f x ≡ g x)
    → map f xs ≡ map g xs
map_same f g [] same = refl
map_same f g (x ∷ xs) same =
    ap₂ (λ y ys. y ∷ ys) (same x (Contains-head x xs))
    (map_same f g xs (λ z at. same z (Contains-later x xs z at)))

module _ (text : TextTree) (asked : Option (List ℕ)) (design : FlatDesign)
    (can : CanBeFlattened text) (flat : flat_of text asked ≡ Some design)
    (admitted : IsAdmitted design) where
  abbrev first : System ℕ Point
  first = flat_system design

  abbrev second : System Path (List ℕ)
  second = text_system text asked

  abbrev signals : List PartSignal
  signals = text_signals text asked

  abbrev to : ℕ → Path
  to = path_at signals

  is_sound : IsTrue (sound design)
  is_sound = design_sound text asked design can.shaped (flattened text can) can.lengths flat

  -- ---- lists of signals

  abbrev Lists : (ℕ → Path) → Type 0
  Lists name =
      (inputs_in second ≡ map name (inputs_in first))
      × (registers_in second ≡ map name (registers_in first))
      × ((s : ℕ) → IsTrue (first.is_register s) → Contains first.signals s)
      × ((s : ℕ) → IsTrue (first.is_input s) → Contains first.signals s)

  lists : Lists to
  lists =
      let j = flattened_named text asked design can flat admitted in
      let joined = j.0 in
      subst Lists j.1 (
        ap (filter second.is_input) joined.signals
            ∙ filter_named joined.to first.is_input second.is_input first.signals joined.inputs,
        ap (filter second.is_register) joined.signals
            ∙ filter_named joined.to first.is_register second.is_register first.signals
            joined.registers,
        λ s register. joined.first_kinds s (inr register),
        λ s input. joined.first_kinds s (inl input),
      )

  seen_same : (e : Environment ℕ) (s : ℕ) → Contains first.signals s
      → e s ≡ by_path signals e (to s)
  seen_same e s at =
      same_by_path text asked design can flat admitted e s
      (in_text text asked design can flat admitted s
      (number_below text asked design can flat admitted s at))

  -- ---- values given to the signals of a kind

  -- the signals of a kind, by the design's own list and by that of the text
  record OfKind (kind : ℕ → Bool) (own : List ℕ) (theirs : List Path) : Type 0 where
    are : filter kind first.signals ≡ own
    apart : IsApart own
    named : theirs ≡ map to (filter kind first.signals)
    seen : (s : ℕ) → IsTrue (kind s) → Contains first.signals s
    listed : (s : ℕ) → IsTrue (kind s) → Contains (filter kind first.signals) s

  module _ {kind : ℕ → Bool} {own : List ℕ} {theirs : List Path} (k : OfKind kind own theirs)
      (values : List ℕ) (fit : FitListed design.signals own values) where
    abbrev those : Environment ℕ
    those = given own values

    those_are : map those (filter kind first.signals) ≡ values
    those_are = ap (map those) k.are ∙ own_values own values (λ s. 0) k.apart fit.count

    those_fit : KindFits kind first those
    those_fit =
        each (λ s. IsTrue (kind s) → those s < 2 ^ first.width s) first.signals
        (λ s at of_kind. given_to_fits design.signals own values s fit)

    theirs_are : map (by_path signals those) theirs ≡ values
    theirs_are =
        ap (map (by_path signals those)) k.named
        ∙ map_map (by_path signals those) to (filter kind first.signals)
        ∙ map_same (λ s. by_path signals those (to s)) those (filter kind first.signals)
        (λ s at. sym (seen_same those s (Contains-from_filter kind first.signals s at).1))
        ∙ those_are

    given_over : SameGiven first to kind those (by_path signals those)
    given_over = record {
      same = λ s of_kind. seen_same those s (k.seen s of_kind);
      fits = those_fit;
    }

    given_back : (others : Environment Path) → map others theirs ≡ values
        → SameGiven first to kind those others
    given_back others is = record {
      same = λ s of_kind.
          agree_on those (λ z. others (to z)) (filter kind first.signals)
          (those_are ∙ sym is ∙ ap (map others) k.named
          ∙ map_map others to (filter kind first.signals))
          s (k.listed s of_kind);
      fits = those_fit;
    }

  of_registers : OfKind first.is_register (registers design) (registers_in second)
  of_registers = record {
    are = registers_are design is_sound admitted;
    apart = filter_apart (is_register design) 0 (length design.signals);
    named = lists.1;
    seen = lists.2;
    listed = registers_listed design is_sound admitted;
  }

  of_inputs : OfKind first.is_input (inputs design) (inputs_in second)
  of_inputs = record {
    are = inputs_are design is_sound admitted;
    apart = filter_apart first.is_input 0 (length design.signals);
    named = lists.0;
    seen = lists.3;
    listed = inputs_listed design is_sound admitted;
  }

  pub started_over : (start : List ℕ) → FitListed design.signals (registers design) start
      → map (by_path signals (given (registers design) start)) (registers_in second) ≡ start
  started_over = theirs_are of_registers

  pub now_over : (values : List ℕ) → FitListed design.signals (inputs design) values
      → map (by_path signals (given (inputs design) values)) (inputs_in second) ≡ values
  now_over = theirs_are of_inputs

  pub registers_back : (start : List ℕ) → FitListed design.signals (registers design) start
      → (state : Environment Path) → map state (registers_in second) ≡ start
      → SameGiven first to first.is_register (given (registers design) start) state
  registers_back = given_back of_registers

  pub input_back : (values : List ℕ) → FitListed design.signals (inputs design) values
      → (i : Environment Path) → map i (inputs_in second) ≡ values
      → SameGiven first to first.is_input (given (inputs design) values) i
  input_back = given_back of_inputs

  -- ---- the inputs of all cycles

  abbrev Fits : List ℕ → Type 0
  Fits values = FitListed design.signals (inputs design) values

  abbrev takes : List (List ℕ) → List (Environment ℕ)
  takes cycles = map (given (inputs design)) cycles

  abbrev SameInputs : Environment ℕ → Environment Path → Type 0
  SameInputs e g = SameGiven first to first.is_input e g

  inputs_over : (cycles : List (List ℕ)) → All Fits cycles
      → AllZip SameInputs (takes cycles) (map (by_path signals) (takes cycles))
      × (map (λ v. map v (inputs_in second)) (map (by_path signals) (takes cycles)) ≡ cycles)
  inputs_over [] all = (tt, refl)
  inputs_over (values ∷ cycles) all =
      let fit = All-head Fits values cycles all in
      let rest = inputs_over cycles (All-tail Fits values cycles all) in
      ((given_over of_inputs values fit, rest.0), ap₂ (λ y ys. y ∷ ys) (now_over values fit) rest.1)

  inputs_back : (cycles : List (List ℕ)) → All Fits cycles → (is : List (Environment Path))
      → map (λ v. map v (inputs_in second)) is ≡ cycles
      → AllZip SameInputs (takes cycles) is
  inputs_back [] all [] e = tt
  inputs_back [] all (i ∷ is) e = absurd (cc e)
  inputs_back (values ∷ cycles) all [] e = absurd (cc e)
  inputs_back (values ∷ cycles) all (i ∷ is) e = (
    input_back values (All-head Fits values cycles all) i
        (let here : map i (inputs_in second) ≡ values = cc e in here),
    inputs_back cycles (All-tail Fits values cycles all) is
        (let rest : map (λ v. map v (inputs_in second)) is ≡ cycles = cc e in rest),
  )

  -- ---- rounds

  module _ (number : ℕ) (start : List ℕ) (cycles : List (List ℕ))
      (start_fits : FitListed design.signals (registers design) start)
      (cycles_fit_all : All Fits cycles) (rounds : ℕ) where
    law : RoundsAreOfText text asked design
    law = rounds_of_text text asked design can flat admitted

    run_over : RunsInOrder design number start cycles rounds
        → RunsTextInOrder text asked number start cycles rounds
    run_over is =
        let given_inputs = inputs_over cycles cycles_fit_all in
        record {
          state = by_path signals (given (registers design) start);
          inputs = map (by_path signals) (takes cycles);
          started = started_over start start_fits;
          given = given_inputs.1;
          runs = (law number rounds (given (registers design) start)
              (by_path signals (given (registers design) start)) (takes cycles)
              (map (by_path signals) (takes cycles)) (given_over of_registers start start_fits)
              given_inputs.0).0 (is.environments, is.runs);
        }

    run_back : RunsTextInOrder text asked number start cycles rounds
        → RunsInOrder design number start cycles rounds
    run_back is =
        let run = (law number rounds (given (registers design) start) is.state (takes cycles)
        is.inputs (registers_back start start_fits is.state is.started)
        (inputs_back cycles cycles_fit_all is.inputs is.given)).1 is.runs in
        record { environments = run.0; runs = run.1 }

  forms : text_form text asked ≡ form_of design
  forms =
      forms_same first second (names.joined text asked design can flat admitted)
      (name_in design.signals) dotted (names.same_names text asked design can flat admitted)
      ∙ form_is design is_sound admitted

  pub own_rounds : (order : Option ℕ) (bytes : List ℕ) (rounds : Option ℕ)
      → AreRounds design order (read_of (text_form text asked) bytes) rounds
      ↔ AreTextRounds text asked order (read_of (text_form text asked) bytes) rounds
  own_rounds None bytes rounds = (λ is. is, λ is. is)
  own_rounds (Some number) bytes rounds =
      let read : LinesRead = read_of (form_of design) bytes in
      let fit = fits_read design is_sound admitted bytes in
      let start = start_of (form_of design) read.right in
      let cycles = cycles_of read.right in
      let start_fits = start_fit design is_sound admitted read.right fit in
      let all_fit = cycles_fit design is_sound admitted read.right fit in
      subst (λ form.
      AreRounds design (Some number) (read_of form bytes) rounds
      ↔ ((count : ℕ) × (rounds ≡ Some count)
      × RunsTextInOrder text asked number (start_of form (read_of form bytes).right)
      (cycles_of (read_of form bytes).right) count))
      (sym forms) (
        λ is. (is.0, is.1, run_over number start cycles start_fits all_fit is.0 is.2),
        λ is. (is.0, is.1, run_back number start cycles start_fits all_fit is.0 is.2),
      )
