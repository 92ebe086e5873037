-- What was accepted of the first cycles is a front of the whole text.
use Rattle.std.proofs.Common.{◌≡◌, ℕ, ◌+◌, ◌<◌, List, [], ◌∷◌, ◌++◌, length, map, sym, ap}
use Rattle.std.proofs.Common.{◌∙◌}
use Rattle.std.proofs.Common.{subst, Option, Some, append_assoc, arith, length-append}
use Rattle.std.specs.Prelude.{IsTrue}
use Rattle.std.proofs.lemmas.List.{map-append, length-map}
use Rattle.sv_io.specs.Sink.{WritesFront}
use Rattle.sv_io.proofs.Writing.{writes_front_more}
use Rattle.sv_lattice.specs.declared.points.Point.{Point}
use Rattle.sv_system.specs.System.{System, Environment, IsTrace, SameTraces, HasOneTrace}
use Rattle.sv_flat.specs.Admission.{IsAdmitted}
use Rattle.sv_flat.specs.Design.{FlatDesign}
use Rattle.sv_flat.specs.FlatSystem.{flat_system}
use Rattle.sv_flat.specs.SignalLists.{inputs, registers}
use Rattle.sv_flat.specs.Soundness.{sound}
use Rattle.sv_flat.specs.Given.{given}
use Rattle.sv_trace.specs.Forms.{StimForm, form_of, name_in}
use Rattle.sv_trace.specs.Stimulus.{LinesRead, start_of, cycles_of}
use Rattle.sv_sim_run.specs.declared.endings.Ending.{Ending}
use Rattle.sv_sim_run.specs.Runs.{lines_of}
use Rattle.sv_sim_run.specs.Simulated.{is_within, read_of, ending_of, last_line, WritesFrontAt}
use Rattle.sv_sim_run.specs.Traces.{lines_from}
use Rattle.sv_sim_run.proofs.OneText.{one, lines_same, fits_read, traced, simulated, has_rounds}
use Rattle.sv_sim_run.proofs.ReadFronts.{Grows, cycles_grow, start_stays}
use Rattle.sv_sim_run.proofs.SameTraces.{one_trace, trace_front, lines_append}

-- traces over the same inputs, from the same start if there is an input
same_front : {Signal Point : Type 0} (system : System Signal Point) → HasOneTrace system
    → (state other : Environment Signal) (inputs first second : List (Environment Signal))
    → (0 < length inputs → state ≡ other) → IsTrace system state inputs first
    → IsTrace system other inputs second → SameTraces system first second
same_front system has state other [] [] [] starts one two = tt
same_front system has state other [] (e ∷ es) second starts one two = absurd one
same_front system has state other [] [] (f ∷ fs) starts one two = absurd two
same_front {Signal} system has state other (i ∷ is) first second starts one two =
    let same : state ≡ other = starts (omega arith) in
    one_trace system has other (i ∷ is) first second
    (subst (λ (e : Environment Signal). IsTrace system e (i ∷ is) first) same one) two

module _ (design : FlatDesign) (is_sound : IsTrue (sound design))
    (admitted : IsAdmitted design) where
  abbrev system : System ℕ Point
  system = flat_system design

  abbrev starts_at : StimForm → LinesRead → Environment ℕ
  starts_at form read = given (registers design) (start_of form read.right)

  abbrev takes : List (List ℕ) → List (Environment ℕ)
  takes cycles = map (given (inputs design)) cycles

  -- the lines of the first cycles begin the whole text
  pub begins_text : (level : Option Point) (order : Option ℕ) (bytes : List ℕ) (read : LinesRead)
      (taken rest : List (List ℕ)) (trace : List (Environment ℕ)) (before accepted : List ℕ)
      → cycles_of read.right ≡ taken ++ rest
      → IsTrace system (starts_at (form_of design) read) (takes taken) trace
      → Grows read (read_of (form_of design) bytes)
      → WritesFront before (lines_of design level trace) accepted
      → WritesFrontAt design (Some level) order bytes before accepted
  begins_text level order bytes read taken rest trace before accepted cycles is grows front =
      let form : StimForm = form_of design in
      let whole : LinesRead = read_of form bytes in
      let full = traced design is_sound admitted whole.right
      (fits_read design is_sound admitted bytes) in
      let more = cycles_grow read.right grows.0 in
      let all : cycles_of whole.right ≡ taken ++ (rest ++ more.0) =
      ap cycles_of grows.1 ∙ more.1 ∙ ap (λ cs. cs ++ more.0) cycles
      ∙ append_assoc taken rest more.0 in
      let first = trace_front system (starts_at form whole) (takes taken) (takes (rest ++ more.0))
      full.trace
      (subst (λ (is : List (Environment ℕ)). IsTrace system (starts_at form whole) is full.trace)
      (ap takes all ∙ map-append (given (inputs design)) taken (rest ++ more.0)) full.is) in
      let starts : 0 < length (takes taken) → starts_at form whole ≡ starts_at form read =
      λ some. ap (λ values. given (registers design) values)
      (ap (start_of form) grows.1
      ∙ start_stays form read.right grows.0 (omega (
        arith,
        ap length cycles,
        length-append taken rest,
        length-map taken (given (inputs design)),
        some,
      ))) in
      let same : lines_of design level first.first ≡ lines_of design level trace =
      lines_same design is_sound admitted level first.first trace
      (same_front system (one design is_sound admitted) (starts_at form whole)
      (starts_at form read) (takes taken) first.first trace starts first.is is) in
      let rounds = has_rounds design is_sound admitted order bytes in
      let ends : Ending = ending_of (is_within bytes) whole in
      let later : List ℕ =
      lines_from (λ s. name_in design.signals s) system level (0 + length first.first) first.rest in
      let text : lines_of design level trace ++ (later ++ last_line ends rounds.0)
      ≡ lines_of design level full.trace ++ last_line ends rounds.0 =
      sym (append_assoc (lines_of design level trace) later (last_line ends rounds.0))
      ∙ ap (λ t. (t ++ later) ++ last_line ends rounds.0) (sym same)
      ∙ ap (λ t. t ++ last_line ends rounds.0)
      (sym (ap (lines_of design level) first.whole
      ∙ lines_append system (λ s. name_in design.signals s) level 0 first.first first.rest)) in
      record {
        ends = ends;
        printed = lines_of design level full.trace ++ last_line ends rounds.0;
        is = simulated design is_sound admitted level order rounds.0 bytes full.trace full.is
            rounds.1;
        front = subst (λ t. WritesFront before t accepted) text
            (writes_front_more before (lines_of design level trace)
            (later ++ last_line ends rounds.0) accepted front);
      }

  -- the same with a form that is the design's
  pub begins_text_of : (form : StimForm) → form ≡ form_of design → (level : Option Point)
      (order : Option ℕ) (bytes : List ℕ) (read : LinesRead) (taken rest : List (List ℕ))
      (trace : List (Environment ℕ)) (before accepted : List ℕ)
      → cycles_of read.right ≡ taken ++ rest
      → IsTrace system (starts_at form read) (takes taken) trace
      → Grows read (read_of form bytes)
      → WritesFront before (lines_of design level trace) accepted
      → WritesFrontAt design (Some level) order bytes before accepted
  begins_text_of form same level order bytes read taken rest trace before accepted cycles is grows
      front =
      begins_text level order bytes read taken rest trace before accepted cycles
      (subst (λ f. IsTrace system (starts_at f read) (takes taken) trace) same is)
      (subst (λ f. Grows read (read_of f bytes)) same grows) front
