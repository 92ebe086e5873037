-- What `compare` answers for a text that breaks no rule and two stimuli, and what it prints.
use Rattle.std.specs.Prelude.{◌≡◌, ℕ, ◌+◌, ◌≤◌, Bool, IsTrue, IsFalse, List, [], ◌∷◌, length}
use Rattle.std.specs.Prelude.{codes, Option, Some, None}
use Rattle.std.specs.Str.{bytes_eq}
use Rattle.sv_io.specs.Exchange.{Exchange, fetched, whole, too_long}
use Rattle.sv_ast.specs.Reach.{holds}
use Rattle.sv_ast.specs.SourceLabels.{points}
use Rattle.sv_ast.specs.Tree.{TextTree}
use Rattle.sv_elab_laws.specs.SideBySide.{text_signals}
use Rattle.sv_trace.specs.declared.faults.StimFault.TheVariants.{Line}
use Rattle.sv_texts.specs.declared.stimuli.StimKind.{StimKind}
use Rattle.sv_trace.specs.Forms.{StimForm}
use Rattle.sv_trace.specs.Stimulus.{LinesRead, read_whole, fault_of}
use Rattle.sv_tworun.specs.Forms.{Finding}
use Rattle.sv_tworun.specs.Forms as finding
use Rattle.sv_run_laws.specs.FalsifiedTexts.{number_of}
use Rattle.sv_run_laws.specs.Signals.{dotted}
use Rattle.sv_run_laws.specs.SimulatedTexts.{text_form}
use Rattle.sv_compare.specs.ComparedTexts.{IsTextCompared, numbered, named}
use Rattle.sv_report.specs.Text.{equal_text, input_text, view_text, lengths_text}
use Rattle.sv_texts.specs.Texts.{stimulus_text}
use Rattle.sv_report.specs.declared.styles.Style.TheVariants.{Lines}
use Rattle.sv_texts.specs.declared.stimuli.StimSource.{StimSource}
use Rattle.sv_texts.specs.declared.stimuli.StimSource.TheVariants.{FileA, FileB}
use Rattle.sv_cli.specs.Answer.{Answer, done, inputs_differ, views_differ, lengths_differ}
use Rattle.sv_cli.specs.Answer.{stimulus_refused}
use Rattle.sv_cli.specs.Limits.{TellsLimit}

-- the bytes of the largest stimulus file
abbrev pub largest_compared : ℕ
largest_compared = 67108864

-- ---- what is found

-- what is answered, signals by their numbers
abbrev pub answer_of_finding : Finding ℕ → Answer
answer_of_finding (finding.equal cycles) = done
answer_of_finding (finding.inputs_differ cycle signal) = inputs_differ cycle signal
answer_of_finding (finding.views_differ cycle signal) = views_differ cycle signal
answer_of_finding (finding.lengths_differ cycles) = lengths_differ cycles

-- what is printed, signals by their full names
abbrev pub finding_text : Finding (List ℕ) → List ℕ
finding_text (finding.equal cycles) = equal_text cycles
finding_text (finding.inputs_differ cycle name) = input_text cycle name
finding_text (finding.views_differ cycle name) = view_text cycle name
finding_text (finding.lengths_differ cycles) = lengths_text cycles

-- a finding of this is told, signals by their numbers and names
pub record TellsFinding {Signal : Type 0} (number : Signal → ℕ) (name : Signal → List ℕ)
    (IsFound : Finding Signal → Type 0) (answer : Answer) (printed : List ℕ) : Type 0 where
  pub found : Finding Signal
  pub finds : IsFound found
  pub answers : answer ≡ answer_of_finding (numbered number found)
  pub prints : printed ≡ finding_text (named name found)

-- what is told of two stimuli
abbrev pub TellsOfBoth : Type 1
TellsOfBoth = (first second : List ℕ) → Answer → (printed : List ℕ) → Type 0

-- the two runs of the text's own cycle meaning are compared, and what is found is told
abbrev pub Finds : TextTree → (top : Option (List ℕ)) → (level : List ℕ) → TellsOfBoth
Finds tree top level first second answer printed =
    TellsFinding (number_of (text_signals tree top)) dotted
    (IsTextCompared tree top level first second) answer printed

-- ---- the stimuli

-- this line of a stimulus is its first wrong one, and it is told
pub record RefusesStimulus (source : StimSource) (read : LinesRead) (answer : Answer)
    (printed : List ℕ) : Type 0 where
  pub line : ℕ
  pub kind : StimKind
  pub wrong : fault_of read ≡ Some (Line line kind)
  pub answers : answer ≡ stimulus_refused source line kind
  pub prints : printed ≡ stimulus_text source line kind

-- What is answered for the bytes of both, read for a design of this form: a wrong line of the first
-- is told before one of the second, and what Finds says where both are right.
pub data ComparesStimuli (form : StimForm) (Finds : TellsOfBoth) (first second : List ℕ)
    (answer : Answer) (printed : List ℕ) : Type 0 where
  first_wrong : RefusesStimulus FileA (read_whole form first) answer printed
      → ComparesStimuli form Finds first second answer printed
  second_wrong : (read_whole form first).wrong ≡ None
      → RefusesStimulus FileB (read_whole form second) answer printed
      → ComparesStimuli form Finds first second answer printed
  compared : (read_whole form first).wrong ≡ None → (read_whole form second).wrong ≡ None
      → Finds first second answer printed
      → ComparesStimuli form Finds first second answer printed

-- ---- the files

-- the fetch of A handed out more bytes than a stimulus file may have
pub record IsFirstOversized (a : List ℕ) (exchanges : List Exchange) (answer : Answer)
    (printed : List ℕ) : Type 0 where
  pub bytes : List ℕ
  pub long : length bytes ≡ largest_compared + 1
  pub fetches : exchanges ≡ fetched a (too_long bytes) ∷ []
  pub tells : TellsLimit Lines 711 (codes "A" ∷ []) answer printed

-- it handed out a stimulus within the limit, and that of B more bytes than it may
pub record IsSecondOversized (a b : List ℕ) (exchanges : List Exchange) (answer : Answer)
    (printed : List ℕ) : Type 0 where
  pub first : List ℕ
  pub within : length first ≤ largest_compared
  pub bytes : List ℕ
  pub long : length bytes ≡ largest_compared + 1
  pub fetches : exchanges ≡ fetched a (whole first) ∷ fetched b (too_long bytes) ∷ []
  pub tells : TellsLimit Lines 711 (codes "B" ∷ []) answer printed

-- both handed out stimuli within the limit
pub record ComparesFetched (a b : List ℕ) (form : StimForm) (Finds : TellsOfBoth)
    (exchanges : List Exchange) (answer : Answer) (printed : List ℕ) : Type 0 where
  pub first : List ℕ
  pub first_within : length first ≤ largest_compared
  pub second : List ℕ
  pub second_within : length second ≤ largest_compared
  pub fetches : exchanges ≡ fetched a (whole first) ∷ fetched b (whole second) ∷ []
  pub compares : ComparesStimuli form Finds first second answer printed

-- what is answered where the level is a point or none
pub data ComparesFiles (a b : List ℕ) (is_level : Bool) (form : StimForm) (Finds : TellsOfBoth)
    (exchanges : List Exchange) (answer : Answer) (printed : List ℕ) : Type 0 where
  no_level : IsFalse is_level → exchanges ≡ [] → TellsLimit Lines 707 [] answer printed
      → ComparesFiles a b is_level form Finds exchanges answer printed
  first_oversized : IsTrue is_level → IsFirstOversized a exchanges answer printed
      → ComparesFiles a b is_level form Finds exchanges answer printed
  second_oversized : IsTrue is_level → IsSecondOversized a b exchanges answer printed
      → ComparesFiles a b is_level form Finds exchanges answer printed
  compared : IsTrue is_level → ComparesFetched a b form Finds exchanges answer printed
      → ComparesFiles a b is_level form Finds exchanges answer printed

-- ---- the text

-- whether a point of the text has this name
abbrev pub is_level : TextTree → (level : List ℕ) → Bool
is_level tree level = holds bytes_eq (points tree) level

abbrev pub Compares : (a b level : List ℕ) → TextTree → (top : Option (List ℕ)) →
    (exchanges : List Exchange) → Answer → (printed : List ℕ) → Type 0
Compares a b level tree top exchanges answer printed =
    ComparesFiles a b (is_level tree level) (text_form tree top) (Finds tree top level) exchanges
    answer printed
