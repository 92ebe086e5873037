-- Private: how the code goes; the meaning stands in `Dialogues` and `Runs`. What is prepared of a
-- text before the stimulus is taken, as the code holds it.
use Rattle.std.specs.Prelude.{◌≡◌, ℕ, ◌⊎◌, ◌++◌, List, [], ◌∷◌, Bool, true, IsTrue, All, ⊤}
use Rattle.std.specs.Prelude.{string_bytes}
use Rattle.std.specs.Prelude.{Option, Some, None, IsSome, IfSome, IfNone, IfOk, IfErr, Result}
use Rattle.std.specs.Prelude.{option_map}
use Rattle.sv_flat.specs.Design.{FlatDesign}
use Rattle.sv_flat.specs.Views.{design_of}
use Rattle.sv_io.specs.Exchange.{Exchange, Fetched, fetched, stored}
use Rattle.sv_io.specs.Sink.{WritesFront}
use Rattle.sv_io.specs.Traffic.{Files, Passed, IsFailed, FailsToFetch, FailsToStore}
use Rattle.sv_paths.specs.Limits.{excess}
use Rattle.sv_paths.specs.ListLines.{list_text}
use Rattle.sv_obl.specs.Obligations.{Obligation}
use Rattle.sv_encoding.specs.Deciding.{Fits}
use Rattle.sv_encoding.specs.Encoding.{encoding}
use Rattle.sv_encoding.specs.CnfText.{cnf_text}
use Rattle.sv_blast.specs.Coded.{encoding_of}
use Rattle.sv_blast.specs.declared.coded.Coded.{Coded}
use Rattle.sv_sim_run.specs.Simulated.{IsSimulated}
use Rattle.sv_sim_run.specs.declared.endings.Ending.{Ending}
use Rattle.sv_words.specs.Words.{Request, check, verify, list, cnf, sim, compare, gen}
use Rattle.sv_words.specs.Words.{request_of, usage_of}
use Rattle.sv_cli.specs.declared.prepared.NoReport.{NoReport}
use Rattle.sv_cli.specs.declared.prepared.NoReport.TheVariants.{Unread, Unwritten, OutOfMemory}
use Rattle.sv_cli.specs.declared.prepared.Prepared.{Prepared}
use Rattle.sv_cli.specs.declared.prepared.Prepared.TheVariants.{Whole, Lines, Clauses}
use Rattle.sv_cli.specs.declared.prepared.Prepared.TheVariants.{Simulation}
use Rattle.sv_cli.specs.declared.report.Report.{Report}
use Rattle.sv_report.specs.declared.styles.Style.TheVariants as Style
use Rattle.sv_cli.specs.Answer.{Answer, answer_of, done}
use Rattle.sv_cli.specs.Checks.{Checks, MayStore}
use Rattle.sv_cli.specs.Command.{top_in, style_in}
use Rattle.sv_cli.specs.Comparing.{ComparesDesign, MayFetchStimuli}
use Rattle.sv_cli.specs.Dialogues.{IsDialogue, IsAnswer, MayExchange, IsExchanged}
use Rattle.sv_cli.specs.Limits.{ExceedsLimit}
use Rattle.sv_cli.specs.Lists.{Encodes, obligation_at}
use Rattle.sv_cli.specs.Runs.{MaySimulate, KeepsCounts}
use Rattle.sv_cli.specs.Simulates.{answer_by}
use Rattle.sv_cli.specs.Texts.{RefusesText, Passes}
use Rattle.sv_cli.specs.Verifies.{Verifies, IsOversized, JudgesProof}

-- what was accepted grew by all of the text but what is left
pub record LeavesOf (old text left new : List ℕ) : Type 0 where
  pub front : List ℕ
  pub whole : text ≡ front ++ left
  pub accepted : new ≡ old ++ front

-- ---- what is performed

abbrev pub IsReady : Prepared → Type 0
IsReady (Whole report) = IsSome (answer_of report.outcome)
IsReady (Lines design) = excess (design_of design) ≡ None
IsReady (Clauses coded) = ⊤
IsReady (Simulation design level order) = ⊤

-- what is answered of a design that is simulated, and what is printed
abbrev pub EndsAs : FlatDesign → (level : Option (List ℕ)) → (order : Option ℕ) →
    (stimulus : List ℕ) → Answer → (printed : List ℕ) → Type 0
EndsAs design level order stimulus answer printed =
    (ends : Ending) × (answer ≡ answer_by ends)
    × IsSimulated design level order stimulus ends printed

-- what is answered of it for a stimulus, and what is printed
abbrev pub IsPerformed : Prepared → (stimulus : List ℕ) → Answer → (printed : List ℕ) → Type 0
IsPerformed (Whole report) stimulus answer printed =
    (answer_of report.outcome ≡ Some answer) × (printed ≡ report.text.items)
IsPerformed (Lines design) stimulus answer printed =
    (answer ≡ done) × (printed ≡ list_text (design_of design))
IsPerformed (Clauses coded) stimulus answer printed =
    (answer ≡ done) × (printed ≡ cnf_text (encoding_of coded))
IsPerformed (Simulation design level order) stimulus answer printed =
    EndsAs (design_of design) (option_map string_bytes level) order stimulus answer printed

-- What was answered and accepted is what Is says of the bytes that were taken and, where the input
-- tells them, of all that were left.
pub record Performs (Is : (stimulus : List ℕ) → Answer → (printed : List ℕ) → Type 0)
    (Took : (stimulus : List ℕ) → Type 0) (tells : Bool) (left old new : List ℕ)
    (given : Option Answer) : Type 0 where
  pub answer : IfSome given (λ a. (stimulus printed : List ℕ) × Took stimulus
      × Is stimulus a printed × (new ≡ old ++ printed))
  pub whole : IsTrue tells
      → IfSome given (λ a. (printed : List ℕ) × Is left a printed × (new ≡ old ++ printed))
  -- without an answer a front of the text was accepted
  pub front : IfNone given ((stimulus : List ℕ) × (a : Answer) × (printed : List ℕ)
      × Took stimulus × Is stimulus a printed × WritesFront old printed new)
  pub whole_front : IsTrue tells
      → IfNone given ((a : Answer) × (printed : List ℕ) × Is left a printed
      × WritesFront old printed new)

-- it is a simulation, of whose level and design this holds
abbrev pub IsSimulationWith : (Option (List ℕ) → FlatDesign → Type 0) → Prepared → Type 0
IsSimulationWith Holds (Whole report) = ⊥
IsSimulationWith Holds (Lines design) = ⊥
IsSimulationWith Holds (Clauses coded) = ⊥
IsSimulationWith Holds (Simulation design level order) =
    Holds (option_map string_bytes level) (design_of design)

-- of a simulation, if it is one, this holds
abbrev pub IsOtherOrWith : (Option (List ℕ) → FlatDesign → Type 0) → Prepared → Type 0
IsOtherOrWith Holds (Whole report) = ⊤
IsOtherOrWith Holds (Lines design) = ⊤
IsOtherOrWith Holds (Clauses coded) = ⊤
IsOtherOrWith Holds (Simulation design level order) =
    Holds (option_map string_bytes level) (design_of design)

-- ---- what is prepared

-- what is made of it for a stimulus is an answer, and what it simulates may be simulated
pub record Prepares (Is : (stimulus : List ℕ) → Answer → (printed : List ℕ) → Type 0)
    (May : Option (List ℕ) → FlatDesign → Type 0) (prepared : Prepared) : Type 0 where
  pub ready : IsReady prepared
  pub simulates : IsOtherOrWith May prepared
  pub stands : (stimulus : List ℕ) (answer : Answer) (printed : List ℕ)
      → IsPerformed prepared stimulus answer printed → Is stimulus answer printed

-- the words are `sim` with the level, of a text that stands for the design
abbrev pub MaySimulateDesign : (words : List (List ℕ)) → List Exchange → Option (List ℕ) →
    FlatDesign → Type 0
MaySimulateDesign words exchanges level design =
    (may : MaySimulate words exchanges level) × (may.passes.design ≡ design)

-- for a request, by what was exchanged
abbrev pub PreparesFor : Request → List Exchange → Prepared → Type 0
PreparesFor request exchanges prepared =
    Prepares (IsDialogue request exchanges) (λ level design.
    (words : List (List ℕ)) → usage_of words ≡ None → request_of words ≡ Some request
    → MaySimulateDesign words exchanges level design) prepared

-- for the words
abbrev pub PreparesWords : (words : List (List ℕ)) → List Exchange → Prepared → Type 0
PreparesWords words exchanges prepared =
    Prepares (IsAnswer words exchanges) (MaySimulateDesign words exchanges) prepared

-- why nothing is prepared, by what was exchanged
abbrev pub Explains : (old new : Files) → List Exchange → NoReport → Type 0
Explains old new exchanges Unread = FailsToFetch old new exchanges
Explains old new exchanges Unwritten = FailsToStore old new exchanges
Explains old new exchanges OutOfMemory = ⊤

-- what was exchanged is what may be; what is made is what Makes says of it, and nothing of it
-- failed; or it says why nothing is made
pub record Readies {T : Type 0} (May : List Exchange → Type 0) (Makes : List Exchange → T → Type 0)
    (tells : Bool) (old new : Files) (result : Result T NoReport) : Type 0 where
  pub exchanges : List Exchange
  pub passed : Passed tells old new exchanges
  pub may : May exchanges
  pub made : IfOk result (λ made.
      Makes exchanges made × All (λ exchange. IsFailed exchange → ⊥) exchanges)
  pub unfailed : IfOk result (λ _. KeepsCounts old new)
  pub fault : IfErr result (Explains old new exchanges)

abbrev pub ReadiesFor : Request → Bool → (old new : Files) → Result Prepared NoReport → Type 0
ReadiesFor request = Readies (MayExchange request) (PreparesFor request)

abbrev pub ReadiesWords : (words : List (List ℕ)) → Bool → (old new : Files) →
    Result Prepared NoReport → Type 0
ReadiesWords words = Readies (IsExchanged words) (PreparesWords words)

-- ---- of a design

-- the report has an answer, of which and of its text this holds
abbrev pub Says : (Own : Answer → (printed : List ℕ) → Type 0) → Report → Type 0
Says Own report =
    (answer : Answer) × (answer_of report.outcome ≡ Some answer) × Own answer report.text.items

-- it is such a report
abbrev pub Reports : (Own : Answer → (printed : List ℕ) → Type 0) → Prepared → Type 0
Reports Own (Whole report) = Says Own report
Reports Own (Lines design) = ⊥
Reports Own (Clauses coded) = ⊥
Reports Own (Simulation design level order) = ⊥

-- by `check` nothing more is exchanged, or the certificate is stored where the design exceeds no
-- limit
abbrev pub MayStoreOwn : (name : Option (List ℕ)) → FlatDesign → (budget : ℕ) → List Exchange →
    Type 0
MayStoreOwn name design budget exchanges =
    (exchanges ≡ []) ⊎ ((excess design ≡ None) × MayStore name design budget exchanges)

-- by `verify` nothing, or PROOF is fetched
abbrev pub MayFetchOwn : (proof : List ℕ) → FlatDesign → List Exchange → Type 0
MayFetchOwn proof design exchanges =
    (exchanges ≡ []) ⊎ ((excess design ≡ None)
    × (got : Fetched) × (exchanges ≡ fetched proof got ∷ []))

-- nothing more is exchanged, or what the command exchanges of its own for a design
abbrev pub MayOwn : Request → FlatDesign → List Exchange → Type 0
MayOwn (check file proof budget top json) design exchanges =
    MayStoreOwn proof design budget exchanges
MayOwn (verify file proof top) design exchanges = MayFetchOwn proof design exchanges
MayOwn (compare file a b level top) design exchanges =
    MayFetchStimuli a b level design exchanges
MayOwn request design exchanges = exchanges ≡ []

-- the bytes may be stored under the name, if one is asked for, or the store may fail
abbrev pub MayStoreBytes : (name : Option (List ℕ)) → (bytes : List ℕ) → List Exchange → Type 0
MayStoreBytes None bytes exchanges = exchanges ≡ []
MayStoreBytes (Some name) bytes exchanges =
    (exchanges ≡ []) ⊎ ((is_done : Bool) × (exchanges ≡ stored name bytes is_done ∷ []))

-- they are stored
abbrev pub StoresBytes : (name : Option (List ℕ)) → (bytes : List ℕ) → List Exchange → Type 0
StoresBytes None bytes exchanges = exchanges ≡ []
StoresBytes (Some name) bytes exchanges = exchanges ≡ stored name bytes true ∷ []

-- it is the simulation of the design with this level and this order
abbrev pub IsSimulationOf : FlatDesign → Option (List ℕ) → Option ℕ → Prepared → Type 0
IsSimulationOf design level order (Whole report) = ⊥
IsSimulationOf design level order (Lines listed) = ⊥
IsSimulationOf design level order (Clauses coded) = ⊥
IsSimulationOf design level order (Simulation simulated asked drawn) =
    (design_of simulated ≡ design) × (option_map string_bytes asked ≡ level) × (drawn ≡ order)

-- what `verify` answers for what the fetch of PROOF handed out
abbrev pub VerifiesFetched : (proof : List ℕ) → FlatDesign → List Exchange → Answer → List ℕ →
    Type 0
VerifiesFetched proof design exchanges answer printed =
    IsOversized proof exchanges answer printed ⊎ JudgesProof proof design exchanges answer printed

-- what is prepared of an admitted design to list its obligations
abbrev pub ListsDesign : FlatDesign → Prepared → Type 0
ListsDesign design (Whole report) = Says (ExceedsLimit Style.Lines design) report
ListsDesign design (Lines listed) = (design_of listed ≡ design) × (excess design ≡ None)
ListsDesign design (Clauses coded) = ⊥
ListsDesign design (Simulation simulated level order) = ⊥

-- they are the clauses of the obligation of this number
pub record HoldsClauses (design : FlatDesign) (asked : ℕ) (coded : Coded) : Type 0 where
  pub few : excess design ≡ None
  pub obligation : Obligation
  pub found : obligation_at design asked ≡ Some obligation
  pub coded_is : encoding_of coded ≡ encoding design obligation
  pub fits : Fits design obligation

-- what is prepared of an admitted design to print the clauses of its obligation of a number
abbrev pub EncodesDesign : FlatDesign → (asked : ℕ) → Prepared → Type 0
EncodesDesign design asked (Whole report) = Says (Encodes asked design) report
EncodesDesign design asked (Lines listed) = ⊥
EncodesDesign design asked (Clauses coded) = HoldsClauses design asked coded
EncodesDesign design asked (Simulation simulated level order) = ⊥

-- what is prepared of a design for a command, by what it exchanged of its own
abbrev pub PreparesOwn : Request → FlatDesign → List Exchange → Prepared → Type 0
PreparesOwn (check file proof budget top json) design exchanges prepared =
    Reports (Checks (style_in (check file proof budget top json)) proof budget design exchanges)
    prepared
PreparesOwn (verify file proof top) design exchanges prepared =
    Reports (Verifies proof design exchanges) prepared
PreparesOwn (list file top) design exchanges prepared =
    (exchanges ≡ []) × ListsDesign design prepared
PreparesOwn (cnf file number top) design exchanges prepared =
    (exchanges ≡ []) × EncodesDesign design number prepared
PreparesOwn (sim file level order top) design exchanges prepared =
    (exchanges ≡ []) × IsSimulationOf design level order prepared
PreparesOwn (compare file a b level top) design exchanges prepared =
    Reports (ComparesDesign a b level design exchanges) prepared
PreparesOwn (gen lanes checks) design exchanges prepared = ⊥

-- ---- of a text

-- of a text within the limit: its first rule is told, or its design is prepared
abbrev pub PreparesText : Request → (text : List ℕ) → List Exchange → Prepared → Type 0
PreparesText request text exchanges prepared =
    ((exchanges ≡ [])
    × Reports (RefusesText (style_in request) (top_in request) text) prepared)
    ⊎ ((passes : Passes (top_in request) text)
    × PreparesOwn request passes.design exchanges prepared)

-- nothing more is exchanged, or what the command exchanges of its own for the text's design
abbrev pub MayExchangeOf : Request → (text : List ℕ) → List Exchange → Type 0
MayExchangeOf request text exchanges =
    (exchanges ≡ []) ⊎ ((passes : Passes (top_in request) text)
    × MayOwn request passes.design exchanges)
