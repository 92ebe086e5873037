-- What `sim` writes of a design for a stimulus, and how that ends (this project's profile).
use Rattle.std.specs.Prelude.{◌≡◌, ℕ, ◌+◌, ◌≤◌, Bool, nat_le, if◌then◌else◌, List, []}
use Rattle.std.specs.Prelude.{◌++◌, length, take, map, codes, decimal, Option, Some, None}
use Rattle.std.specs.Prelude.{option_map, position}
use Rattle.std.specs.Option.{option_map_or}
use Rattle.std.specs.Str.{bytes_eq}
use Rattle.sv_io.specs.Sink.{WritesFront}
use Rattle.sv_lattice.specs.declared.points.Point.{Point}
use Rattle.sv_system.specs.System.{System, Environment}
use Rattle.sv_flat.specs.Design.{FlatDesign}
use Rattle.sv_flat.specs.FlatSystem.{flat_system}
use Rattle.sv_flat.specs.Schedules.{OrderedRun}
use Rattle.sv_flat.specs.SignalLists.{inputs, registers}
use Rattle.sv_flat.specs.Given.{given}
use Rattle.sv_trace.specs.Forms.{StimForm, form_of, name_in}
use Rattle.sv_trace.specs.Stimulus.{LinesRead, read_front, read_whole, start_of, cycles_of}
use Rattle.sv_texts.specs.declared.stimuli.StimSource.TheVariants.{Input}
use Rattle.sv_texts.specs.Texts.{limit_text, stimulus_text}
use Rattle.sv_sim_run.specs.declared.endings.Ending.{Ending}
use Rattle.sv_sim_run.specs.declared.endings.Ending.TheVariants as ending
use Rattle.sv_sim_run.specs.Traces.{form_in, IsTraceFrom, lines_from}

-- ---- what is read of a stimulus

-- the bytes of the largest stimulus
abbrev pub largest_stimulus : ℕ
largest_stimulus = 1073741824

abbrev pub is_within : (bytes : List ℕ) → Bool
is_within bytes = nat_le (length bytes) largest_stimulus

-- all lines; of a stimulus over the limit those that have their line feed within it, or that are
-- too long there
abbrev pub read_of : StimForm → (bytes : List ℕ) → LinesRead
read_of form bytes =
    if is_within bytes then read_whole form bytes
    else read_front form (take largest_stimulus bytes)

-- a wrong line is told first; else that the stimulus is over the limit
abbrev pub ending_of : (within : Bool) → LinesRead → Ending
ending_of within read =
    option_map_or (λ kind. ending.WrongLine (length read.right + 1) kind) read.wrong
    (if within then ending.Done else ending.TooLarge)

-- ---- the last line

-- what stands behind the trace: the number of rounds, where an order was asked for and the whole
-- stimulus was simulated, or why it was not
abbrev pub last_line : Ending → (rounds : Option ℕ) → List ℕ
last_line ending.Done None = []
last_line ending.Done (Some rounds) = codes "rounds " ++ decimal rounds ++ codes "\n"
last_line ending.NoLevel rounds = limit_text 707 []
last_line ending.TooLarge rounds = limit_text 704 []
last_line (ending.WrongLine line kind) rounds = stimulus_text Input line kind

-- ---- the whole text

-- For these bytes the trace of a system is written, and then the last line.
pub record IsTraceText {Signal Point : Type 0} (name : Signal → List ℕ)
    (system : System Signal Point) (level : Option Point) (rounds : Option ℕ) (bytes : List ℕ)
    (ends : Ending) (printed : List ℕ) : Type 0 where
  pub read : LinesRead
  pub is_read : read ≡ read_of (form_in name system) bytes
  pub trace : List (Environment Signal)
  pub traces : IsTraceFrom system (start_of (form_in name system) read.right)
      (cycles_of read.right) trace
  pub ended : ends ≡ ending_of (is_within bytes) read
  pub prints : printed ≡ lines_from name system level 0 trace ++ last_line ends rounds

-- ---- the rounds of an order

-- the ordered run of a design from these starting values, over these values of the inputs
pub record RunsInOrder (design : FlatDesign) (number : ℕ) (start : List ℕ)
    (cycles : List (List ℕ)) (rounds : ℕ) : Type 0 where
  pub environments : List (Environment ℕ)
  pub runs : OrderedRun design number (given (registers design) start)
      (map (given (inputs design)) cycles) environments rounds

-- how many rounds the order asked for takes, over the cycles that were read
abbrev pub AreRounds : FlatDesign → (order : Option ℕ) → LinesRead → (rounds : Option ℕ) → Type 0
AreRounds design None read rounds = rounds ≡ None
AreRounds design (Some number) read rounds =
    (count : ℕ) × (rounds ≡ Some count)
    × RunsInOrder design number (start_of (form_of design) read.right) (cycles_of read.right) count

-- ---- what is asked for

-- what is shown: all signals, or those that the level asked for by its name sees, if there is such
-- a level
abbrev pub level_asked : FlatDesign → (level : Option (List ℕ)) → Option (Option Point)
level_asked design None = Some None
level_asked design (Some name) =
    option_map (λ k. Some (record { 0 = k })) (position (λ point. bytes_eq point name)
    design.points)

-- a level that is no point is refused, whatever the stimulus
abbrev pub IsLevelRefused : Ending → (printed : List ℕ) → Type 0
IsLevelRefused ends printed =
    (ends ≡ ending.NoLevel) × (printed ≡ last_line ending.NoLevel None)

-- What is written of a design for these bytes, with this level and order, and how that ends.
abbrev pub IsSimulatedAt : FlatDesign → Option (Option Point) → (order : Option ℕ) →
    (bytes : List ℕ) → Ending → (printed : List ℕ) → Type 0
IsSimulatedAt design None order bytes ends printed = IsLevelRefused ends printed
IsSimulatedAt design (Some level) order bytes ends printed =
    (rounds : Option ℕ)
    × (is : IsTraceText (name_in design.signals) (flat_system design) level rounds bytes ends
    printed)
    × AreRounds design order is.read rounds

abbrev pub IsSimulated : FlatDesign → (level : Option (List ℕ)) → (order : Option ℕ) →
    (bytes : List ℕ) → Ending → (printed : List ℕ) → Type 0
IsSimulated design level order bytes ends printed =
    IsSimulatedAt design (level_asked design level) order bytes ends printed

-- ---- what is written before a fault

-- what was accepted is a front of the whole text for these bytes
pub record WritesFrontAt (design : FlatDesign) (asked : Option (Option Point)) (order : Option ℕ)
    (bytes old new : List ℕ) : Type 0 where
  pub ends : Ending
  pub printed : List ℕ
  pub is : IsSimulatedAt design asked order bytes ends printed
  pub front : WritesFront old printed new

abbrev pub WritesFrontFor : FlatDesign → (level : Option (List ℕ)) → (order : Option ℕ) →
    (bytes old new : List ℕ) → Type 0
WritesFrontFor design level order bytes old new =
    WritesFrontAt design (level_asked design level) order bytes old new

-- These first bytes of a stimulus show no ending yet: no line of them is wrong, and they are within
-- the limit. What was accepted is the lines of all cycles that they let read.
pub record WritesAllCycles (design : FlatDesign) (level : Option (List ℕ))
    (bytes old new : List ℕ) : Type 0 where
  pub shown : Option Point
  pub asked : level_asked design level ≡ Some shown
  pub read : LinesRead
  pub is_read : read ≡ read_front (form_of design) bytes
  pub right : read.wrong ≡ None
  pub few : length bytes ≤ largest_stimulus
  pub trace : List (Environment ℕ)
  pub traces : IsTraceFrom (flat_system design) (start_of (form_of design) read.right)
      (cycles_of read.right) trace
  pub accepted : new ≡ old ++ lines_from (name_in design.signals) (flat_system design) shown 0 trace

-- ---- laws

-- each stimulus has one text and one ending
abbrev pub HasOneText : FlatDesign → Type 0
HasOneText design = (level : Option (List ℕ)) (order : Option ℕ) (bytes : List ℕ)
    → (ends : Ending) × (printed : List ℕ) × IsSimulated design level order bytes ends printed
    × ((other : Ending) (others : List ℕ) → IsSimulated design level order bytes other others
    → (other ≡ ends) × (others ≡ printed))
