-- What the comparison of two stimuli at a level comes to, of any system, and of a source text by
-- its own cycle meaning (this project's profile).
use Rattle.std.specs.Prelude.{◌≡◌, ℕ, List, Option, Some, None}
use Rattle.sv_lattice.specs.declared.points.Point.{Point}
use Rattle.sv_system.specs.System.{System, Environment}
use Rattle.sv_ast.specs.Parts.{Path}
use Rattle.sv_ast.specs.TextSystem.{text_system}
use Rattle.sv_ast.specs.Tree.{TextTree}
use Rattle.sv_flat.specs.Design.{FlatDesign}
use Rattle.sv_flat.specs.FlatSystem.{flat_system}
use Rattle.sv_trace.specs.Forms.{name_in}
use Rattle.sv_trace.specs.Stimulus.{read_whole, start_of, cycles_of}
use Rattle.sv_sim_run.specs.Traces.{form_in, IsTraceFrom}
use Rattle.sv_run_laws.specs.FalsifiedTexts.{number_of}
use Rattle.sv_run_laws.specs.Signals.{text_signals, dotted}
use Rattle.sv_tworun.specs.Comparisons.{IsFound}
use Rattle.sv_tworun.specs.Forms.{Finding, equal, inputs_differ, views_differ, lengths_differ}

-- ---- comparisons

-- the traces that two stimuli ask of a system, and what the comparison of these finds at a level
pub record IsComparisonOf {Signal Point : Type 0} (name : Signal → List ℕ)
    (system : System Signal Point) (level : Point) (first second : List ℕ)
    (found : Finding Signal) : Type 0 where
  pub one : List (Environment Signal)
  pub other : List (Environment Signal)
  pub of_first : IsTraceFrom system
      (start_of (form_in name system) (read_whole (form_in name system) first).right)
      (cycles_of (read_whole (form_in name system) first).right) one
  pub of_second : IsTraceFrom system
      (start_of (form_in name system) (read_whole (form_in name system) second).right)
      (cycles_of (read_whole (form_in name system) second).right) other
  pub finds : IsFound system level one other found

-- of a flat design, at one of its points
abbrev pub IsDesignCompared : FlatDesign → Point → (first second : List ℕ) → Finding ℕ → Type 0
IsDesignCompared design level first second found =
    IsComparisonOf (name_in design.signals) (flat_system design) level first second found

-- of a text, by its own cycle meaning, at the point of this name
abbrev pub IsTextCompared : TextTree → (asked : Option (List ℕ)) →
    (level first second : List ℕ) → Finding Path → Type 0
IsTextCompared text asked level first second found =
    IsComparisonOf dotted (text_system text asked) level first second found

-- ---- findings under other names

-- the finding with its signal under another name
abbrev pub with_names : {Signal Other : Type 0} → (Signal → Other) → Finding Signal → Finding Other
with_names to (equal cycles) = equal cycles
with_names to (inputs_differ cycle signal) = inputs_differ cycle (to signal)
with_names to (views_differ cycle signal) = views_differ cycle (to signal)
with_names to (lengths_differ cycles) = lengths_differ cycles

-- with its signal by number
abbrev pub numbered : {Signal : Type 0} → (number : Signal → ℕ) → Finding Signal → Finding ℕ
numbered number found = with_names number found

-- with its signal by the name that is printed
abbrev pub named : {Signal : Type 0} → (name : Signal → List ℕ) → Finding Signal →
    Finding (List ℕ)
named name found = with_names name found

-- the signal that a finding tells
abbrev pub signal_told : {Signal : Type 0} → Finding Signal → Option Signal
signal_told (equal cycles) = None
signal_told (inputs_differ cycle signal) = Some signal
signal_told (views_differ cycle signal) = Some signal
signal_told (lengths_differ cycles) = None

-- ---- laws

-- one finding, with its signal by number in a design and by path in the text
pub record SameFinding (text : TextTree) (asked : Option (List ℕ)) (design : FlatDesign)
    (found : Finding ℕ) (in_text : Finding Path) : Type 0 where
  pub number : numbered (number_of (text_signals text asked)) in_text ≡ found
  pub name : named (name_in design.signals) found ≡ named dotted in_text

-- at a point of the design and the name of this point, what is found of the design is what is found
-- of the text
pub record AreComparedAlike (text : TextTree) (asked : Option (List ℕ)) (design : FlatDesign)
    (point : Point) (level first second : List ℕ) : Type 0 where
  pub over : (found : Finding ℕ) → IsDesignCompared design point first second found
      → (in_text : Finding Path) × IsTextCompared text asked level first second in_text
      × SameFinding text asked design found in_text
  pub back : (in_text : Finding Path) → IsTextCompared text asked level first second in_text
      → (found : Finding ℕ) × IsDesignCompared design point first second found
      × SameFinding text asked design found in_text

-- the comparison of two stimuli finds exactly one thing
abbrev pub HasOneFinding : TextTree → (asked : Option (List ℕ)) →
    (level first second : List ℕ) → Type 0
HasOneFinding text asked level first second =
    (found : Finding Path) × IsTextCompared text asked level first second found
    × ((other : Finding Path) → IsTextCompared text asked level first second other
    → other ≡ found)
