-- What `sim` writes of a source text for a stimulus: the trace of the text's own cycle meaning
-- (this project's profile).
use Rattle.std.specs.Prelude.{◌≡◌, ℕ, ◌≤◌, List, ◌++◌, length, Option, Some, None}
use Rattle.std.specs.Prelude.{if◌then◌else◌, ◌↔◌}
use Rattle.std.specs.Str.{bytes_eq}
use Rattle.sv_io.specs.Sink.{WritesFront}
use Rattle.sv_system.specs.System.{Environment}
use Rattle.sv_ast.specs.Parts.{Path}
use Rattle.sv_ast.specs.Reach.{holds}
use Rattle.sv_ast.specs.SourceLabels.{points}
use Rattle.sv_ast.specs.TextSystem.{text_system}
use Rattle.sv_ast.specs.Tree.{TextTree}
use Rattle.sv_flat.specs.Design.{FlatDesign}
use Rattle.sv_trace.specs.Forms.{StimForm}
use Rattle.sv_trace.specs.Stimulus.{LinesRead, read_front, start_of, cycles_of}
use Rattle.sv_sim_run.specs.declared.endings.Ending.{Ending}
use Rattle.sv_sim_run.specs.Simulated.{AreRounds, IsTraceText, IsLevelRefused, IsSimulated}
use Rattle.sv_sim_run.specs.Simulated.{WritesFrontFor, WritesAllCycles, largest_stimulus}
use Rattle.sv_sim_run.specs.Traces.{form_in, IsTraceFrom, lines_from}
use Rattle.sv_run_laws.specs.Signals.{dotted}

-- ---- the whole text

-- what is shown: all signals, or those that the point of this name sees, if there is such a point
abbrev pub level_asked_of : TextTree → (level : Option (List ℕ)) → Option (Option (List ℕ))
level_asked_of text None = Some None
level_asked_of text (Some name) =
    if holds bytes_eq (points text) name then Some (Some name) else None

-- The lines are those of the text's own cycle meaning, with signals by their full names. The rounds
-- are those of the flat design that the text stands for: in it the processes have their numbers.
abbrev pub IsTextSimulatedAt : TextTree → (asked : Option (List ℕ)) → FlatDesign →
    Option (Option (List ℕ)) → (order : Option ℕ) → (bytes : List ℕ) → Ending →
    (printed : List ℕ) → Type 0
IsTextSimulatedAt text asked design None order bytes ends printed = IsLevelRefused ends printed
IsTextSimulatedAt text asked design (Some level) order bytes ends printed =
    (rounds : Option ℕ)
    × (is : IsTraceText dotted (text_system text asked) level rounds bytes ends printed)
    × AreRounds design order is.read rounds

-- What is written of a text for these bytes, with this level and order, and how that ends.
abbrev pub IsTextSimulated : TextTree → (asked : Option (List ℕ)) → FlatDesign →
    (level : Option (List ℕ)) → (order : Option ℕ) → (bytes : List ℕ) → Ending →
    (printed : List ℕ) → Type 0
IsTextSimulated text asked design level order bytes ends printed =
    IsTextSimulatedAt text asked design (level_asked_of text level) order bytes ends printed

-- ---- what is written before a fault

-- what was accepted is a front of the whole text for these bytes
pub record WritesTextFront (text : TextTree) (asked : Option (List ℕ)) (design : FlatDesign)
    (level : Option (List ℕ)) (order : Option ℕ) (bytes old new : List ℕ) : Type 0 where
  pub ends : Ending
  pub printed : List ℕ
  pub is : IsTextSimulated text asked design level order bytes ends printed
  pub front : WritesFront old printed new

-- what a stimulus has to know of a text
abbrev pub text_form : TextTree → (asked : Option (List ℕ)) → StimForm
text_form text asked = form_in dotted (text_system text asked)

-- These first bytes of a stimulus show no ending yet: no line of them is wrong, and they are within
-- the limit. What was accepted is the lines of all cycles that they let read.
pub record WritesTextCycles (text : TextTree) (asked level : Option (List ℕ))
    (bytes old new : List ℕ) : Type 0 where
  pub shown : Option (List ℕ)
  pub is_shown : level_asked_of text level ≡ Some shown
  pub read : LinesRead
  pub is_read : read ≡ read_front (text_form text asked) bytes
  pub right : read.wrong ≡ None
  pub few : length bytes ≤ largest_stimulus
  pub trace : List (Environment Path)
  pub traces : IsTraceFrom (text_system text asked) (start_of (text_form text asked) read.right)
      (cycles_of read.right) trace
  pub accepted : new ≡ old ++ lines_from dotted (text_system text asked) shown 0 trace

-- ---- laws

-- what is written of the design, as a whole or before a fault, is what is written of the text
pub record IsWrittenAlike (text : TextTree) (asked : Option (List ℕ)) (design : FlatDesign) :
    Type 0 where
  pub whole : (level : Option (List ℕ)) (order : Option ℕ) (bytes : List ℕ) (ends : Ending)
      (printed : List ℕ) → IsSimulated design level order bytes ends printed
      ↔ IsTextSimulated text asked design level order bytes ends printed
  pub front : (level : Option (List ℕ)) (order : Option ℕ) (bytes old new : List ℕ)
      → WritesFrontFor design level order bytes old new
      ↔ WritesTextFront text asked design level order bytes old new
  pub cycles : (level : Option (List ℕ)) (bytes old new : List ℕ)
      → WritesAllCycles design level bytes old new
      ↔ WritesTextCycles text asked level bytes old new

-- each stimulus has one text that is written, and one ending
abbrev pub HasOneWrittenText : TextTree → (asked : Option (List ℕ)) → FlatDesign → Type 0
HasOneWrittenText text asked design = (level : Option (List ℕ)) (order : Option ℕ) (bytes : List ℕ)
    → (ends : Ending) × (printed : List ℕ)
    × IsTextSimulated text asked design level order bytes ends printed
    × ((other : Ending) (others : List ℕ)
    → IsTextSimulated text asked design level order bytes other others
    → (other ≡ ends) × (others ≡ printed))
