-- How many rounds an order takes of a text's own processes, over a stimulus that was read (this
-- project's profile).
use Rattle.std.specs.Prelude.{◌≡◌, ℕ, List, map, Option, Some, None}
use Rattle.sv_system.specs.System.{Environment}
use Rattle.sv_ast.specs.Parts.{Path}
use Rattle.sv_ast.specs.TextSystem.{text_system}
use Rattle.sv_ast.specs.Tree.{TextTree}
use Rattle.sv_elab_laws.specs.Rounds.{TextRounds}
use Rattle.sv_trace.specs.Stimulus.{LinesRead, start_of, cycles_of}
use Rattle.sv_sim_run.specs.Traces.{inputs_in, registers_in}
use Rattle.sv_run_laws.specs.SimulatedTexts.{text_form}

-- an ordered run of the text's own processes from these starting values, over these values of the
-- inputs in each cycle, takes so many rounds; both are given in signal order
pub record RunsTextInOrder (text : TextTree) (asked : Option (List ℕ)) (number : ℕ)
    (start : List ℕ) (cycles : List (List ℕ)) (rounds : ℕ) : Type 0 where
  pub state : Environment Path
  pub inputs : List (Environment Path)
  pub started : map state (registers_in (text_system text asked)) ≡ start
  pub given : map (λ values. map values (inputs_in (text_system text asked))) inputs ≡ cycles
  pub runs : TextRounds text asked number state inputs rounds

-- how many rounds the order asked for takes, over the cycles that were read
abbrev pub AreTextRounds : TextTree → (asked : Option (List ℕ)) → (order : Option ℕ) → LinesRead
    → (rounds : Option ℕ) → Type 0
AreTextRounds text asked None read rounds = rounds ≡ None
AreTextRounds text asked (Some number) read rounds =
    (count : ℕ) × (rounds ≡ Some count)
    × RunsTextInOrder text asked number (start_of (text_form text asked) read.right)
    (cycles_of read.right) count
