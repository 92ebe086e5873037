-- When a valuation falsifies an obligation of a flat design for the source text that the design
-- stands for: by environments of the text's own system, and labels in the source's own words
-- (SecVerilog, ASPLOS 2015).
use Rattle.std.specs.Prelude.{◌≡◌, ℕ, ◌<◌, IsFalse, List, length, map, position, Contains, Option}
use Rattle.std.specs.Prelude.{Some, unwrap_or}
use Rattle.std.specs.List.{slice_get}
use Rattle.sv_system.specs.System.{Environment, Settled}
use Rattle.sv_ast.specs.Meaning.{label_in}
use Rattle.sv_ast.specs.Parts.{Path, same_path, PartSignal, signal_path}
use Rattle.sv_ast.specs.SourceLabels.{Flows}
use Rattle.sv_ast.specs.TextSystem.{text_system}
use Rattle.sv_ast.specs.Tree.{TextTree}
use Rattle.sv_flat.specs.Design.{FlatDesign}
use Rattle.sv_obl.specs.declared.frames.Frame.{Frame}
use Rattle.sv_obl.specs.declared.frames.Frame.TheVariants.{Now, Next}
use Rattle.sv_obl.specs.declared.valuations.Valuation.{Valuation as Listed}
use Rattle.sv_obl.specs.Obligations.{GoalForm, flow, holds, selector, Obligation}
use Rattle.sv_obl.specs.PathValues.{is_true_in, Holds}
use Rattle.sv_obl.specs.Validity.{Valuation, MeetsFacts, goal_frame}
use Rattle.sv_elab_laws.specs.SideBySide.{text_signals, path_at}
use Rattle.sv_sim_run.specs.Traces.{inputs_in, registers_in}

-- ---- values by paths and by numbers

-- the number of the signal at a path
abbrev pub number_of : List PartSignal → Path → ℕ
number_of signals x = unwrap_or (position (same_path x) (map signal_path signals)) 0

-- values by numbers as values by paths
abbrev pub by_path : List PartSignal → Environment ℕ → Environment Path
by_path signals values x = values (number_of signals x)

-- each signal has the same value under both names
abbrev pub SameValues : List PartSignal → Environment ℕ → Environment Path → Type 0
SameValues signals e g = (k : ℕ) → k < length signals → e k ≡ g (path_at signals k)

-- ---- what falsifies

-- an environment by paths, and the same by numbers
pub record Both : Type 0 where
  pub paths : Environment Path
  pub numbers : Environment ℕ

-- the environment of a frame: that of this cycle, or one that the next cycle's inputs settle to
abbrev pub IsInTextFrame : TextTree → (asked : Option (List ℕ)) → Valuation → (now : Both) → Frame
    → Both → Type 0
IsInTextFrame text asked v now Now there = there ≡ now
IsInTextFrame text asked v now Next there =
    Settled (text_system text asked) ((text_system text asked).next now.paths)
    (by_path (text_signals text asked) v.next_inputs) there.paths

-- in this text declared pairs do not lead from the label of some read to that of the signal there
pub record SomeStaysInText (text : TextTree) (signals : List PartSignal) (reads : List ℕ)
    (now : Environment Path) (s : ℕ) (there : Environment Path) : Type 0 where
  pub read : ℕ
  pub among : Contains reads read
  pub from : PartSignal
  pub from_at : slice_get signals read ≡ Some from
  pub to : PartSignal
  pub to_at : slice_get signals s ≡ Some to
  pub stays : Flows text (label_in text now from) (label_in text there to) → ⊥

-- the goal fails, its own label being taken there
abbrev pub GoalFailsInText : TextTree → List PartSignal → FlatDesign → (reads : List ℕ) →
    (now there : Both) → GoalForm → Type 0
GoalFailsInText text signals design reads now there (flow target frame) =
    SomeStaysInText text signals reads now.paths target there.paths
GoalFailsInText text signals design reads now there (holds e frame) =
    IsFalse (is_true_in design.signals there.numbers e)
GoalFailsInText text signals design reads now there (selector s) =
    SomeStaysInText text signals reads now.paths s there.paths

-- The text's own cycle of the valuation: in it, by numbers, the facts are met and the path is
-- taken, and the goal fails by the labels of the text.
pub record FalsifiesText (text : TextTree) (asked : Option (List ℕ)) (design : FlatDesign)
    (v : Valuation) (o : Obligation) : Type 0 where
  pub now : Both
  pub there : Both
  pub same_now : SameValues (text_signals text asked) now.numbers now.paths
  pub same_there : SameValues (text_signals text asked) there.numbers there.paths
  pub settled : Settled (text_system text asked)
      (by_path (text_signals text asked) v.registers) (by_path (text_signals text asked) v.inputs)
      now.paths
  pub in_frame : IsInTextFrame text asked v now (goal_frame o.goal) there
  pub facts : MeetsFacts design o.facts now.numbers
  pub path : Holds design.signals now.numbers o.path
  pub fails : GoalFailsInText text (text_signals text asked) design o.reads now there o.goal

-- ---- values in lists

-- in the text's own order each register, and each input in its cycle, has its listed value
pub record HasListed (text : TextTree) (asked : Option (List ℕ)) (listed : Listed)
    (v : Valuation) : Type 0 where
  pub registers : map (by_path (text_signals text asked) v.registers)
      (registers_in (text_system text asked)) ≡ listed.regs.items
  pub inputs : map (by_path (text_signals text asked) v.inputs)
      (inputs_in (text_system text asked)) ≡ listed.inputs.items
  pub next_inputs : map (by_path (text_signals text asked) v.next_inputs)
      (inputs_in (text_system text asked)) ≡ listed.next_inputs.items

-- Values in lists, one for each register and each input of the text: a valuation that has them
-- falsifies the obligation.
pub record ListsFalsifyText (text : TextTree) (asked : Option (List ℕ)) (design : FlatDesign)
    (listed : Listed) (o : Obligation) : Type 0 where
  pub valuation : Valuation
  pub has : HasListed text asked listed valuation
  pub falsifies : FalsifiesText text asked design valuation o
