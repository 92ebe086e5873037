-- When an obligation is valid: no values of registers and inputs falsify it (SecVerilog, ASPLOS
-- 2015).
use Rattle.std.specs.Prelude.{◌≡◌, ℕ, IsTrue, IsFalse, List, All, Contains}
use Rattle.sv_system.specs.System.{Environment, Settled}
use Rattle.sv_flat.specs.Design.{TypedTree, FlatDesign}
use Rattle.sv_flat.specs.FlatSystem.{flat_system}
use Rattle.sv_obl.specs.declared.frames.Frame.{Frame}
use Rattle.sv_obl.specs.declared.frames.Frame.TheVariants.{Now, Next}
use Rattle.sv_obl.specs.PathValues.{is_true_in, Holds}
use Rattle.sv_obl.specs.Obligations.{GoalForm, flow, holds, selector, Obligation, obligations}

-- values of the registers, of the inputs, and of the next cycle's inputs
pub record Valuation : Type 0 where
  pub registers : Environment ℕ
  pub inputs : Environment ℕ
  pub next_inputs : Environment ℕ

-- no fact is 0
abbrev pub MeetsFacts : FlatDesign → (facts : List TypedTree) → Environment ℕ → Type 0
MeetsFacts design facts environment =
    All (λ fact. IsTrue (is_true_in design.signals environment fact)) facts

-- the cycle in which the goal's own label is taken
abbrev pub goal_frame : GoalForm → Frame
goal_frame (flow target frame) = frame
goal_frame (holds e frame) = frame
goal_frame (selector s) = Now

-- the environment of a frame: that of this cycle, or one that the next cycle's inputs settle to
abbrev pub IsInFrame : FlatDesign → Valuation → (now : Environment ℕ) → Frame →
    Environment ℕ → Type 0
IsInFrame design v now Now there = there ≡ now
IsInFrame design v now Next there =
    Settled (flat_system design) ((flat_system design).next now) v.next_inputs there

-- the label of some read does not flow to the label of the signal there
abbrev pub SomeStays : FlatDesign → (reads : List ℕ) → (now : Environment ℕ) → (signal : ℕ) →
    Environment ℕ → Type 0
SomeStays design reads now s there =
    let system = flat_system design in
    (t : ℕ) × Contains reads t × IsFalse (system.flows (system.label t now) (system.label s there))

-- the goal fails, its own label being taken there
abbrev pub GoalFails : FlatDesign → (reads : List ℕ) → (now there : Environment ℕ) →
    GoalForm → Type 0
GoalFails design reads now there (flow target frame) = SomeStays design reads now target there
GoalFails design reads now there (holds e frame) = IsFalse (is_true_in design.signals there e)
GoalFails design reads now there (selector s) = SomeStays design reads now s there

-- the cycle of the valuation meets the facts, takes the path, and fails the goal
pub record Falsifies (design : FlatDesign) (v : Valuation) (o : Obligation) : Type 0 where
  pub now : Environment ℕ
  pub there : Environment ℕ
  pub settled : Settled (flat_system design) v.registers v.inputs now
  pub in_frame : IsInFrame design v now (goal_frame o.goal) there
  pub facts : MeetsFacts design o.facts now
  pub path : Holds design.signals now o.path
  pub fails : GoalFails design o.reads now there o.goal

abbrev pub IsValid : FlatDesign → Obligation → Type 0
IsValid design o = (v : Valuation) → Falsifies design v o → ⊥

-- with these facts in them, all obligations of the design are valid
abbrev pub AllValid : (facts : List TypedTree) → FlatDesign → Type 0
AllValid facts design = All (IsValid design) (obligations facts design)
