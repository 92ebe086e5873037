-- Which obligations are ones of a design, whoever made them.
use Rattle.std.specs.Prelude.{◌≡◌, ◌<◌, ℕ, IsTrue, List, [], ◌∷◌, Option, Some, None, All, Contains}
use Rattle.sv_num.specs.declared.faults.Place.{Place}
use Rattle.sv_flat.specs.Design.{TypedTree, FlatDesign}
use Rattle.sv_flat.specs.Values.{signal_of}
use Rattle.sv_flat.specs.Soundness.{well_formed}
use Rattle.sv_flat.specs.Readings.{names_signal}
use Rattle.sv_flat.specs.Reads.{is_combinational}
use Rattle.sv_flat.specs.SignalLists.{system_signals, registers}
use Rattle.sv_obl.specs.declared.frames.Frame.{Frame}
use Rattle.sv_obl.specs.declared.frames.Frame.TheVariants.{Now, Next}
use Rattle.sv_obl.specs.Paths.{StepForm}
use Rattle.sv_flat.specs.Selectors.{selectors_of}
use Rattle.sv_obl.specs.Obligations.{GoalForm, flow, holds, selector, Obligation}

-- each number is below those after it
abbrev pub Ascends : List ℕ → Type 0
Ascends [] = Unit {0}
Ascends (n ∷ ns) = All (λ m. n < m) ns × Ascends ns

-- the expression is well formed, and names signals alone that are no clocks
pub record IsExpressionOf (design : FlatDesign) (e : TypedTree) : Type 0 where
  pub formed : IsTrue (well_formed design.signals e)
  pub names : (s : ℕ) → IsTrue (names_signal design.signals e s)
      → Contains (system_signals design) s

abbrev pub IsStepOf : FlatDesign → StepForm → Type 0
IsStepOf design step = IsExpressionOf design step.condition

-- a register's label is taken next, and that of a combinational signal now
abbrev pub IsTargetIn : FlatDesign → ℕ → Frame → Type 0
IsTargetIn design s Next = Contains (registers design) s
IsTargetIn design s Now = IsTrue (is_combinational design s)

-- an obligation asks of the label of a signal that it flows from one selector of it, on no path
pub record AsksSelector (design : FlatDesign) (o : Obligation) (s : ℕ) : Type 0 where
  pub read : ℕ
  pub selects : Contains (selectors_of (signal_of design.signals s).label) read
  pub reads : o.reads ≡ read ∷ []
  pub path : o.path ≡ []
  pub right : o.right ≡ None

abbrev pub IsGoalOf : FlatDesign → Obligation → GoalForm → Type 0
IsGoalOf design o (flow target frame) =
    Contains (system_signals design) target × IsTargetIn design target frame
IsGoalOf design o (holds e frame) = IsExpressionOf design e
IsGoalOf design o (selector s) = Contains (system_signals design) s × AsksSelector design o s

-- all signals in it are those of the design, clocks left out, and all expressions are well formed
pub record IsQueryOf (design : FlatDesign) (o : Obligation) : Type 0 where
  pub facts : All (IsExpressionOf design) o.facts
  pub path : All (IsStepOf design) o.path
  pub reads : All (Contains (system_signals design)) o.reads
  pub ascending : Ascends o.reads
  pub goal : IsGoalOf design o o.goal

-- an invariant's obligation has the place of the invariant
abbrev pub HasPlace : Option Place → GoalForm → Type 0
HasPlace (Some place) goal = Unit {0}
HasPlace None (holds e frame) = ⊥
HasPlace None goal = Unit {0}

abbrev pub IsPlaced : Obligation → Type 0
IsPlaced o = HasPlace o.right o.goal
