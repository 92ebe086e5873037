-- Private: how the code goes. Which environment a frame has, what a goal asks there, and whether
-- values show that an obligation fails.
use Rattle.std.specs.Prelude.{ℕ, ◌<◌, Bool, ◌&&◌, not, List, length}
use Rattle.std.specs.Bool.{beq}
use Rattle.std.specs.List.{list_all, list_any}
use Rattle.sv_system.specs.System.{Environment}
use Rattle.sv_system.specs.Schedules.{IsTheSettled}
use Rattle.sv_flat.specs.Design.{FlatDesign}
use Rattle.sv_flat.specs.FlatSystem.{flat_system}
use Rattle.sv_obl.specs.declared.frames.Frame.{Frame}
use Rattle.sv_obl.specs.Obligations.{GoalForm, flow, holds as must_hold, selector, Obligation}
use Rattle.sv_obl.specs.Paths.{StepForm}
use Rattle.sv_obl.specs.PathValues.{is_true_in}
use Rattle.sv_obl.specs.Validity.{Valuation, IsInFrame}
use Rattle.sv_decide.specs.declared.failing.EvaluatedGoal.{EvaluatedGoal}
use Rattle.sv_decide.specs.declared.failing.EvaluatedGoal.TheVariants.{Flow, Truth}

-- the environment is that of a frame, after the one settled environment of a valuation
pub record IsOfFrame (design : FlatDesign) (v : Valuation) (frame : Frame) (there : Environment ℕ)
    : Type 0 where
  pub now : Environment ℕ
  pub settled : IsTheSettled (flat_system design) v.registers v.inputs now
  pub in_frame : IsInFrame design v now frame there

-- what a goal asks of the environment of its frame
abbrev pub asked_in : FlatDesign → (there : Environment ℕ) → GoalForm → EvaluatedGoal
asked_in design there (flow target frame) = Flow ((flat_system design).label target there)
asked_in design there (must_hold e frame) = Truth (is_true_in design.signals there e)
asked_in design there (selector s) = Flow ((flat_system design).label s there)

-- a point that is asked for is one of the lattice
abbrev pub IsAskable : FlatDesign → EvaluatedGoal → Type 0
IsAskable design (Flow point) = point.0 < length design.lattice
IsAskable design (Truth holds) = Unit {0}

-- the label of some read does not flow to the point, or what is to be true is not
abbrev pub fails_by : FlatDesign → (reads : List ℕ) → (now : Environment ℕ) → EvaluatedGoal → Bool
fails_by design reads now (Flow point) =
    list_any (λ t. not ((flat_system design).flows ((flat_system design).label t now) point)) reads
fails_by design reads now (Truth holds) = not holds

-- no fact is 0, the path is taken, and a goal that asks this fails
abbrev pub shows_failing : FlatDesign → Obligation → (now : Environment ℕ) → EvaluatedGoal → Bool
shows_failing design o now asked =
    list_all (is_true_in design.signals now) o.facts
    && list_all (λ (step : StepForm).
    beq (is_true_in design.signals now step.condition) step.truth) o.path
    && fails_by design o.reads now asked
