-- The plain forms of obligations, and of the pieces of an assignment: signals by their numbers,
-- expressions as trees.
use Rattle.std.specs.Prelude.{ℕ, ◌<◌, List, map, All}
use Rattle.sv_flat.specs.declared.signals.SigId.{SigId}
use Rattle.sv_flat.specs.declared.statements.Piece.{Piece}
use Rattle.sv_flat.specs.Design.{PieceForm}
use Rattle.sv_flat.specs.Views.{typed_tree, piece_form}
use Rattle.sv_obl.specs.declared.queries.PathStep.{PathStep}
use Rattle.sv_obl.specs.declared.queries.Goal.{Goal}
use Rattle.sv_obl.specs.declared.queries.Goal.TheVariants as goal
use Rattle.sv_obl.specs.declared.queries.Query.{Query}
use Rattle.sv_obl.specs.Paths.{StepForm}
use Rattle.sv_obl.specs.Obligations.{GoalForm, flow, holds, selector, Obligation}

abbrev pub step_form : PathStep → StepForm
step_form s = record { place = s.place; condition = typed_tree s.cond; truth = s.truth }

abbrev pub goal_form : Goal → GoalForm
goal_form (goal.Flow target frame) = flow target.0 frame
goal_form (goal.Holds expr frame) = holds (typed_tree expr) frame
goal_form (goal.Selector signal) = selector signal.0

abbrev pub number_of : SigId → ℕ
number_of s = s.0

abbrev pub obligation_of : Query → Obligation
obligation_of q = record {
  facts = map typed_tree q.facts.items;
  path = map step_form q.path.items;
  right = q.right;
  reads = map number_of q.reads.items;
  goal = goal_form q.goal;
}

-- the signals of a goal are among so many
abbrev pub IsGoalAmong : ℕ → GoalForm → Type 0
IsGoalAmong count (flow target frame) = target < count
IsGoalAmong count (holds e frame) = Unit {0}
IsGoalAmong count (selector s) = s < count

-- the signals that an obligation names in its line are among so many
pub record IsAmong (count : ℕ) (o : Obligation) : Type 0 where
  pub reads : All (λ s. s < count) o.reads
  pub goal : IsGoalAmong count o.goal

abbrev pub piece_forms : List Piece → List PieceForm
piece_forms pieces = map piece_form pieces
