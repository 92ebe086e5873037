-- The signals that an obligation of a design names are those of the design.
use Rattle.std.proofs.Common.{ℕ, ◌<◌, not, length}
use Rattle.std.specs.Prelude.{Contains}
use Rattle.sv_flat.specs.Design.{FlatDesign}
use Rattle.sv_flat.specs.SignalLists.{system_signals}
use Rattle.sv_flat.specs.Clocks.{is_clock}
use Rattle.sv_flat.proofs.LeastSets.{those_below}
use Rattle.sv_obl.specs.Obligations.{GoalForm, flow, holds, selector, Obligation}
use Rattle.sv_obl.specs.Views.{IsGoalAmong, IsAmong}
use Rattle.sv_obl.specs.DesignQueries.{IsGoalOf, IsQueryOf}
use Rattle.sv_flat.proofs.Members.{contained_all, all_contained}

-- ---- what a line names

module _ (design : FlatDesign) where
  seen_below : (s : ℕ) → Contains (system_signals design) s → s < length design.signals
  seen_below s at =
      those_below (length design.signals) (λ z. not (is_clock design z)) s at

  goal_among : (o : Obligation) (g : GoalForm) → IsGoalOf design o g →
      IsGoalAmong (length design.signals) g
  goal_among o (flow target frame) is = seen_below target is.0
  goal_among o (holds e frame) is = tt
  goal_among o (selector s) is = seen_below s is.0

  pub query_among : (o : Obligation) → IsQueryOf design o → IsAmong (length design.signals) o
  query_among o is = record {
    reads = contained_all (λ s. s < length design.signals) o.reads (λ s at.
        seen_below s (all_contained (Contains (system_signals design)) o.reads is.reads s at));
    goal = goal_among o o.goal is.goal;
  }
