use Rattle.std.proofs.Common.{sym, ap, subst, ◌∙◌}
use Rattle.sv_flat.specs.ByNumber.{by_number}
use Rattle.sv_flat.specs.Views.{design_of}
use Rattle.sv_obl.specs.declared.queries.Goal.{Goal}
use Rattle.sv_obl.specs.DesignQueries.{IsGoalOf}
use Rattle.sv_obl.specs.Views.{obligation_of, goal_form}
use Rattle.sv_decide.specs.declared.failing.EvaluatedGoal.TheVariants.{Flow, Truth}
use Rattle.sv_decide.specs.Simulating.{asked_in}
use Rattle.sv_decide.proofs.AskedSignals.{goal_known}
use Rattle.sv_decide.proofs.failing.asked_by.Goals as goal

pub point_of-requires-clause-signal : goal.point_of-requires-clause-signal
point_of-requires-clause-signal c =
    goal_known c.args.design.now c.args.query.now c.requires.query _ (ap goal_form c.in-Flow.is)

pub point_of-requires-in-Selector-clause-signal : goal.point_of-requires-in-Selector-clause-signal
point_of-requires-in-Selector-clause-signal c =
    goal_known c.args.design.now c.args.query.now c.requires.query _ (ap goal_form c.in-Selector.is)

pub is_true-requires-clause-formed : goal.is_true-requires-clause-formed
is_true-requires-clause-formed c =
    (subst (IsGoalOf (design_of c.args.design.now) (obligation_of c.args.query.now))
    (ap goal_form c.in-Holds.is) c.requires.query.goal).formed

pub returns-in-Flow-clause-asked : goal.returns-in-Flow-clause-asked
returns-in-Flow-clause-asked c =
    ap Flow c.point_of.ensures.point
    ∙ sym (ap (λ (g : Goal). asked_in (design_of c.args.design.now) (by_number c.args.values.now)
    (goal_form g)) c.in-Flow.is)

pub returns-in-Holds-clause-asked : goal.returns-in-Holds-clause-asked
returns-in-Holds-clause-asked c =
    ap Truth c.is_true.ensures
    ∙ sym (ap (λ (g : Goal). asked_in (design_of c.args.design.now) (by_number c.args.values.now)
    (goal_form g)) c.in-Holds.is)

pub returns-in-Selector-clause-asked : goal.returns-in-Selector-clause-asked
returns-in-Selector-clause-asked c =
    ap Flow c.point_of-in-Selector.ensures.point
    ∙ sym (ap (λ (g : Goal). asked_in (design_of c.args.design.now) (by_number c.args.values.now)
    (goal_form g)) c.in-Selector.is)
