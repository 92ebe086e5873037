use Rattle.std.proofs.Common.{drop, map}
use Rattle.sv_obl.specs.Paths.{StepForm}
use Rattle.sv_obl.specs.Views.{step_form}
use Rattle.sv_graph.proofs.MarkFacts.{MarksSoFar}
use Rattle.sv_blast.specs.NamedMarks.{is_named_in}
use Rattle.sv_blast.proofs.cones.mark_conditions.Given as goal

abbrev pub invariant-loop-step : goal.invariant-loop-step
invariant-loop-step l =
    MarksSoFar l.initial.table l.table
    (is_named_in (map (λ (step : StepForm). step.condition) (map step_form l.path)))
    (is_named_in (map (λ (step : StepForm). step.condition)
    (map step_form (drop l.step-index l.path))))
