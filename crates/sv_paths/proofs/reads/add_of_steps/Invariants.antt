use Rattle.std.proofs.Common.{◌≡◌, [], drop, map, flat_map, fold, nat_cmp}
use Rattle.std.specs.BTreeSet.{insert_key}
use Rattle.sv_obl.specs.Paths.{StepForm}
use Rattle.sv_obl.specs.Routes.{names_in}
use Rattle.sv_paths.specs.RouteViews.{step_ref_form}
use Rattle.sv_paths.proofs.reads.add_of_steps.Given as goal

-- the names that are left, put into the set, give what all give
abbrev pub invariant-loop-step : goal.invariant-loop-step
invariant-loop-step l =
    let names = λ (step : StepForm). names_in [] step.condition in
    fold (insert_key nat_cmp) l.names.keys
    (flat_map names (map step_ref_form (drop l.step-index l.steps)))
    ≡ fold (insert_key nat_cmp) l.initial.names.keys (flat_map names (map step_ref_form l.steps))
