use Rattle.std.proofs.Common.{◌≡◌, min, take}
use Rattle.std.specs.List.{sum_by}
use Rattle.sv_flat.specs.ByNumber.{signal_forms}
use Rattle.sv_flat.specs.Views.{typed_tree}
use Rattle.sv_obl.specs.declared.queries.PathStep.{PathStep}
use Rattle.sv_encoding.specs.Sizes.{truth_size}
use Rattle.sv_blast.proofs.sizes_of_expressions.conditions_size.Given as goal

-- the gates so far
abbrev pub invariant-loop-step : goal.invariant-loop-step
invariant-loop-step l =
    l.total ≡ min (sum_by
    (λ (s : PathStep). truth_size (signal_forms l.signals) (typed_tree s.cond))
    (take l.step-index l.path)) 4194305
