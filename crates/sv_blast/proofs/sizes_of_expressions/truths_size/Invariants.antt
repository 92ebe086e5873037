use Rattle.std.proofs.Common.{◌≡◌, min, take}
use Rattle.std.specs.List.{sum_by}
use Rattle.sv_flat.specs.ByNumber.{signal_forms}
use Rattle.sv_flat.specs.declared.expressions.FExpr.{FExpr}
use Rattle.sv_flat.specs.Views.{typed_tree}
use Rattle.sv_encoding.specs.Sizes.{truth_size}
use Rattle.sv_blast.proofs.sizes_of_expressions.truths_size.Given as goal

-- the gates so far
abbrev pub invariant-loop-expr : goal.invariant-loop-expr
invariant-loop-expr l =
    l.total ≡ min (sum_by (λ (e : FExpr). truth_size (signal_forms l.signals) (typed_tree e))
    (take l.expr-index l.exprs)) 4194305
