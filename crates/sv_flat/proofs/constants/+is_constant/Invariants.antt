use Rattle.std.proofs.Common.{◌≡◌, drop}
use Rattle.sv_flat.specs.Readings.{are_constant}
use Rattle.sv_flat.proofs.Parts.{trees}
use Rattle.sv_flat.proofs.constants.+is_constant.Given as goal

abbrev pub invariant-are_constant-loop-expr : goal.invariant-are_constant-loop-expr
invariant-are_constant-loop-expr l =
    are_constant (trees (drop l.expr-index l.exprs)) ≡ are_constant (trees l.exprs)
