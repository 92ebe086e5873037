use Rattle.std.proofs.Common.{◌≡◌, ◌++◌, drop}
use Rattle.sv_flat.specs.Views.{typed_trees}
use Rattle.sv_flat.proofs.expressions.+expression_copy.Given as goal

-- the copies so far and the expressions that are left have the plain forms of all
abbrev pub invariant-copies-loop-expr : goal.invariant-copies-loop-expr
invariant-copies-loop-expr l =
    typed_trees l.copies.items ++ typed_trees (drop l.expr-index l.exprs) ≡ typed_trees l.exprs
