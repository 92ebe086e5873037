use Rattle.std.proofs.Common.{◌≡◌, drop}
use Rattle.sv_ast.specs.Views.{expression_trees, parts_of}
use Rattle.sv_elab_rules.specs.TypedExpressions.{some_names_signal}
use Rattle.sv_width.specs.Scopes.{bindings_of}
use Rattle.sv_width.proofs.lookups.+naming.Given as goal

-- the answer is that of the expressions that are left
abbrev pub invariant-some_name_signal-loop-expr : goal.invariant-some_name_signal-loop-expr
invariant-some_name_signal-loop-expr l =
    some_names_signal (bindings_of l.scope)
    (parts_of (expression_trees (drop l.expr-index l.exprs)))
    ≡ some_names_signal (bindings_of l.scope) (parts_of (expression_trees l.exprs))
