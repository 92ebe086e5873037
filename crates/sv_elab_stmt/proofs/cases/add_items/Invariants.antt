use Rattle.std.proofs.Common.{◌≡◌, true, ◌++◌, drop}
use Rattle.std.specs.List.{list_all}
use Rattle.sv_ast.specs.Shape.{is_shaped_expression}
use Rattle.sv_ast.specs.Views.{expression_trees}
use Rattle.sv_width.specs.Scopes.{names_of}
use Rattle.sv_elab_stmt.specs.Cases.{item_trees, AreItems}
use Rattle.sv_elab_stmt.proofs.cases.add_items.Given as goal

-- the items so far and the expressions that are left are those of before and all expressions
abbrev pub invariant-loop-expr : goal.invariant-loop-expr
invariant-loop-expr l = record {
  added : item_trees l.items.items ++ expression_trees (drop l.expr-index l.exprs)
      ≡ item_trees l.initial.items.items ++ expression_trees l.exprs;
  each : AreItems (names_of l.scope) l.initial.items.items →
      AreItems (names_of l.scope) l.items.items;
  shaped : list_all is_shaped_expression (expression_trees (drop l.expr-index l.exprs)) ≡ true;
}
