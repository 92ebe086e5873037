use Rattle.std.proofs.Common.{◌≡◌, ◌+◌, ◌*◌, max, drop}
use Rattle.sv_ast.specs.declared.expressions.Expr.{size-Expr}
use Rattle.std.specs.Prelude.{IsTrue}
use Rattle.sv_system.proofs.Fronts.{before}
use Rattle.sv_ast.specs.Shape.{are_shaped_parts}
use Rattle.sv_ast.specs.Views.{expression_trees, parts_of}
use Rattle.sv_elab_rules.specs.ExpressionSteps.{asked_parts}
use Rattle.sv_width.specs.Measured.{measured_parts, more_parts}
use Rattle.sv_width.specs.Settings.{reach_names, is_constant}
use Rattle.sv_width.specs.Views.{measured_trees}
use Rattle.sv_width.proofs.measuring.+measuring.Given as goal

-- Each call goes down the expression, or it leaves it as it is and goes on to a function below it.

abbrev pub decreases-measured : goal.decreases-measured
decreases-measured l = 4 * size-Expr l.expr.now

abbrev pub decreases-measured_constant : goal.decreases-measured_constant
decreases-measured_constant l = 4 * size-Expr l.expr.now + 1

abbrev pub decreases-constant_index : goal.decreases-constant_index
decreases-constant_index l = 4 * size-Expr l.index.now + 1

abbrev pub decreases-measured_index : goal.decreases-measured_index
decreases-measured_index l = 4 * size-Expr l.index.now + 2

abbrev pub decreases-measured_bit : goal.decreases-measured_bit
decreases-measured_bit l = 4 * size-Expr l.index.now + 3

abbrev pub decreases-measured_part : goal.decreases-measured_part
decreases-measured_part l = 4 * max (size-Expr l.high.now) (size-Expr l.low.now) + 2

abbrev pub decreases-measured_unary : goal.decreases-measured_unary
decreases-measured_unary l = 4 * size-Expr l.operand.now + 1

abbrev pub decreases-measured_binary : goal.decreases-measured_binary
decreases-measured_binary l = 4 * max (size-Expr l.left.now) (size-Expr l.right.now) + 1

abbrev pub decreases-measured_choice : goal.decreases-measured_choice
decreases-measured_choice l =
    4 * max (size-Expr l.cond.now) (max (size-Expr l.yes.now) (size-Expr l.no.now)) + 1

abbrev pub decreases-measured_parts : goal.decreases-measured_parts
decreases-measured_parts l = 4 * goal.size-measured_parts l + 1

abbrev pub decreases-measured_join : goal.decreases-measured_join
decreases-measured_join l = 4 * goal.size-measured_join l + 2

abbrev pub decreases-measured_replication : goal.decreases-measured_replication
decreases-measured_replication l =
    let parts = goal.size-measured_join (record {
      alloc = l.alloc;
      place = l.place;
      parts = l.parts;
      reach = l.reach;
      the-lifetimes = l.the-lifetimes.1;
    }) in
    4 * max (size-Expr l.count.now) parts + 2

-- the expressions that are left are asked what all are, and are measured behind those so far
abbrev pub invariant-measured_parts-loop-expr : goal.invariant-measured_parts-loop-expr
invariant-measured_parts-loop-expr l = record {
  shaped : IsTrue (are_shaped_parts (parts_of (expression_trees (drop l.expr-index l.exprs))));
  asks : (asked_parts (reach_names l.reach) (is_constant l.reach.setting)
      (parts_of (expression_trees (drop l.expr-index l.exprs)))).end
      ≡ (asked_parts (reach_names l.reach) (is_constant l.reach.setting)
      (parts_of (expression_trees l.exprs))).end;
  gives : before more_parts (measured_trees l.operands.items)
      (measured_parts (reach_names l.reach)
      (parts_of (expression_trees (drop l.expr-index l.exprs))))
      ≡ measured_parts (reach_names l.reach) (parts_of (expression_trees l.exprs));
}
