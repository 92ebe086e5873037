use Rattle.sv_parse_expr.proofs.ReadingOperators.{operator_is}
use Rattle.sv_parse_expr.proofs.ReadingRuns.{other_operator}
use Rattle.sv_parse_expr.proofs.operators.operator_at.Goals as goal

pub returns-then-is_same-clause-is : goal.returns-then-is_same-clause-is
returns-then-is_same-clause-is c =
    λ bytes. operator_is _ _ _ _ _ (c.is_same.ensures.is c.if-is_same.true)
    (c.in_ok-found.ensures.is bytes)

pub returns-else-is_same-clause-none : goal.returns-else-is_same-clause-none
returns-else-is_same-clause-none c =
    λ bytes. other_operator _ _ _ _ _ (c.is_same.ensures.other c.if-is_same.false)
    (c.in_ok-found.ensures.is bytes)
