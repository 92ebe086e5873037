use Rattle.sv_parse_expr.proofs.ReadingRuns.{other_precedence}
use Rattle.sv_parse_expr.proofs.operators.binary_of.Goals as goal

pub returns-else-found-precedence-clause-none : goal.returns-else-found-precedence-clause-none
returns-else-found-precedence-clause-none c = λ bytes.
    other_precedence _ _ c.in_ok-op.found c.args.precedence _ _ c.in_ok-op.ensures.precedence
    c.if-found-precedence.false (c.in_ok-op.ensures.is bytes)
