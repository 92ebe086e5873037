use Rattle.sv_parse_expr.proofs.ReadingExpressions.{expression_from}
use Rattle.sv_parse_expr.proofs.Halting.{passed}
use Rattle.sv_parse_expr.proofs.ReadingRuns.{expression_read, expression_stops}
use Rattle.sv_parse_expr.proofs.expressions.read_expression.Goals as goal

pub returns-clause-is : goal.returns-clause-is
returns-clause-is c =
    expression_from c.args.input.bytes.now c.args.levels _ _ _ c.args.input.rest.now
    c.in_ok-expr.rest.now
    c.of-room.ensures.levels c.of-room.ensures.beyond c.in_ok-expr.ensures.counted
    c.in_ok-expr.ensures.is

pub returns-clause-reads : goal.returns-clause-reads
returns-clause-reads c =
    expression_read c.args.input.bytes.now c.args.input.rest.now c.in_ok-expr.rest.now
    c.of-room.result.beyond
    c.args.levels c.of-room.result.levels c.of-room.ensures.levels c.of-room.ensures.beyond
    c.in_ok-expr.ensures.reads

pub returns-in_err-expr-clause-halts : goal.returns-in_err-expr-clause-halts
returns-in_err-expr-clause-halts c =
    passed _ _ _ c.from_residual.ensures.1
    (expression_stops c.args.input.bytes.now c.args.input.rest.now c.of-room.result.beyond
    c.args.levels c.of-room.result.levels _ c.of-room.ensures.levels c.of-room.ensures.beyond
    c.in_err-expr.ensures.halts)
