use Rattle.std.proofs.Common.{◌+◌, arith}
use Rattle.sv_parse_expr.proofs.Halting.{passed}
use Rattle.sv_parse_expr.proofs.ReadingRuns.{stops_too_deep, stops_too_long}
use Rattle.sv_parse_expr.proofs.room.Room.opened.Goals as goal

pub returns-in_err-levels-clause-halts : goal.returns-in_err-levels-clause-halts
returns-in_err-levels-clause-halts c = λ bytes start s xs same row.
    passed _ _ _ c.from_residual.ensures.1
    (stops_too_deep bytes c.args.tokens.now start s (c.args.self.levels + 1) xs _ row
    c.in_err-levels.ensures.deep c.in_err-levels.ensures.stops)

pub returns-in_err-count-clause-halts : goal.returns-in_err-count-clause-halts
returns-in_err-count-clause-halts c = λ bytes start s xs same row.
    passed _ _ _ c.from_residual-in_err-count.ensures.1
    (stops_too_long bytes c.args.tokens.now start c.args.self.beyond s (c.args.self.levels + 1)
    xs _ same
    (omega (arith, c.in_ok-levels.ensures.is, c.in_ok-levels.ensures.within)) row
    c.in_err-count.ensures.long c.in_err-count.ensures.stops)
