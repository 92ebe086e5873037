use Rattle.std.proofs.Common.{[]}
use Rattle.sv_parse_expr.proofs.Halting.{passed, stops_by}
use Rattle.sv_parse_expr.proofs.ReadingRuns.{closing_read, closing_halts, sign_takes}
use Rattle.sv_parse_expr.proofs.room.Room.expect.Goals as goal

pub returns-clause-reads : goal.returns-clause-reads
returns-clause-reads c = λ bytes start s same closes.
    closing_read bytes _ _ start c.args.self.beyond s c.args.sign same c.in_ok-count.ensures.counted
    closes (c.in_ok-rest.ensures.is bytes)

pub returns-in_err-rest-clause-halts : goal.returns-in_err-rest-clause-halts
returns-in_err-rest-clause-halts c = λ bytes start s same closes.
    passed _ _ _ c.from_residual.ensures.1
    (stops_by bytes c.args.tokens.now _ _ _ (λ none.
    closing_halts start s c.args.sign _ closes none) (c.in_err-rest.ensures.stops bytes))

pub returns-in_err-count-clause-halts : goal.returns-in_err-count-clause-halts
returns-in_err-count-clause-halts c = λ bytes start s same closes.
    passed _ _ _ c.from_residual-in_err-count.ensures.1
    (c.in_err-count.ensures.halts bytes start s [] same
    (sign_takes s 0 [] c.args.sign _ _ closes.taken (c.in_ok-rest.ensures.is bytes)))
