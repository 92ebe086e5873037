use Rattle.std.proofs.Common.{arith}
use Rattle.sv_io.proofs.Repeating.{past_line}
use Rattle.sv_io.proofs.large.RepeatSource.pass_column.Goals as goal

pub returns-then-column-len-clause-left : goal.returns-then-column-len-clause-left
returns-then-column-len-clause-left c =
    let s = c.args.self.now in
    past_line s.head.items s.line.items s.at s.lines s.column (omega (arith, s.head.ok, c.requires))
    (omega (arith, c.requires))
    (omega (arith, s.line.ok, c.if-column-len.true, c.len.ensures))
