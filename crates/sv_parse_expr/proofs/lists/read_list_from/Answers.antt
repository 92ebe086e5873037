use Rattle.std.proofs.Common.{arith}
use Rattle.sv_parse_expr.proofs.ReadingLists.{open_more, open_end, pushed_open, pushed_later}
use Rattle.sv_parse_machine.proofs.ReadSteps.{reads_then}
use Rattle.sv_parse_expr.proofs.Halting.{passed, stops_then}
use Rattle.sv_parse_expr.proofs.ReadingRuns.{then_read, then_stop}
use Rattle.sv_parse_expr.proofs.lists.read_list_from.Goals as goal

pub loop-after-preserved : goal.loop-after-preserved
loop-after-preserved g c =
    let next = c.in_ok-next.ensures in
    record {
      are = pushed_open _ _ g.M.Listed.tree _ _ _ _ _ _ _ _ c.in_ok-push.ensures.items
          (open_more _ _ _ _ _ _ _ _ _ _ c.loop-after.invariant.are
          (c.in-Some.ensures.is c.args.input.bytes.now) next.is);
      shorter = omega (arith, next.shorter, c.in-Some.ensures.one, c.loop-after.invariant.shorter);
      reads = λ more on.
          reads_then more more more _ _ _ (c.loop-after.invariant.reads more on)
          (then_read more (g.M.Listed.next c.args.levels) more _ _ _
          (on.comma _ _ (c.in-Some.ensures.is c.args.input.bytes.now)) next.reads);
    }

pub returns-clause-is : goal.returns-clause-is
returns-clause-is g c =
    pushed_later _ _ g.M.Listed.tree _ _ _ _ _ _ _ c.in_ok-push-2.ensures.items
    (open_end _ _ _ _ _ _ _ c.loop-after.invariant.are)

pub returns-in_err-next-clause-halts : goal.returns-in_err-next-clause-halts
returns-in_err-next-clause-halts g c = λ more on.
    passed _ _ _ c.from_residual.ensures.1
    (stops_then more more _ _ _ (c.loop-after.invariant.reads more on)
    (then_stop more (g.M.Listed.next c.args.levels) more _ _ _
    (on.comma _ _ (c.in-Some.ensures.is c.args.input.bytes.now)) c.in_err-next.ensures.halts))
