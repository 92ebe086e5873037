use Rattle.std.proofs.Common.{◌-◌, arith}
use Rattle.sv_event.specs.Seen.{stands_once}
use Rattle.sv_event.proofs.SeenFacts.{block_fails, block_passes, all_pass_below}
use Rattle.sv_event.proofs.orders.has_each_once.Goals as goal

pub returns-then-not-has_block_once : goal.returns-then-not-has_block_once
returns-then-not-has_block_once c =
    block_fails (stands_once c.args.order.now) c.args.count c.loop-first.first c.min-size.result
    c.has_block_once.result (omega (arith, c.min-size.ensures, c.loop-first-test.true))
    c.has_block_once.ensures c.if-not-has_block_once.true

pub loop-first-preserved : goal.loop-first-preserved
loop-first-preserved c = (
  omega (arith, c.min-size.ensures, c.loop-first-test.true),
  block_passes (stands_once c.args.order.now) c.loop-first.first c.min-size.result
      c.has_block_once.result c.has_block_once.ensures c.if-not-has_block_once.false
      c.loop-first.invariant.1,
)

pub returns : goal.returns
returns c =
    all_pass_below (stands_once c.args.order.now) c.args.count c.loop-first.first
    c.loop-first-test.false c.loop-first.invariant.1
