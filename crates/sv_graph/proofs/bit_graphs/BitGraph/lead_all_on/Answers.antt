use Rattle.std.proofs.Common.{◌≡◌, subst, arith}
use Rattle.sv_graph.specs.BitGraphs.{in_row, size, has_edge, IsOver}
use Rattle.sv_graph.proofs.BitRows.{LedSoFar, led_begins, led_more, led_ends}
use Rattle.sv_graph.proofs.bit_graphs.BitGraph.lead_all_on.Goals as goal

pub loop-from-init : goal.loop-from-init
loop-from-init c = (
  c.requires.over,
  led_begins (has_edge c.args.self.now) c.args.middle.0 (in_row c.args.targets.now),
)

pub loop-from-preserved : goal.loop-from-preserved
loop-from-preserved c = (
  subst (λ n. IsOver n c.lead_on.new.self) c.loop-from.invariant.0.0 c.lead_on.ensures.over,
  led_more (has_edge c.args.self.now) (has_edge c.loop-from.self) (has_edge c.lead_on.new.self)
      c.args.middle.0 c.loop-from.from (in_row c.args.targets.now) c.loop-from.invariant.1
      c.lead_on.ensures.gains,
)

pub returns-clause-gains : goal.returns-clause-gains
returns-clause-gains c =
    let old = c.args.self.now in
    let end : c.loop-from.from ≡ size old =
    (let most = c.loop-from.auto.from-end in omega (arith, c.loop-from-test.false, c.len-from-end.ensures)) in
    led_ends old (has_edge c.loop-from.self) c.args.middle.0 (in_row c.args.targets.now)
    (subst (LedSoFar (has_edge old) (has_edge c.loop-from.self) c.args.middle.0
    (in_row c.args.targets.now)) end c.loop-from.invariant.1)
