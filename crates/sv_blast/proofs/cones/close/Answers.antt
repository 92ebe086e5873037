use Rattle.std.proofs.Common.{◌-◌, ◌∙◌, subst, arith}
use Rattle.sv_flat.specs.Views.{design_of}
use Rattle.sv_graph.specs.Marks.{is_marked}
use Rattle.sv_blast.proofs.ClosedCones.{IsClosedBut, order_below, pass_begins, pass_goes_on}
use Rattle.sv_blast.proofs.ClosedCones.{pass_ends}
use Rattle.sv_blast.proofs.cones.close.Goals as goal

pub loop-left-init : goal.loop-left-init
loop-left-init c =
    let signals = c.order-order.result.now in
    let order = c.order-order.ensures in (
      omega arith,
      λ starts below marks.
          pass_begins c.args.design.now order.design signals order.order starts below
          c.args.table.now marks,
    )

pub bring_reads-requires : goal.bring_reads-requires
bring_reads-requires c =
    let order = c.order-order.ensures in
    let some = c.loop-left-test.true in
    let within = c.loop-left.invariant.0 in
    order_below c.args.design.now order.design c.order-order.result.now order.order
    (c.loop-left.left - 1) (omega arith)

pub loop-left-preserved : goal.loop-left-preserved
loop-left-preserved c =
    let order = c.order-order.ensures in
    let some = c.loop-left-test.true in
    let within = c.loop-left.invariant.0 in
    let left = c.loop-left.left - 1 in (
      omega arith,
      λ starts below marks.
          pass_goes_on c.args.design.now order.design c.order-order.result.now order.order starts
          below c.loop-left.table c.bring_reads.new.table left (omega arith)
          (c.loop-left.auto.table ∙ c.requires) c.bring_reads.ensures
          (subst (λ k. IsClosedBut (design_of c.args.design.now) starts k
          (is_marked c.loop-left.table)) (omega arith) (c.loop-left.invariant.1 starts below marks)),
    )

pub returns-clause-marked : goal.returns-clause-marked
returns-clause-marked c =
    let order = c.order-order.ensures in
    let none = c.loop-left-test.false in
    λ starts below marks.
    pass_ends c.args.design.now order.design c.order-order.result.now order.order starts below
    c.loop-left.table (c.loop-left.auto.table ∙ c.requires)
    (subst (λ k. IsClosedBut (design_of c.args.design.now) starts k (is_marked c.loop-left.table))
    (omega arith) (c.loop-left.invariant.1 starts below marks))
