use Rattle.std.proofs.Common.{sym, subst}
use Rattle.sv_flat.specs.Views.{design_of}
use Rattle.sv_design.specs.Numbers.{numbers}
use Rattle.sv_design.specs.Orders.{IsLongestOrder}
use Rattle.sv_design.proofs.admit.ordered.Goals as goal

pub check_order-requires-clause-longest : goal.check_order-requires-clause-longest
check_order-requires-clause-longest c =
    let design = design_of c.args.flat.now in
    subst (λ os. IsLongestOrder design (numbers os)) (sym c.as_slice-longest.ensures.value)
    (c.in_ok-found.ensures design c.requires.reads)

pub returns-clause-order : goal.returns-clause-order
returns-clause-order c =
    c.in_ok-order.ensures (design_of c.args.flat.now) c.requires.reads
    c.in_ok-check_order.ensures.whole
