use Rattle.std.proofs.Common.{◌≡◌, ℕ, ◌<◌, List, length, subst, sym, arith}
use Rattle.sv_lattice.specs.Tables.{FlowsTo}
use Rattle.sv_lattice.proofs.OrderLemmas.{IsBelow, has_least}
use Rattle.sv_lattice.proofs.lattices.Lattice.least.Goals as goal

pub returns-clause-least : goal.returns-clause-least
returns-clause-least c =
    let table : List ℕ = c.self.inside.table.items in
    let some : 0 < length table = omega (arith, c.self.invariant.count.0) in
    let low = has_least (length table) (FlowsTo table) c.self.invariant.preorder
    c.self.invariant.lattice some in
    let kept : c.loop-point.least ≡ low.0 =
    c.loop-point.invariant.kept low.0 (omega (arith, low.1)) low.1 low.2 in
    subst (λ t. IsBelow (FlowsTo t) (length t) c.loop-point.least) c.self.view_is
    (subst (IsBelow (FlowsTo table) (length table)) (sym kept) low.2)
