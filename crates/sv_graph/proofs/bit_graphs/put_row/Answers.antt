use Rattle.std.proofs.Common.{arith}
use Rattle.sv_graph.proofs.BitRows.{rows_together}
use Rattle.sv_graph.proofs.bit_graphs.put_row.Goals as goal

pub returns-clause-bits : goal.returns-clause-bits
returns-clause-bits c =
    rows_together c.args.row.now c.args.more.now c.loop-place.row c.requires
    (λ k below. c.loop-place.invariant.done k (omega arith))
    (λ k past. c.loop-place.invariant.rest k (omega arith))
