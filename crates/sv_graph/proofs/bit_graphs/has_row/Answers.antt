use Rattle.std.proofs.Common.{refl, arith}
use Rattle.sv_graph.proofs.BitRows.{rows_together}
use Rattle.sv_graph.proofs.bit_graphs.has_row.Goals as goal

pub returns : goal.returns
returns c = λ yes.
    rows_together c.args.row.now c.args.more.now c.args.row.now c.requires
    (λ k below. c.loop-place.invariant k (omega arith))
    (λ k past. refl)
