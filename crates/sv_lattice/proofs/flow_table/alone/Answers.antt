use Rattle.std.proofs.Common.{arith}
use Rattle.sv_lattice.proofs.TableLemmas.{alone_table}
use Rattle.sv_lattice.proofs.flow_table.alone.Goals as goal

pub returns : goal.returns
returns c =
    alone_table c.args.points c.loop-point.table.items (omega arith) (λ k h.
    c.loop-point.invariant.rows k (omega arith))
