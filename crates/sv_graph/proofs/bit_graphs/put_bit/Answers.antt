use Rattle.std.proofs.Common.{◌%◌, refl, arith}
use Rattle.std.proofs.lemmas.Nat.{one_shl}
use Rattle.sv_graph.proofs.BitRows.{bit_more}
use Rattle.sv_graph.proofs.bit_graphs.put_bit.Goals as goal

pub returns-clause-bits : goal.returns-clause-bits
returns-clause-bits c =
    rw (one_shl (c.args.signal.0 % 64) 64 (omega arith))
    (bit_more c.args.row.now c.args.signal.0 _ c.requires refl)
