use Rattle.std.proofs.Common.{◌<◌, length}
use Rattle.sv_lattice.proofs.OrderLemmas.{KeepsLeast}
use Rattle.sv_lattice.proofs.lattices.Lattice.least.Given as goal

abbrev pub invariant-loop-point : goal.invariant-loop-point
invariant-loop-point l =
    record {
      in_range : l.least < length l.self-inside.table.items;
      kept : KeepsLeast l.self-inside.table.items l.point l.least;
    }
