use Rattle.std.proofs.Common.{◌≡◌, ℕ, ◌<◌, ◌^◌, length, get_or}
use Rattle.sv_lattice.proofs.flow_table.alone.Given as goal

abbrev pub invariant-loop-point : goal.invariant-loop-point
invariant-loop-point l =
    record {
      size : length l.table.items ≡ l.point;
      rows : (k : ℕ) → k < l.point → get_or l.table.items k 0 ≡ 2 ^ k;
    }
