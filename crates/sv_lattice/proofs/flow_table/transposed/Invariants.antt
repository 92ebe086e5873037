use Rattle.std.proofs.Common.{◌≡◌, ℕ, ◌<◌, ◌^◌, length, get_or}
use Rattle.sv_lattice.specs.Tables.{flow_test}
use Rattle.sv_lattice.proofs.flow_table.transposed.Given as goal

abbrev pub invariant-loop-point : goal.invariant-loop-point
invariant-loop-point l = record {
  size : length l.turned.items ≡ l.point;
  within : (k : ℕ) → k < l.point → get_or l.turned.items k 0 < 2 ^ length l.table;
  exact : (k a : ℕ) → k < l.point → a < length l.table →
      flow_test l.turned.items k a ≡ flow_test l.table a k;
}
