use Rattle.std.proofs.Common.{◌≡◌, ℕ, ◌<◌, ◌≤◌, get_or}
use Rattle.sv_lattice.proofs.TableLemmas.{gains}
use Rattle.sv_lattice.proofs.flow_table.add_flow.Given as goal

abbrev pub invariant-loop-row : goal.invariant-loop-row
invariant-loop-row l = record {
  done : (k : ℕ) → k < l.row-index →
      get_or l.table k 0 ≡ gains l.gained l.from (get_or l.fn.table k 0);
  rest : (k : ℕ) → l.row-index ≤ k → get_or l.table k 0 ≡ get_or l.fn.table k 0;
}
