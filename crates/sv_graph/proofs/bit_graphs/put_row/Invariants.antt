use Rattle.std.proofs.Common.{◌≡◌, ℕ, ◌<◌, ◌≤◌, length, get_or}
use Rattle.std.specs.Prelude.{bit_or}
use Rattle.sv_graph.proofs.bit_graphs.put_row.Given as goal

-- the words so far are put together
abbrev pub invariant-loop-place : goal.invariant-loop-place
invariant-loop-place l = record {
  size : length l.row ≡ length l.more;
  done : (k : ℕ) → k < l.place → get_or l.row k 0 ≡ bit_or (get_or l.fn.row k 0) (get_or l.more k 0);
  rest : (k : ℕ) → l.place ≤ k → get_or l.row k 0 ≡ get_or l.fn.row k 0;
}
