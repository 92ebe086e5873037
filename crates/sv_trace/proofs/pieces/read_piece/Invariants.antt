use Rattle.std.proofs.Common.{◌≡◌, true, ℕ, ◌+◌, ◌^◌, ◌<◌, ◌≤◌, List, ◌++◌, length}
use Rattle.sv_trace.specs.Reading.{said_of, IsSaid, KeepsCycles}
use Rattle.sv_trace.specs.Steps.{Stands}
use Rattle.sv_trace.proofs.pieces.read_piece.Given as goal

abbrev pub invariant-lines : goal.invariant-lines
invariant-lines l = record {
  said : IsSaid l.form (said_of l.state);
  room : l.state.line + length l.kept.items + length l.left < 2 ^ 64;
  short : length l.kept.items ≤ 1048576;
  begun : l.initial.state.begun ≡ true →
      (l.state.start.items ≡ l.initial.state.start.items) × (l.state.begun ≡ true);
  cycles : KeepsCycles (said_of l.initial.state) (said_of l.state);
  read : (done : List ℕ) × (l.piece ≡ done ++ l.left)
      × ((bytes : List ℕ) (taken : List (List ℕ)) →
      Stands l.form bytes taken (said_of l.initial.state) l.initial.kept.items →
      Stands l.form (bytes ++ done) taken (said_of l.state) l.kept.items);
}

abbrev pub decreases-lines : goal.decreases-lines
decreases-lines l = length l.left
