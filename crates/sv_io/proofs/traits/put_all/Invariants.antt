use Rattle.std.proofs.Common.{◌≡◌, List, ℕ, ◌++◌, length}
use Rattle.sv_io.proofs.traits.put_all.Given as goal

-- the front of the piece was written, and the rest is still to be
abbrev pub invariant-loop-rest : goal.invariant-loop-rest
invariant-loop-rest g l = record {
  kept : g.K.Sink.faults l.out ≡ g.K.Sink.faults l.initial.out;
  accepted : (front : List ℕ) × (l.piece ≡ front ++ l.rest)
      × (g.K.Sink.accepted l.out ≡ g.K.Sink.accepted l.initial.out ++ front);
}

abbrev pub decreases-loop-rest : goal.decreases-loop-rest
decreases-loop-rest g l = length l.rest
