use Rattle.std.proofs.Common.{◌≡◌, length}
use Rattle.std.specs.List.{flat_map}
use Rattle.sv_encoding.specs.CnfText.{clause_line}
use Rattle.sv_cli.specs.Prepared.{LeavesOf}
use Rattle.sv_cli.proofs.clauses.put_pieces.Given as goal

-- the lines of the clauses before those that are left were accepted
abbrev pub invariant-pieces : goal.invariant-pieces
invariant-pieces g l = record {
  kept : g.K.Sink.faults l.out ≡ g.K.Sink.faults l.initial.out;
  put : LeavesOf (g.K.Sink.accepted l.initial.out) (flat_map clause_line l.clauses)
      (flat_map clause_line l.left) (g.K.Sink.accepted l.out);
}

abbrev pub decreases-pieces : goal.decreases-pieces
decreases-pieces g l = length l.left
