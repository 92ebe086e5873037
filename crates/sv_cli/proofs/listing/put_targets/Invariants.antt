use Rattle.std.proofs.Common.{◌≡◌}
use Rattle.sv_flat.specs.Views.{design_of}
use Rattle.sv_paths.specs.ListParts.{IsAt, lines_left}
use Rattle.sv_cli.specs.Prepared.{LeavesOf}
use Rattle.sv_cli.proofs.listing.put_targets.Given as goal

-- the lines of the targets so far were accepted
abbrev pub invariant-loop-s : goal.invariant-loop-s
invariant-loop-s g l = record {
  kept : g.K.Sink.faults l.out ≡ g.K.Sink.faults l.initial.out;
  at : IsAt (design_of l.design) l.s l.listing;
  put : LeavesOf (g.K.Sink.accepted l.initial.out) (lines_left (design_of l.design) 0)
      (lines_left (design_of l.design) l.s) (g.K.Sink.accepted l.out);
}
