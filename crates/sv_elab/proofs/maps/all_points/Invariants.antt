use Rattle.std.proofs.Common.{◌≡◌, ◌++◌, drop}
use Rattle.sv_elab.specs.MapParts.{is_whole, points_in}
use Rattle.sv_elab.proofs.maps.all_points.Given as goal

-- the points so far, with those of what is left, are all; and what is left decides
abbrev pub invariant-loop-entry : goal.invariant-loop-entry
invariant-loop-entry l = record {
  all : l.all.items ++ points_in (drop l.entry-index l.table) l.other ≡ points_in l.table l.other;
  whole : is_whole (drop l.entry-index l.table) l.other ≡ is_whole l.table l.other;
}
