use Rattle.std.proofs.Common.{◌≡◌, ◌+◌, ◌≤◌, min, drop}
use Rattle.sv_width.specs.Pushed.{joined_width}
use Rattle.sv_width.specs.Views.{measured_trees, parts_of}
use Rattle.sv_width.proofs.folding.joined_width.Given as goal

abbrev pub invariant-loop-part : goal.invariant-loop-part
invariant-loop-part l = record {
  sum : min (l.width + joined_width (parts_of (measured_trees (drop l.part-index l.parts)))) 65 ≡
      min (joined_width (parts_of (measured_trees l.parts))) 65;
  few : l.width ≤ 65;
}
