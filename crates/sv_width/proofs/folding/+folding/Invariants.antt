use Rattle.std.proofs.Common.{◌≡◌, ◌^◌, ◌<◌, drop}
use Rattle.sv_width.specs.Pushed.{divisors_in, joined_from}
use Rattle.sv_width.specs.Views.{measured_trees, parts_of}
use Rattle.sv_width.proofs.folding.+folding.Given as goal

-- the parts that are left, behind the value so far, are asked and give what all parts do
abbrev pub invariant-joined-loop-part : goal.invariant-joined-loop-part
invariant-joined-loop-part l = record {
  asks : (divisors_in (parts_of (measured_trees (drop l.part-index l.parts)))).end ≡
      (divisors_in (parts_of (measured_trees l.parts))).end;
  gives : joined_from (parts_of (measured_trees (drop l.part-index l.parts))) l.width l.value ≡
      joined_from (parts_of (measured_trees l.parts)) l.width 0;
  low : l.value < 2 ^ l.width;
}
