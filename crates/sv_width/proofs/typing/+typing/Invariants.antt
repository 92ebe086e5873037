use Rattle.std.proofs.Common.{◌≡◌, drop}
use Rattle.sv_system.proofs.Fronts.{before}
use Rattle.sv_flat.specs.Design.{more_parts}
use Rattle.sv_flat.specs.Views.{typed_trees}
use Rattle.sv_width.specs.Pushed.{divisors_in, nodes_in}
use Rattle.sv_width.specs.Views.{measured_trees, parts_of}
use Rattle.sv_width.proofs.typing.+typing.Given as goal

abbrev pub invariant-pushed_parts-loop-part : goal.invariant-pushed_parts-loop-part
invariant-pushed_parts-loop-part l = record {
  asks : (divisors_in (parts_of (measured_trees (drop l.part-index l.parts)))).end ≡
      (divisors_in (parts_of (measured_trees l.parts))).end;
  gives : before more_parts (typed_trees l.typed.items)
      (nodes_in (parts_of (measured_trees (drop l.part-index l.parts)))) ≡
      nodes_in (parts_of (measured_trees l.parts));
}
