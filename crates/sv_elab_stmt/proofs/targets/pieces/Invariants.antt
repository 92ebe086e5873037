use Rattle.std.proofs.Common.{◌≡◌, ◌++◌, drop, map}
use Rattle.sv_flat.specs.Views.{piece_form}
use Rattle.sv_elab_stmt.specs.Targets.{parts_width, placed}
use Rattle.sv_elab_stmt.proofs.targets.pieces.Given as goal

-- the pieces so far and those of the parts that are left are all, and as many bits are left
abbrev pub invariant-loop-part : goal.invariant-loop-part
invariant-loop-part l = record {
  placed : map piece_form l.pieces.items ++ placed (drop l.part-index l.parts) ≡ placed l.parts;
  left : l.left ≡ parts_width (drop l.part-index l.parts);
}
