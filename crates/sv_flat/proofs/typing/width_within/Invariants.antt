use Rattle.std.proofs.Common.{◌≡◌, ◌+◌, ◌≤◌, drop}
use Rattle.sv_flat.specs.Values.{parts_width}
use Rattle.sv_flat.specs.Views.{typed_trees, parts_of}
use Rattle.sv_flat.proofs.typing.width_within.Given as goal

-- the width so far and that of the parts that are left are the width of all
abbrev pub invariant-loop-part : goal.invariant-loop-part
invariant-loop-part l =
    (l.width ≤ l.most)
    × (l.width + parts_width (parts_of (typed_trees (drop l.part-index l.parts))) ≡
    parts_width (parts_of (typed_trees l.parts)))
