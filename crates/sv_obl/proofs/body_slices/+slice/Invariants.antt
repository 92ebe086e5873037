use Rattle.std.proofs.Common.{map, take}
use Rattle.sv_obl.specs.SliceRoutes.{AreSlicesOf}
use Rattle.sv_obl.specs.IndexedBodies.{looked_up, chosen}
use Rattle.sv_obl.proofs.body_slices.+slice.Given as goal

-- the slices of the parts with the numbers so far
abbrev pub invariant-part_slices-loop-number : goal.invariant-part_slices-loop-number
invariant-part_slices-loop-number l =
    AreSlicesOf l.target.0
    (chosen (map (looked_up l.target.0) l.parts) (take l.number-index l.numbers)) l.slices.items
