use Rattle.std.proofs.Common.{◌≡◌, ◌+◌, ◌≤◌, min, drop}
use Rattle.sv_flat.proofs.Parts.{trees}
use Rattle.sv_flat.specs.ByNumber.{signal_forms}
use Rattle.sv_encoding.specs.Sizes.{parts_size}
use Rattle.sv_blast.proofs.sizes_of_expressions.+expression_sizes.Given as goal

-- the gates so far, and those of what is left
abbrev pub invariant-parts_size-loop-part : goal.invariant-parts_size-loop-part
invariant-parts_size-loop-part l =
    let forms = signal_forms l.signals in
    (min (l.total + parts_size forms (trees (drop l.part-index l.parts))) 4194305
    ≡ min (parts_size forms (trees l.parts)) 4194305)
    × (l.total ≤ 4194305)
