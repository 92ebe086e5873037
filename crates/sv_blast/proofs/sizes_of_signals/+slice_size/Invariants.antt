use Rattle.std.proofs.Common.{◌≡◌, ◌+◌, ◌≤◌, min}
use Rattle.sv_flat.specs.ByNumber.{signal_forms}
use Rattle.sv_obl.specs.BodySlices.{slice_statement}
use Rattle.sv_obl.specs.declared.body_slices.BodySlice.{size-BodySlice}
use Rattle.sv_blast.specs.SliceSizes.{slice_size}
use Rattle.sv_blast.proofs.sizes_of_signals.+slice_size.Given as goal

-- the gates so far, and those of what is left
abbrev pub invariant-parts : goal.invariant-parts
invariant-parts l =
    let size = slice_size (signal_forms l.signals) l.width in
    (min (l.total + size (slice_statement l.rest)) 4194305
    ≡ min (size (slice_statement l.initial.rest)) 4194305)
    × (l.total ≤ 4194305)
    × (size-BodySlice l.rest ≤ size-BodySlice l.initial.rest)
