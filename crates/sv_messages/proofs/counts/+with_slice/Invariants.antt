use Rattle.std.proofs.Common.{◌≤◌}
use Rattle.sv_obl.specs.declared.body_slices.BodySlice.{size-BodySlice}
use Rattle.sv_messages.proofs.counts.+with_slice.Given as goal

-- what is left of the slice is no deeper
abbrev pub invariant-parts : goal.invariant-parts
invariant-parts l = size-BodySlice l.rest ≤ size-BodySlice l.initial.rest
