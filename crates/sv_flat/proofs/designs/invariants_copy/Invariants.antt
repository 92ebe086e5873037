use Rattle.std.proofs.Common.{◌≡◌, ◌++◌, map, drop}
use Rattle.sv_flat.specs.Views.{invariant_form}
use Rattle.sv_flat.proofs.designs.invariants_copy.Given as goal

-- the copies so far and the invariants that are left have the plain forms of all
abbrev pub invariant-loop-invariant : goal.invariant-loop-invariant
invariant-loop-invariant l =
    map invariant_form l.copies.items ++ map invariant_form (drop l.invariant-index l.invariants)
    ≡ map invariant_form l.invariants
