use Rattle.std.proofs.Common.{◌≡◌, vec_len}
use Rattle.sv_flat.specs.Branches.{branches_around}
use Rattle.sv_flat.specs.Views.{flat_statement}
use Rattle.sv_flat.proofs.statements.branches.Given as goal

-- the arms that are left, around the chain so far, come to the whole
abbrev pub invariant-loop-place : goal.invariant-loop-place
invariant-loop-place l =
    branches_around l.arms.items (flat_statement l.chain) ≡
    branches_around l.fn.arms.items (flat_statement l.fn.last)

abbrev pub decreases-loop-place : goal.decreases-loop-place
decreases-loop-place l = vec_len l.arms
