-- Private: how the code goes. Chains of branches, arm by arm.
use Rattle.std.specs.Prelude.{List, [], ◌∷◌}
use Rattle.sv_flat.specs.declared.statements.Arm.{Arm}
use Rattle.sv_flat.specs.Design.{FlatStatement, branch}
use Rattle.sv_flat.specs.Views.{typed_tree, flat_statement}

-- the chain of branches with these first arms, and what the second arm of the last one is
abbrev pub branches_around : List Arm → FlatStatement → FlatStatement
branches_around [] last = last
branches_around (arm ∷ arms) last =
    branch arm.place (typed_tree arm.cond) (flat_statement arm.yes.value)
    (branches_around arms last)
