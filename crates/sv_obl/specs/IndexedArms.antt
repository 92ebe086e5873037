-- Private: how the code goes. Chains of branches, by their first arms.
use Rattle.std.specs.Prelude.{◌≡◌, List, [], ◌∷◌}
use Rattle.sv_flat.specs.Design.{FlatStatement, branch}
use Rattle.sv_flat.specs.Views.{typed_tree}
use Rattle.sv_obl.specs.declared.indexed.FirstArm.{FirstArm}
use Rattle.sv_obl.specs.IndexedStatements.{IsMadeOf}

-- a branch with this first arm and this second one
pub record IsArm (arm : FirstArm) (whole second : FlatStatement) : Type 0 where
  pub first : FlatStatement
  pub is_branch : whole ≡ branch arm.place (typed_tree arm.cond.now) first second
  pub is_made : IsMadeOf first arm.yes

-- The whole is a chain of branches with these first arms, and the rest is the second arm of the
-- last one.
abbrev pub AreArms : List FirstArm → (rest whole : FlatStatement) → Type 0
AreArms [] rest whole = whole ≡ rest
AreArms (arm ∷ arms) rest whole =
    (second : FlatStatement) × IsArm arm whole second × AreArms arms rest second
