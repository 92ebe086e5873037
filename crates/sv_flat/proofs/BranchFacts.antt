-- Chains of branches, arm by arm.
use Rattle.std.proofs.Common.{◌≡◌, List, [], ◌∷◌, ◌++◌, refl, ap, ap₂, ◌∙◌}
use Rattle.sv_num.specs.declared.faults.Place.{Place}
use Rattle.sv_flat.specs.declared.statements.Arm.{Arm}
use Rattle.sv_flat.specs.Branches.{branches_around}
use Rattle.sv_flat.specs.Design.{TypedTree, FlatStatement, branch}
use Rattle.sv_flat.specs.Views.{typed_tree, flat_statement}

-- one more arm is the innermost
pub branches_more : (arms : List Arm) (arm : Arm) (last : FlatStatement)
    → branches_around (arms ++ arm ∷ []) last ≡
    branches_around arms (branches_around (arm ∷ []) last)
branches_more [] arm last = refl
branches_more (a ∷ arms) arm last =
    ap (branch a.place (typed_tree a.cond) (flat_statement a.yes.value))
    (branches_more arms arm last)

-- branches with equal parts are equal
pub same_branch : (place : Place) {t u : TypedTree} {p q r s : FlatStatement} → t ≡ u → p ≡ q
    → r ≡ s → branch place t p r ≡ branch place u q s
same_branch place {t} {u} {p} {q} {r} {s} same_cond same_yes same_no =
    ap (λ c. branch place c p r) same_cond ∙ ap₂ (branch place u) same_yes same_no
