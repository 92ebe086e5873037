-- Chains of branches, by their first arms.
use Rattle.std.proofs.Common.{◌≡◌, List, [], ◌∷◌, ◌++◌, refl, sym, subst}
use Rattle.sv_flat.specs.Design.{FlatStatement, branch}
use Rattle.sv_flat.specs.Views.{typed_tree}
use Rattle.sv_obl.specs.declared.indexed.FirstArm.{FirstArm}
use Rattle.sv_obl.specs.declared.indexed.Indexed.{Indexed}
use Rattle.sv_obl.specs.IndexedArms.{IsArm, AreArms}
use Rattle.sv_obl.specs.IndexedStatements.{IsMadeOf}

-- ---- on the way down

arms_with : (arms : List FirstArm) (arm : FirstArm) (whole rest second : FlatStatement)
    → IsArm arm rest second → AreArms arms rest whole → AreArms (arms ++ arm ∷ []) second whole
arms_with [] arm whole rest second is h =
    (second, subst (λ z. IsArm arm z second) (sym h) is, refl)
arms_with (a ∷ arms) arm whole rest second is h =
    (h.0, h.1, arms_with arms arm h.0 rest second is h.2)

pub arm_opened : (arms more : List FirstArm) (arm : FirstArm)
    (whole rest first second : FlatStatement) → more ≡ arms ++ arm ∷ []
    → rest ≡ branch arm.place (typed_tree arm.cond.now) first second → IsMadeOf first arm.yes
    → AreArms arms rest whole → AreArms more second whole
arm_opened arms more arm whole rest first second items is made are =
    subst (λ z. AreArms z second whole) (sym items)
    (arms_with arms arm whole rest second
    (record { first = first; is_branch = is; is_made = made }) are)

-- ---- on the way back

arms_before : (arms : List FirstArm) (arm : FirstArm) (whole rest : FlatStatement)
    → AreArms (arms ++ arm ∷ []) rest whole
    → (middle : FlatStatement) × AreArms arms middle whole × IsArm arm middle rest
arms_before [] arm whole rest h = (whole, refl, subst (IsArm arm whole) h.2 h.1)
arms_before (a ∷ arms) arm whole rest h =
    let inner = arms_before arms arm h.0 rest h.2 in
    (inner.0, (h.0, h.1, inner.1), inner.2)

-- from the arms that are left and what was made of the second arm of the last one to the whole
pub record BackAt (arms : List FirstArm) (whole : FlatStatement) (made : Indexed) : Type 0 where
  pub rest : FlatStatement
  pub are : AreArms arms rest whole
  pub is_made : IsMadeOf rest made

pub back_begin : (arms : List FirstArm) (rest whole : FlatStatement) (made : Indexed)
    → AreArms arms rest whole → IsMadeOf rest made → BackAt arms whole made
back_begin arms rest whole made are is_made = record { rest = rest; are = are; is_made = is_made }

pub back_more : (arms left : List FirstArm) (arm : FirstArm) (whole : FlatStatement)
    (made more : Indexed) → arms ≡ left ++ arm ∷ []
    → ((first second : FlatStatement) → IsMadeOf first arm.yes → IsMadeOf second made
    → IsMadeOf (branch arm.place (typed_tree arm.cond.now) first second) more)
    → BackAt arms whole made → BackAt left whole more
back_more arms left arm whole made more split branched back =
    let before = arms_before left arm whole back.rest
    (subst (λ z. AreArms z back.rest whole) split back.are) in
    let is = before.2 in
    record {
      rest = before.0;
      are = before.1;
      is_made = subst (λ z. IsMadeOf z more) (sym is.is_branch)
          (branched is.first back.rest is.is_made back.is_made);
    }

pub back_end : (arms : List FirstArm) (whole : FlatStatement) (made : Indexed) → arms ≡ []
    → BackAt arms whole made → IsMadeOf whole made
back_end arms whole made none back =
    subst (λ z. IsMadeOf z made) (sym (subst (λ z. AreArms z back.rest whole) none back.are))
    back.is_made
