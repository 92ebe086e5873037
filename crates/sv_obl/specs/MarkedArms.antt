-- Private: how the code goes. Chains of branches that are marked, arm by arm.
use Rattle.std.specs.Prelude.{◌≡◌, List, [], ◌∷◌, IsTrue}
use Rattle.sv_flat.specs.Design.{SignalForm, FlatStatement, branch}
use Rattle.sv_flat.specs.Readings.{BitSet}
use Rattle.sv_flat.specs.Soundness.{well_formed}
use Rattle.sv_flat.specs.Views.{typed_tree}
use Rattle.sv_obl.specs.declared.marked.MarkedArm.{MarkedArm}
use Rattle.sv_obl.specs.Marked.{IsMarking}

-- a branch with this condition, of whose first arm this is known
pub record IsArm (signals : List SignalForm) (later : BitSet) (arm : MarkedArm)
    (whole second : FlatStatement) : Type 0 where
  pub first : FlatStatement
  pub is_branch : whole ≡ branch arm.place (typed_tree arm.cond.now) first second
  pub is_known : IsMarking signals later first arm.yes arm.bits

-- The whole is a chain of branches with these first arms, and the rest is the second arm of the
-- last one.
abbrev pub AreArms : List SignalForm → (later : BitSet) → List MarkedArm →
    (rest whole : FlatStatement) → Type 0
AreArms signals later [] rest whole = whole ≡ rest
AreArms signals later (arm ∷ arms) rest whole =
    (second : FlatStatement) × IsArm signals later arm whole second
    × AreArms signals later arms rest second

-- each condition has the form of an expression over the signals
abbrev pub AreConditions : List SignalForm → List MarkedArm → Type 0
AreConditions signals [] = Unit {0}
AreConditions signals (arm ∷ arms) =
    IsTrue (well_formed signals (typed_tree arm.cond.now)) × AreConditions signals arms
