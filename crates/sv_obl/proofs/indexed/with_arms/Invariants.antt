use Rattle.std.proofs.Common.{vec_len}
use Rattle.sv_flat.specs.Design.{FlatStatement}
use Rattle.sv_obl.specs.IndexedArms.{AreArms}
use Rattle.sv_obl.specs.IndexedStatements.{IsMadeOf}
use Rattle.sv_obl.proofs.IndexedArmFacts.{BackAt}
use Rattle.sv_obl.proofs.indexed.with_arms.Given as goal

abbrev pub invariant-loop-arm : goal.invariant-loop-arm
invariant-loop-arm l =
    (rest whole : FlatStatement) → AreArms l.fn.arms.items rest whole
    → IsMadeOf rest l.fn.last → BackAt l.arms.items whole l.rest

abbrev pub decreases-loop-arm : goal.decreases-loop-arm
decreases-loop-arm l = vec_len l.arms
