use Rattle.std.proofs.Common.{vec_len}
use Rattle.sv_flat.specs.ByNumber.{signal_forms}
use Rattle.sv_flat.specs.Design.{FlatStatement}
use Rattle.sv_rules.specs.Surroundings.{in_surrounding}
use Rattle.sv_obl.specs.Marked.{IsMarking}
use Rattle.sv_obl.specs.MarkedArms.{AreArms, AreConditions}
use Rattle.sv_obl.proofs.MarkedArmFacts.{BackAt}
use Rattle.sv_obl.proofs.marked.marked_arms.Given as goal

abbrev pub invariant-loop-arm : goal.invariant-loop-arm
invariant-loop-arm l =
    let signals = signal_forms l.signals in
    let later = in_surrounding l.later in
    AreConditions signals l.arms.items
    × ((rest whole : FlatStatement) → AreArms signals later l.fn.arms.items rest whole
    → IsMarking signals later rest l.fn.last.0 l.fn.last.1
    → BackAt signals later l.arms.items whole l.rest l.bits)

abbrev pub decreases-loop-arm : goal.decreases-loop-arm
decreases-loop-arm l = vec_len l.arms
