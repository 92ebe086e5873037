use Rattle.std.proofs.Common.{length, vec_len}
use Rattle.sv_blast.specs.TargetWords.{chosen_back}
use Rattle.sv_blast.proofs.ArmSteps.{BackAt}
use Rattle.sv_blast.proofs.arms.chosen_back.Given as goal

abbrev pub invariant-arms : goal.invariant-arms
invariant-arms l =
    BackAt (chosen_back l.fn.arms.items (l.fn.gates, l.fn.last.items)) (length l.fn.last.items)
    l.fn.gates l.gates l.arms.items l.word.items

abbrev pub decreases-arms : goal.decreases-arms
decreases-arms l = vec_len l.arms
