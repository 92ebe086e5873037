use Rattle.std.proofs.Common.{◌≡◌, ◌++◌, drop}
use Rattle.sv_blast.specs.Framed.{literals_of}
use Rattle.sv_blast.proofs.truths.literals.Given as goal

abbrev pub invariant-loop-truth : goal.invariant-loop-truth
invariant-loop-truth l =
    l.literals.items ++ literals_of (drop l.truth-index l.truths) ≡ literals_of l.truths
