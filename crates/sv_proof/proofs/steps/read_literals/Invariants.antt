use Rattle.std.proofs.Common.{length}
use Rattle.sv_proof.proofs.Spelling.{ReadsLiterals}
use Rattle.sv_proof.proofs.steps.read_literals.Given as goal

abbrev pub invariant-literals : goal.invariant-literals
invariant-literals l = ReadsLiterals l.line l.literals.items l.above l.rest

abbrev pub decreases-literals : goal.decreases-literals
decreases-literals l = length l.rest
