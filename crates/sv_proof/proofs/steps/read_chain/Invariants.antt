use Rattle.std.proofs.Common.{length}
use Rattle.sv_proof.proofs.Spelling.{ReadsChain}
use Rattle.sv_proof.proofs.steps.read_chain.Given as goal

abbrev pub invariant-numbers : goal.invariant-numbers
invariant-numbers l = ReadsChain l.text l.chain.items l.rest

abbrev pub decreases-numbers : goal.decreases-numbers
decreases-numbers l = length l.rest
