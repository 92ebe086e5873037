use Rattle.std.proofs.Common.{◌++◌, map}
use Rattle.sv_clause.specs.Logs.{plain_step, clauses_of}
use Rattle.sv_proof.proofs.Chains.{GoesOn}
use Rattle.sv_proof.proofs.check.resolve_chain.Given as goal

abbrev pub invariant-chain : goal.invariant-chain
invariant-chain l =
    GoesOn (l.known.given.now ++ clauses_of (map plain_step l.known.earlier.now))
    l.fn.work.items l.chain l.work.items l.number-index
