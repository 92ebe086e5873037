use Rattle.std.proofs.Common.{take}
use Rattle.sv_clause.specs.Logs.{plain_log, AllDerived}
use Rattle.sv_proof.proofs.check.check_log.Given as goal

abbrev pub invariant-steps : goal.invariant-steps
invariant-steps l = AllDerived l.clauses (take l.i (plain_log l.log))
