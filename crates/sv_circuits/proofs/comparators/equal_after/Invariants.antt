use Rattle.std.proofs.Common.{[], ◌∷◌}
use Rattle.std.specs.Slice.Iter.{iter_rest}
use Rattle.std.specs.Iterator.Adapters.{zip_first, zip_second}
use Rattle.sv_gates.specs.Gates.{and_gate}
use Rattle.sv_circuits.specs.Words.{chain_from}
use Rattle.sv_circuits.proofs.TestSteps.{same_tests}
use Rattle.sv_circuits.proofs.LoopSteps.{LoopAt}
use Rattle.sv_circuits.proofs.comparators.equal_after.Given as goal

abbrev pub invariant-bits : goal.invariant-bits
invariant-bits l =
    LoopAt (chain_from and_gate l.fn.before (same_tests l.fn.a l.fn.b) l.fn.gates)
    (chain_from and_gate l.equal (same_tests (iter_rest (zip_first l.x-iterator))
    (iter_rest (zip_second l.x-iterator))) l.gates) l.fn.gates l.gates
    (iter_rest (zip_first l.x-iterator)) (iter_rest (zip_second l.x-iterator)) [] (l.equal ∷ [])
