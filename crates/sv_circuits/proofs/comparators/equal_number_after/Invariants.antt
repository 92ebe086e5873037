use Rattle.std.proofs.Common.{[], ◌∷◌, drop}
use Rattle.sv_gates.specs.Gates.{and_gate}
use Rattle.sv_circuits.specs.Words.{chain_from, number_tests}
use Rattle.sv_circuits.proofs.LoopSteps.{LoopAt}
use Rattle.sv_circuits.proofs.comparators.equal_number_after.Given as goal

abbrev pub invariant-bits : goal.invariant-bits
invariant-bits l =
    LoopAt (chain_from and_gate l.fn.before (number_tests l.fn.word l.fn.number) l.fn.gates)
    (chain_from and_gate l.equal (number_tests (drop l.bit-index l.word) l.left) l.gates)
    l.fn.gates l.gates (drop l.bit-index l.word) [] [] (l.equal ∷ [])
