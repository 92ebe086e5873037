use Rattle.std.proofs.Common.{[]}
use Rattle.std.specs.Slice.Iter.{iter_rest}
use Rattle.std.specs.Iterator.Adapters.{zip_first, zip_second}
use Rattle.sv_circuits.specs.Words.{bitwise_word}
use Rattle.sv_circuits.specs.BitGates.{gate_of}
use Rattle.sv_circuits.proofs.WordKeeps.{onto}
use Rattle.sv_circuits.proofs.LoopSteps.{LoopAt}
use Rattle.sv_circuits.proofs.bit_gates.bitwise.Given as goal

abbrev pub invariant-bits : goal.invariant-bits
invariant-bits l =
    LoopAt (bitwise_word (gate_of l.gate) l.fn.a l.fn.b l.fn.gates)
    (onto l.word.items (bitwise_word (gate_of l.gate) (iter_rest (zip_first l.x-iterator))
    (iter_rest (zip_second l.x-iterator)) l.gates)) l.fn.gates l.gates
    (iter_rest (zip_first l.x-iterator)) (iter_rest (zip_second l.x-iterator)) l.word.items
    []
