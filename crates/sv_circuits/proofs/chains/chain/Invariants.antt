use Rattle.std.proofs.Common.{[], ◌∷◌, map, drop}
use Rattle.sv_circuits.specs.Words.{ready_bit, chain_from}
use Rattle.sv_circuits.specs.BitGates.{gate_of, chain_of}
use Rattle.sv_circuits.proofs.LoopSteps.{LoopAt}
use Rattle.sv_circuits.proofs.chains.chain.Given as goal

abbrev pub invariant-members : goal.invariant-members
invariant-members l =
    LoopAt (chain_of l.gate (map ready_bit l.fn.word) l.fn.gates)
    (chain_from (gate_of l.gate) l.before (map ready_bit (drop l.literal-index l.more)) l.gates)
    l.fn.gates l.gates (drop l.literal-index l.more) [] []
    (l.before ∷ [])
