use Rattle.std.proofs.Common.{◌≡◌, [], ◌∷◌, drop}
use Rattle.sv_circuits.specs.Operators.{picked_bit, picked_from}
use Rattle.sv_circuits.proofs.LoopSteps.{LoopAt}
use Rattle.sv_circuits.proofs.selectors.picked.Given as goal

abbrev pub invariant-bits : goal.invariant-bits
invariant-bits l =
    LoopAt (picked_bit l.fn.word l.signed (λ formula. (formula, l.fn.index)) l.fn.gates)
    (picked_from l.index l.found l.j (drop l.bit-index l.near) l.gates) l.fn.gates l.gates
    (drop l.bit-index l.near) l.index [] (l.found ∷ [])
    × (l.j ≡ l.bit-index)
