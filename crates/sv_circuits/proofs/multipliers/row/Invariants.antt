use Rattle.std.proofs.Common.{[], ◌∷◌, drop}
use Rattle.sv_circuits.specs.Operators.{product_row}
use Rattle.sv_circuits.proofs.WordKeeps.{onto}
use Rattle.sv_circuits.proofs.LoopSteps.{LoopAt}
use Rattle.sv_circuits.proofs.ProductSteps.{masked}
use Rattle.sv_circuits.proofs.multipliers.row.Given as goal

abbrev pub invariant-bits : goal.invariant-bits
invariant-bits l =
    LoopAt (product_row l.fn.a l.fn.i l.fn.b l.fn.gates)
    (onto l.word.items (masked l.fn.b (drop l.x-index l.low) l.gates)) l.fn.gates l.gates
    (drop l.x-index l.low) [] l.word.items (l.fn.b ∷ [])
