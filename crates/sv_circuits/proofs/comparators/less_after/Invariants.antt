use Rattle.std.proofs.Common.{[], ◌∷◌}
use Rattle.std.specs.Slice.Iter.{iter_rest}
use Rattle.std.specs.Iterator.Adapters.{zip_first, zip_second}
use Rattle.sv_circuits.specs.Operators.{less_from}
use Rattle.sv_circuits.proofs.LoopSteps.{LoopAt}
use Rattle.sv_circuits.proofs.comparators.less_after.Given as goal

abbrev pub invariant-bits : goal.invariant-bits
invariant-bits l =
    LoopAt (less_from l.fn.a l.fn.b l.fn.below l.fn.gates)
    (less_from (iter_rest (zip_first l.x-iterator)) (iter_rest (zip_second l.x-iterator)) l.less
    l.gates) l.fn.gates l.gates
    (iter_rest (zip_first l.x-iterator)) (iter_rest (zip_second l.x-iterator)) [] (l.less ∷ [])
