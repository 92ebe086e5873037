use Rattle.std.specs.Slice.Iter.{iter_rest}
use Rattle.std.specs.Iterator.Adapters.{zip_first, zip_second}
use Rattle.sv_circuits.specs.Operators.{sum_word}
use Rattle.sv_circuits.proofs.SumSteps.{SumAt}
use Rattle.sv_circuits.proofs.adders.sum_with.Given as goal

abbrev pub invariant-sum : goal.invariant-sum
invariant-sum l =
    SumAt (sum_word l.fn.a l.fn.b l.fn.carry l.fn.gates) l.fn.gates
    (iter_rest (zip_first l.x-iterator)) (iter_rest (zip_second l.x-iterator))
    l.word.items l.next l.gates
