use Rattle.std.proofs.Common.{◌≡◌, length}
use Rattle.std.specs.Slice.Iter.{iter_rest}
use Rattle.std.specs.Iterator.Adapters.{zip_first, zip_second}
use Rattle.sv_flat.specs.Views.{typed_trees}
use Rattle.sv_blast.proofs.sameness.+same_expressions.Given as goal

-- where what is left of the two is equal, all is, and as much is left of both
abbrev pub invariant-are_same-loop-one : goal.invariant-are_same-loop-one
invariant-are_same-loop-one l =
    (typed_trees (iter_rest (zip_first l.one-iterator))
    ≡ typed_trees (iter_rest (zip_second l.one-iterator))
    → typed_trees l.fn.ones ≡ typed_trees l.fn.others)
    × (length (iter_rest (zip_first l.one-iterator))
    ≡ length (iter_rest (zip_second l.one-iterator)))
