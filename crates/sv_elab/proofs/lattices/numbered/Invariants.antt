use Rattle.std.proofs.Common.{◌≡◌, ◌++◌, drop, map}
use Rattle.sv_ast.specs.Views.{pair_tree}
use Rattle.sv_elab_rules.specs.Lattices.{numbered_pair}
use Rattle.sv_elab.proofs.lattices.numbered.Given as goal

-- the pairs so far, with those that are left, are all
abbrev pub invariant-loop-lower : goal.invariant-loop-lower
invariant-loop-lower l =
    l.found.items ++ map (numbered_pair l.names.keys) (map pair_tree (drop l.lower-index l.pairs))
    ≡ map (numbered_pair l.names.keys) (map pair_tree l.pairs)
