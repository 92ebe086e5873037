use Rattle.std.proofs.Common.{◌≡◌, [], drop, fold, nat_cmp}
use Rattle.std.specs.BTreeSet.{insert_key}
use Rattle.sv_obl.proofs.indexed.set_of.Given as goal

-- the rest, put into the set, gives what all give
abbrev pub invariant-loop-name : goal.invariant-loop-name
invariant-loop-name l =
    fold (insert_key nat_cmp) l.set.keys (drop l.name-index l.names)
    ≡ fold (insert_key nat_cmp) [] l.names
