use Rattle.std.proofs.Common.{◌≡◌, fold, nat_cmp}
use Rattle.std.specs.BTreeSet.{insert_key}
use Rattle.sv_paths.proofs.reads.add_of_set.Given as goal

-- the rest, put into the set, gives what all give
abbrev pub invariant-loop-name : goal.invariant-loop-name
invariant-loop-name l =
    fold (insert_key nat_cmp) l.names.keys l.name-iterator
    ≡ fold (insert_key nat_cmp) l.initial.names.keys l.set.keys
