use Rattle.std.proofs.Common.{◌≡◌, ◌++◌}
use Rattle.std.specs.BTreeMap.{keys}
use Rattle.sv_obl.proofs.indexed.push_keys.Given as goal

-- the targets so far, and those that are left
abbrev pub invariant-loop-target : goal.invariant-loop-target
invariant-loop-target l =
    l.names.items ++ l.target-iterator ≡ l.initial.names.items ++ keys l.numbers
