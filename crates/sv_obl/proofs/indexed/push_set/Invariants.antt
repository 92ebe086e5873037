use Rattle.std.proofs.Common.{◌≡◌, ◌++◌}
use Rattle.sv_obl.proofs.indexed.push_set.Given as goal

-- the numbers so far, and those that are left
abbrev pub invariant-loop-number : goal.invariant-loop-number
invariant-loop-number l = l.names.items ++ l.number-iterator ≡ l.initial.names.items ++ l.set.keys
