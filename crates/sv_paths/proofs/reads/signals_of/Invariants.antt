use Rattle.std.proofs.Common.{◌≡◌, ◌++◌, map}
use Rattle.sv_obl.specs.Views.{number_of}
use Rattle.sv_paths.proofs.reads.signals_of.Given as goal

-- the signals so far, and the numbers that are left
abbrev pub invariant-loop-number : goal.invariant-loop-number
invariant-loop-number l = map number_of l.signals.items ++ l.number-iterator ≡ l.set.keys
