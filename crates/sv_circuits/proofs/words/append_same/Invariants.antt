use Rattle.std.proofs.Common.{◌≡◌, ◌++◌}
use Rattle.std.specs.Prelude.{replicate}
use Rattle.sv_circuits.proofs.words.append_same.Given as goal

abbrev pub invariant-fill : goal.invariant-fill
invariant-fill l = l.word.items ≡ l.initial.word.items ++ replicate l.counter l.fill
