use Rattle.std.proofs.Common.{◌≡◌}
use Rattle.sv_circuits.specs.Words.{repeated_word}
use Rattle.sv_circuits.proofs.words.repeated.Given as goal

abbrev pub invariant-copies : goal.invariant-copies
invariant-copies l = l.made.items ≡ repeated_word l.counter l.word
