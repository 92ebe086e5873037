use Rattle.std.proofs.Common.{◌≡◌, ◌++◌, ◌-◌}
use Rattle.sv_circuits.specs.Words.{number_word}
use Rattle.sv_circuits.proofs.words.number_word.Given as goal

abbrev pub invariant-bits : goal.invariant-bits
invariant-bits l =
    number_word l.fn.width l.fn.number
    ≡ l.word.items ++ number_word (l.fn.width - l.counter) l.left
