use Rattle.std.proofs.Common.{◌≡◌, ◌++◌, drop}
use Rattle.sv_circuits.specs.Words.{inverted_word}
use Rattle.sv_circuits.proofs.words.inverted.Given as goal

abbrev pub invariant-bits : goal.invariant-bits
invariant-bits l =
    inverted_word l.word ≡ l.made.items ++ inverted_word (drop l.literal-index l.word)
