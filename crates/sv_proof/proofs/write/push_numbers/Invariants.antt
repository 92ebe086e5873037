use Rattle.std.proofs.Common.{◌≡◌, ◌++◌, take, decimal}
use Rattle.std.specs.List.{flat_map}
use Rattle.sv_proof.specs.Certificate.{word}
use Rattle.sv_proof.proofs.write.push_numbers.Given as goal

abbrev pub invariant-numbers : goal.invariant-numbers
invariant-numbers l =
    l.text.items ≡ l.fn.text.items ++ flat_map (λ number.
    word (decimal number)) (take l.number-index l.numbers)
