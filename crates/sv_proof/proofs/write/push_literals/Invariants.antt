use Rattle.std.proofs.Common.{◌≡◌, ◌++◌, take}
use Rattle.std.specs.List.{flat_map}
use Rattle.std.specs.Fmt.{signed_decimal}
use Rattle.sv_proof.specs.Certificate.{word}
use Rattle.sv_proof.proofs.write.push_literals.Given as goal

abbrev pub invariant-literals : goal.invariant-literals
invariant-literals l =
    l.text.items ≡ l.fn.text.items ++ flat_map (λ literal.
    word (signed_decimal literal)) (take l.literal-index l.literals)
