use Rattle.std.proofs.Common.{◌≡◌, ◌++◌, take, codes}
use Rattle.std.specs.List.{flat_map}
use Rattle.std.specs.Fmt.{signed_decimal}
use Rattle.sv_blast.proofs.cnf_text.push_literals.Given as goal

abbrev pub invariant-literals : goal.invariant-literals
invariant-literals l =
    l.text.items ≡ l.fn.text.items ++ flat_map (λ literal.
    signed_decimal literal ++ codes " ") (take l.literal-index l.literals)
