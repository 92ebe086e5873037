use Rattle.std.specs.Prelude.{bit_or, bit_xor}
use Rattle.std.proofs.lemmas.Nat.{xor_lt, or_lt}
use Rattle.sv_num.proofs.BitsLemmas.{both_low}
use Rattle.sv_num.proofs.binary.apply_binary.Goals as goal

pub with_value-requires-in-Xor : goal.with_value-requires-in-Xor
with_value-requires-in-Xor c =
    let types = rw c.in-Xor.is at c.requires.types in
    rw (c.value-in-Xor.ensures.value, c.value-in-Xor-2.ensures.value)
    (both_low c.args.a c.args.b types.0 bit_xor xor_lt)

pub inverted-requires-clause-low : goal.inverted-requires-clause-low
inverted-requires-clause-low c =
    let types = rw c.in-Xnor.is at c.requires.types in
    rw (c.value-in-Xnor.ensures.value, c.value-in-Xnor-2.ensures.value, c.width.ensures.width)
    (both_low c.args.a c.args.b types.0 bit_xor xor_lt)

pub with_value-requires-in-Or : goal.with_value-requires-in-Or
with_value-requires-in-Or c =
    let types = rw c.in-Or.is at c.requires.types in
    rw (c.value-in-Or.ensures.value, c.value-in-Or-2.ensures.value)
    (both_low c.args.a c.args.b types.0 bit_or or_lt)
