use Rattle.std.proofs.Common.{◌<◌, ◌^◌, ◌∙◌, sym}
use Rattle.sv_num.proofs.NumberLemmas.{low_difference}
use Rattle.sv_num.proofs.BitsLemmas.{difference_of}
use Rattle.sv_num.proofs.binary.difference.Goals as goal

pub returns-clause-value : goal.returns-clause-value
returns-clause-value c =
    let low = rw (c.value.ensures.value, c.value-2.ensures.value, c.width.ensures.width) at
    c.low_bits.ensures in
    let second : c.args.b.value < 2 ^ c.args.a.width = rw c.requires.types.0 c.args.b.in_range.2 in
    low ∙ low_difference c.args.a.width c.args.a.value c.args.b.value c.args.a.in_range.1 second
    ∙ sym (difference_of c.args.a c.args.b c.requires.types.0)
