use Rattle.std.proofs.Common.{◌*◌, ◌∙◌, sym}
use Rattle.sv_num.proofs.NumberLemmas.{word_low}
use Rattle.sv_num.proofs.BitsLemmas.{product_of}
use Rattle.sv_num.proofs.binary.product.Goals as goal

pub returns-clause-value : goal.returns-clause-value
returns-clause-value c =
    let low = rw (c.value.ensures.value, c.value-2.ensures.value, c.width.ensures.width) at
    c.low_bits.ensures in
    low ∙ word_low (c.args.a.value * c.args.b.value) c.args.a.width c.args.a.in_range.1
    ∙ sym (product_of c.args.a c.args.b c.requires.types.0)
