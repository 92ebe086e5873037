use Rattle.std.proofs.Common.{◌*◌, ◌^◌, ◌∙◌, sym}
use Rattle.sv_num.proofs.NumberLemmas.{word_low, shifted_out}
use Rattle.sv_num.proofs.binary.shifted_left.Goals as goal

pub returns-then-amount-lt64 : goal.returns-then-amount-lt64
returns-then-amount-lt64 c =
    let given = rw (c.width.ensures.width, c.value.ensures.value) at c.low_bits.ensures in
    given ∙ word_low (c.args.a.value * 2 ^ c.args.amount) c.args.a.width c.args.a.in_range.1

pub returns-else-amount-lt64 : goal.returns-else-amount-lt64
returns-else-amount-lt64 c =
    sym (shifted_out c.args.a.width c.args.a.value c.args.amount c.args.a.in_range.1
    c.if-amount-lt64.false)
