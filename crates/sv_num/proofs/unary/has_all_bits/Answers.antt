use Rattle.std.proofs.Common.{◌≡◌, arith, ap, ◌∙◌, ◌==◌, ◌-◌, ◌^◌}
use Rattle.std.proofs.lemmas.Nat.{pow_pos}
use Rattle.sv_num.proofs.NumberLemmas.{low_inverted}
use Rattle.sv_num.proofs.unary.has_all_bits.Goals as goal

pub returns : goal.returns
returns c =
    let a = c.args.a in
    let given = rw c.width.ensures.width at c.low_bits.ensures in
    let ones : 2 ^ a.width - 1 - 0 ≡ 2 ^ a.width - 1 = omega arith in
    ap (λ r. c.value.result == r) (given
    ∙ low_inverted a.width 0 a.in_range.1 (pow_pos a.width) ∙ ones)
    ∙ ap (λ v. v == 2 ^ a.width - 1) c.value.ensures.value
