use Rattle.std.proofs.Common.{◌+◌, ◌*◌, ◌^◌, ◌<◌, ◌≤◌, arith, sym, ap, subst, ◌∙◌, add-one}
use Rattle.std.proofs.Common.{mul-le-mul_right}
use Rattle.sv_num.specs.Parts.{repeated}
use Rattle.sv_flat.proofs.BitFacts.{one_more_fits, fits_in_word}
use Rattle.sv_flat.proofs.bits.repeated.Goals as goal

pub beside-all-requires : goal.beside-all-requires
beside-all-requires c =
    let width = c.args.part.0 in
    let most : (c.loop.counter + 1) * width ≤ c.args.count * width =
    mul-le-mul_right width (omega arith) in
    fits_in_word ((c.loop.counter + 1) * width) _ (omega arith)
    (one_more_fits c.loop.counter c.loop.all width c.args.part.1 c.loop.invariant.1 c.requires.low)

pub loop-preserved : goal.loop-preserved
loop-preserved c =
    let width = c.args.part.0 in
    let value = c.args.part.1 in (
      c.beside-all.ensures ∙ ap (λ z. z * 2 ^ width + value) c.loop.invariant.0
          ∙ sym (ap (λ k. repeated k width value) (add-one c.loop.counter)),
      subst (λ z. z < 2 ^ ((c.loop.counter + 1) * width)) (sym c.beside-all.ensures)
          (one_more_fits c.loop.counter c.loop.all width value c.loop.invariant.1 c.requires.low),
    )
