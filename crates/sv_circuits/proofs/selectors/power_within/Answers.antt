use Rattle.std.proofs.Common.{◌≡◌, ◌^◌, ap, arith}
use Rattle.sv_circuits.proofs.ShiftSteps.{twice}
use Rattle.sv_circuits.proofs.selectors.power_within.Goals as goal

pub powers-preserved : goal.powers-preserved
powers-preserved c = twice c.powers.counter c.powers.power _ c.powers.invariant c.saturating_mul-power.ensures

pub returns : goal.returns
returns c =
    let same : c.powers.counter ≡ c.args.bits = omega arith in
    let e = ap (λ z. 2 ^ z) same in
    omega (arith, e, c.powers.invariant)
