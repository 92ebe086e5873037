use Rattle.std.proofs.Common.{◌≤◌, ◌^◌, arith}
use Rattle.std.proofs.Math.Pow.{pow_mono}
use Rattle.sv_blast.proofs.sizes_of_operators.power_within.Goals as goal

pub returns-else-bits-lt8 : goal.returns-else-bits-lt8
returns-else-bits-lt8 c =
    let more : 2 ^ 8 ≤ 2 ^ c.args.bits = pow_mono c.if-bits-lt8.false in
    omega (arith, more, c.ranges.most.fits)
