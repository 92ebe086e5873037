use Rattle.std.proofs.Common.{sym, subst, arith, ◌≡◌, ◌<◌, ◌≤◌, ◌^◌}
use Rattle.std.proofs.Math.Pow.{pow_mono}
use Rattle.sv_num.specs.Parts.{extended}
use Rattle.sv_flat.proofs.BitFacts.{unsigned_extended, nothing_extended}
use Rattle.sv_flat.proofs.bits.extended.Goals as goal
use Rattle.sv_flat.proofs.bits.extended.Goals.{then-from-eq0-via-then-from-eq0}
use Rattle.sv_flat.proofs.bits.extended.Goals.{then-from-eq0-via-else-from-eq0+then-not-signed}

pub returns-then-from-eq0-clause-value : goal.returns-then-from-eq0-clause-value
returns-then-from-eq0-clause-value c = elim c.then-from-eq0.branch [
  | then-from-eq0-via-then-from-eq0 w ↦
      let low = subst (λ n. c.args.read.1 < 2 ^ n) w.if-from-eq0.true c.requires.low in
      subst (λ n. c.args.read.1 ≡ extended c.args.signed n c.args.to c.args.read.1)
      (sym w.if-from-eq0.true)
      (sym (nothing_extended c.args.signed c.args.to c.args.read.1 low))
  | then-from-eq0-via-else-from-eq0+then-not-signed w ↦
      subst (λ s. c.args.read.1 ≡ extended s c.args.read.0 c.args.to c.args.read.1)
      (sym w.if-not-signed.true)
      (sym (unsigned_extended c.args.read.0 c.args.to c.args.read.1 c.requires.wider
      c.requires.low))
]

pub returns-then-from-eq0-clause-range : goal.returns-then-from-eq0-clause-range
returns-then-from-eq0-clause-range c =
    let more : 2 ^ c.args.read.0 ≤ 2 ^ c.args.to = pow_mono c.requires.wider in
    omega arith
