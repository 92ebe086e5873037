use Rattle.std.proofs.Common.{◌≡◌, ◌-◌, length}
use Rattle.sv_encoding.specs.Cones.{conditions_of}
use Rattle.sv_blast.specs.Encoders.{obligation_in}
use Rattle.sv_blast.specs.Framed.{IsBegun}
use Rattle.sv_blast.proofs.encoding.Encoder.make_truths.Given as goal

abbrev pub invariant-truths : goal.invariant-truths
invariant-truths l = IsBegun l.self l.made

abbrev pub decreases-truths : goal.decreases-truths
decreases-truths l =
    length (conditions_of (obligation_in l.self)) - length l.made.truths.items
