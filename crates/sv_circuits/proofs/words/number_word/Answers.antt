use Rattle.std.proofs.Common.{arith}
use Rattle.sv_circuits.proofs.WordSteps.{number_start, number_more, number_done}
use Rattle.sv_circuits.proofs.words.number_word.Goals as goal

pub bits-init : goal.bits-init
bits-init c = number_start _ c.args.width c.args.number c.in_ok-word.ensures.items

pub bits-preserved : goal.bits-preserved
bits-preserved c =
    let items = rw c.low_literal.ensures at c.in_ok-push.ensures.items in
    rw items (number_more _ _ _ _ _ (omega arith) c.bits.invariant)

pub returns : goal.returns
returns c = number_done _ _ _ _ _ (omega arith) c.bits.invariant
