use Rattle.std.proofs.Common.{ap, ◌∙◌, ◌+◌, ◌-◌, ◌++◌, drop, take, length, arith}
use Rattle.sv_circuits.proofs.ShiftSteps.{replaced_is}
use Rattle.sv_circuits.proofs.words.replaced.Goals as goal

pub returns : goal.returns
returns c =
    c.in_ok-append_word-2.ensures
    ∙ ap (λ z. z ++ take (length c.args.word.now - c.min-above.result)
    (drop c.min-above.result c.args.word.now)) c.in_ok-append_word.ensures
    ∙ replaced_is c.args.high c.args.low (c.args.high - c.args.low + 1) c.min-below.result
    c.min-above.result c.args.word.now c.args.piece.now c.in_ok-made.made.items
    c.deref.result.now c.in_ok-made.ensures c.min-below.ensures
    (c.deref.ensures.value ∙ c.in_ok-bits.ensures) (omega arith) c.min-above.ensures
