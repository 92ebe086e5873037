use Rattle.std.proofs.Common.{◌≡◌, ◌∙◌, ◌+◌, ◌-◌, drop, take, length, arith}
use Rattle.std.proofs.lemmas.Result.{IfOk-weaker}
use Rattle.sv_circuits.specs.Words.{zero_filled, part_word}
use Rattle.sv_circuits.proofs.ShiftSteps.{part_is}
use Rattle.sv_circuits.proofs.words.part.Goals as goal

pub returns : goal.returns
returns c =
    IfOk-weaker c.zero_filled.result
    (λ made. made.items ≡ zero_filled (c.args.high - c.args.low + 1)
    (take (length c.args.word.now - c.min-from.result) (drop c.min-from.result c.args.word.now)))
    (λ made. made.items ≡ part_word c.args.high c.args.low c.args.word.now)
    (λ made e. e ∙ part_is c.args.high c.args.low (c.args.high - c.args.low + 1) c.min-from.result
    c.args.word.now (omega arith) c.min-from.ensures) c.zero_filled.ensures
