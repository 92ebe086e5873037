use Rattle.std.proofs.Common.{ap, ◌∙◌, ◌-◌, ◌++◌, arith}
use Rattle.std.specs.Prelude.{replicate}
use Rattle.sv_circuits.proofs.WordKeeps.{filled_at}
use Rattle.sv_circuits.proofs.words.filled.Goals as goal

pub returns : goal.returns
returns c =
    c.in_ok-append_same.ensures
    ∙ ap (λ z. z ++ replicate (c.args.width - c.min-kept.result) c.args.fill) c.in_ok-made.ensures
    ∙ filled_at c.args.fill c.args.width c.args.width c.min-kept.result _ c.args.word.now
    (omega arith) (omega arith) (omega arith)
