use Rattle.std.proofs.Common.{◌+◌, ◌*◌, ◌%◌, ◌^◌, ap, ◌∙◌, arith}
use Rattle.sv_width.proofs.Folds.{word_sum, far_behind}
use Rattle.sv_width.proofs.folding.behind.Goals as goal
use Rattle.sv_width.proofs.folding.behind.Goals.{then-next_width-lt64, else-next_width-lt64}

pub returns-clause-value : goal.returns-clause-value
returns-clause-value c =
    elim c.if-next_width-lt64.branch [
      | then-next_width-lt64 w ↦
          c.low_bits.ensures ∙ ap (λ y. (y + c.args.next) % 2 ^ 64 % 2 ^ c.args.width) w.high-is
          ∙ word_sum c.args.width (c.args.value * 2 ^ c.args.next_width) c.args.next c.requires.few
      | else-next_width-lt64 w ↦
          c.low_bits.ensures ∙ ap (λ y. (y + c.args.next) % 2 ^ 64 % 2 ^ c.args.width) w.high-is
          ∙ far_behind c.args.width c.args.next_width c.args.value c.args.next c.requires.few
          (omega arith)
    ]
