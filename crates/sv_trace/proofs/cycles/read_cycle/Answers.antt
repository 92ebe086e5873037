use Rattle.std.proofs.Common.{drop, sym, ap, ◌∙◌, arith}
use Rattle.std.specs.Option.{option_copied}
use Rattle.sv_trace.specs.Steps.{left_words}
use Rattle.sv_trace.specs.Stimulus.{are_values}
use Rattle.sv_trace.proofs.CycleWords.{no_word, no_width}
use Rattle.sv_trace.proofs.cycles.read_cycle.Goals as goal

pub returns-in_default-clause-right : goal.returns-in_default-clause-right
returns-in_default-clause-right c =
    c.words.invariant.tests
    ∙ (ap (λ r. are_values (drop c.words.width-index c.args.widths.now)
    (left_words (option_copied r))) c.in_default.is
    ∙ no_word c.args.widths.now c.words.width-index (omega arith))

pub returns-then-is_some-clause-right : goal.returns-then-is_some-clause-right
returns-then-is_some-clause-right c =
    c.words.invariant.tests
    ∙ no_width c.args.widths.now c.words.width-index c.words.rest (omega arith)
    (sym c.is_some.ensures ∙ c.if-is_some.true)
