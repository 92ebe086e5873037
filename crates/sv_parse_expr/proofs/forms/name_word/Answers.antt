use Rattle.std.proofs.Common.{sym, ap, ◌∙◌}
use Rattle.sv_parse_machine.specs.Verdict.{name_word}
use Rattle.sv_parse_expr.specs.Expectations.{expected_of}
use Rattle.sv_parse_expr.proofs.forms.name_word.Goals as goal

pub returns-else-is_refused : goal.returns-else-is_refused
returns-else-is_refused c =
    c.name_form.ensures c.args.text.now
    ∙ ap (λ b. name_word b c.args.text.now (expected_of c.args.expected)) (sym c.if-is_refused.false
    ∙ c.is_refused.ensures)
