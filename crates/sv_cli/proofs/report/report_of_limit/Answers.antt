use Rattle.std.proofs.Common.{Some, refl, ap, ◌∙◌}
use Rattle.sv_num.specs.Rules.{rule_number}
use Rattle.sv_report.specs.Styles.{limit_in}
use Rattle.sv_cli.specs.Answer.{limit_exceeded}
use Rattle.sv_cli.proofs.report.report_of_limit.Goals as goal

pub returns : goal.returns
returns c =
    let names = c.args.names.items in
    let style = c.args.style in (
      limit_exceeded (rule_number c.args.limit) names,
      ap (λ n. Some (limit_exceeded n names)) c.number-number.ensures,
      record {
        answers = refl;
        prints =
            c.in_ok-text.ensures ∙ ap (limit_in style c.number-number.result) c.deref.ensures.value
            ∙ ap (λ n. limit_in style n names) c.number-number.ensures;
      },
    )
