use Rattle.std.proofs.Common.{ap, ◌∙◌}
use Rattle.std.proofs.lemmas.Result.{IfOk-weaker}
use Rattle.serde_json.specs.Written.{has_float}
use Rattle.sv_flat.specs.Views.{design_of}
use Rattle.sv_obl.specs.Views.{goal_form}
use Rattle.sv_report.specs.JsonTexts.{json_line}
use Rattle.sv_report.proofs.JsonFacts.{flow_whole}
use Rattle.sv_report.proofs.json_flows.flow_json.Goals as goal

pub line_of-requires : goal.line_of-requires
line_of-requires c =
    ap has_float c.in_ok-value.ensures
    ∙ flow_whole (design_of c.args.design.now) c.args.number (goal_form c.args.query.now.goal)
    c.in_ok-read.read.0 c.args.v.now

pub returns : goal.returns
returns c =
    IfOk-weaker c.line_of.result _ _
    (λ text is. record {
      read = c.in_ok-read.read.0;
      first = c.in_ok-read.ensures.first;
      prints = is ∙ ap json_line c.in_ok-value.ensures;
    })
    c.line_of.ensures
