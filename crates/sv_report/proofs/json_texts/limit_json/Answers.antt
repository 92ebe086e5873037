use Rattle.std.proofs.Common.{ap, ◌∙◌}
use Rattle.serde_json.specs.Written.{has_float}
use Rattle.sv_report.proofs.JsonFacts.{limit_whole}
use Rattle.sv_report.proofs.json_texts.limit_json.Goals as goal

pub line_of-requires : goal.line_of-requires
line_of-requires c =
    ap has_float c.in_ok-limit_value.ensures ∙ limit_whole c.args.number c.args.names.now
