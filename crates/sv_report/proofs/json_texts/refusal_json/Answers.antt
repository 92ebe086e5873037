use Rattle.std.proofs.Common.{ap, ◌∙◌}
use Rattle.serde_json.specs.Written.{has_float}
use Rattle.sv_report.proofs.JsonFacts.{refusal_whole}
use Rattle.sv_report.proofs.json_texts.refusal_json.Goals as goal

pub line_of-requires : goal.line_of-requires
line_of-requires c =
    let refusal = c.args.refusal.now in
    ap has_float c.in_ok-refusal_value.ensures
    ∙ refusal_whole refusal.number refusal.place refusal.names.items
