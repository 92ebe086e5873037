use Rattle.std.proofs.Common.{length}
use Rattle.sv_trace.proofs.FormFacts.{known_at}
use Rattle.sv_report.proofs.flow_texts.push_value_lines.Goals as goal

pub push_value_line-requires : goal.push_value_line-requires
push_value_line-requires c =
    known_at (length c.args.signals.now) c.args.listed.now c.loop-i.i (record { 0 = 0 })
    c.requires.known c.loop-i-test.true
