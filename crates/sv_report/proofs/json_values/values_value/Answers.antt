use Rattle.std.proofs.Common.{length}
use Rattle.sv_trace.proofs.FormFacts.{known_at}
use Rattle.sv_report.proofs.json_values.values_value.Goals as goal

pub put_value-requires : goal.put_value-requires
put_value-requires c =
    known_at (length c.args.signals.now) c.args.listed.now c.loop-i.i (record { 0 = 0 })
    c.requires.known c.loop-i-test.true
