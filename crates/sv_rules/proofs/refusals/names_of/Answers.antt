use Rattle.std.proofs.Common.{get_or}
use Rattle.sv_graph.proofs.SignalLists.{no_signal, number_among}
use Rattle.sv_rules.proofs.refusals.names_of.Goals as goal

pub name_of-requires : goal.name_of-requires
name_of-requires c =
    let signals = c.args.signals.now in
    let i = c.loop-signal.signal-index in
    c.requires (get_or signals i no_signal).0 (number_among signals i c.loop-signal-test.true)
