use Rattle.std.proofs.Common.{sym}
use Rattle.sv_graph.proofs.GraphFacts.{last_is, no_last}
use Rattle.sv_graph.proofs.graphs.ends_in.Goals as goal

pub returns-in-Some : goal.returns-in-Some
returns-in-Some c =
    last_is c.args.signals.now c.in-Some.last.now c.args.signal.0 (sym c.in-Some.ensures.value)

pub returns-in-None : goal.returns-in-None
returns-in-None c = no_last c.args.signals.now c.args.signal.0 (sym c.in-None.ensures.value)
