use Rattle.std.proofs.Common.{take}
use Rattle.sv_graph.specs.Numbers.{numbers}
use Rattle.sv_graph.specs.Queues.{Settles}
use Rattle.sv_graph.proofs.queues.Queue.settle_all.Given as goal

abbrev pub invariant-loop-reader : goal.invariant-loop-reader
invariant-loop-reader l = Settles l.initial.self l.self (take l.reader-index (numbers l.readers))
