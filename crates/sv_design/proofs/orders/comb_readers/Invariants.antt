use Rattle.std.proofs.Common.{◌≡◌}
use Rattle.sv_graph.specs.Graphs.{size}
use Rattle.sv_design.proofs.ReaderFacts.{HasReaders}
use Rattle.sv_design.proofs.orders.comb_readers.Given as goal

abbrev pub invariant-loop-reader : goal.invariant-loop-reader
invariant-loop-reader l =
    (size l.readers ≡ size l.reads) × HasReaders l.combs l.reads l.readers l.reader
