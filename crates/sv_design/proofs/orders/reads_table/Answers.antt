use Rattle.std.proofs.Common.{subst}
use Rattle.sv_graph.specs.Graphs.{size}
use Rattle.sv_design.proofs.ReaderFacts.{HasReaders, reads_are}
use Rattle.sv_design.proofs.orders.reads_table.Goals as goal

pub returns : goal.returns
returns c = λ design table rows.
    reads_are design _ table rows c.in_ok-readers.ensures.size c.requires.size c.requires.few
    (subst (λ combs. HasReaders combs c.args.reads c.in_ok-readers.readers (size c.args.reads))
    c.deref.ensures.value c.in_ok-readers.ensures.rows)
