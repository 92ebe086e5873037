use Rattle.std.proofs.Common.{length, ap, sym, ◌∙◌}
use Rattle.sv_graph.specs.BitGraphs.{in_row}
use Rattle.sv_graph.proofs.BitRows.{row_at, changed_over, changed_gains}
use Rattle.sv_graph.proofs.bit_graphs.BitGraph.add_row.Goals as goal

pub put_row-requires : goal.put_row-requires
put_row-requires c =
    let from = c.args.from.0 in
    let is = row_at c.args.self.now from c.index_mut.result.now c.requires.from
    c.index_mut.ensures.value in
    c.requires.targets.0
    ∙ sym (ap length (c.deref_mut.ensures.value ∙ is) ∙ (c.requires.over.1 from c.requires.from).0)

pub returns-clause-over : goal.returns-clause-over
returns-clause-over c =
    changed_over c.args.self.now c.args.from.0 c.index_mut.result.now c.put_row.new.row
    c.deref_mut.result.now (in_row c.args.targets.now) c.requires.from c.index_mut.ensures.value
    c.deref_mut.ensures.value c.put_row.ensures.size c.put_row.ensures.bits c.requires.over
    c.requires.targets.1

pub returns-clause-gains : goal.returns-clause-gains
returns-clause-gains c =
    changed_gains c.args.self.now c.args.from.0 c.index_mut.result.now c.put_row.new.row
    c.deref_mut.result.now (in_row c.args.targets.now) c.requires.from c.index_mut.ensures.value
    c.deref_mut.ensures.value c.put_row.ensures.size c.put_row.ensures.bits
