use Rattle.std.proofs.Common.{◌/◌, ◌<◌, ◌==◌, length, ap, sym, subst, ◌∙◌}
use Rattle.std.proofs.lemmas.Bool.{eqb-true}
use Rattle.sv_graph.specs.BitGraphs.{size}
use Rattle.sv_graph.proofs.BitRows.{row_at, inside_row, changed_over, changed_gains}
use Rattle.sv_graph.proofs.bit_graphs.BitGraph.add.Goals as goal

pub put_bit-requires : goal.put_bit-requires
put_bit-requires c =
    let self = c.args.self.now in
    let from = c.args.from.0 in
    let is = row_at self from c.index_mut.result.now c.requires.from c.index_mut.ensures.value in
    subst (λ n. c.args.to.0 / 64 < n)
    (sym (ap length (c.deref_mut.ensures.value ∙ is) ∙ (c.requires.over.1 from c.requires.from).0))
    (inside_row (size self) c.args.to.0 c.requires.to)

pub returns-clause-over : goal.returns-clause-over
returns-clause-over c =
    changed_over c.args.self.now c.args.from.0 c.index_mut.result.now c.put_bit.new.row
    c.deref_mut.result.now (λ b. c.args.to.0 == b) c.requires.from c.index_mut.ensures.value
    c.deref_mut.ensures.value c.put_bit.ensures.size c.put_bit.ensures.bits c.requires.over
    (λ b h. subst (λ z. z < size c.args.self.now) (eqb-true c.args.to.0 b h) c.requires.to)

pub returns-clause-gains : goal.returns-clause-gains
returns-clause-gains c =
    changed_gains c.args.self.now c.args.from.0 c.index_mut.result.now c.put_bit.new.row
    c.deref_mut.result.now (λ b. c.args.to.0 == b) c.requires.from c.index_mut.ensures.value
    c.deref_mut.ensures.value c.put_bit.ensures.size c.put_bit.ensures.bits
