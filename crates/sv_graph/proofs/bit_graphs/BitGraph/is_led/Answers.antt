use Rattle.std.proofs.Common.{◌<◌, length, sym, ap, subst, ◌∙◌}
use Rattle.std.specs.Prelude.{IsTrue}
use Rattle.std.proofs.lemmas.Bool.{or_right}
use Rattle.sv_flat.specs.Sets.{those}
use Rattle.sv_flat.proofs.LeastSets.{some_from, in_those}
use Rattle.sv_graph.specs.BitGraphs.{in_row, size, has_edge}
use Rattle.sv_graph.proofs.BitRows.{row_at, edge_below}
use Rattle.sv_graph.proofs.bit_graphs.BitGraph.is_led.Goals as goal

pub has_row-requires : goal.has_row-requires
has_row-requires c =
    let self = c.args.self.now in
    let from = c.args.from in
    let own = c.deref-2.ensures.value
    ∙ row_at self from c.index-2.result.now c.requires.from c.index-2.ensures in
    ap length c.deref-3.ensures.value ∙ c.in_ok-led.ensures.row.0
    ∙ sym (ap length own ∙ (c.requires.over.1 from c.requires.from).0)

pub returns : goal.returns
returns c = λ yes m b f h.
    let self = c.args.self.now in
    let first = c.args.first.now in
    let from = c.args.from in
    let n = size self in
    let inside : from < size first =
    subst (λ k. from < k) (sym c.requires.first.0) c.requires.from in
    let is = c.deref.ensures.value ∙ row_at first from c.index.result.now inside c.index.ensures in
    let own = c.deref-2.ensures.value
    ∙ row_at self from c.index-2.result.now c.requires.from c.index-2.ensures in
    let targets = those n (in_row c.deref.result.now) in
    let at = in_those n (in_row c.deref.result.now) m (edge_below n first c.requires.first from m f)
    (ap (λ xs. in_row xs m) is ∙ f) in
    let leads : IsTrue (in_row c.deref-3.result.now b) =
    ap (λ xs. in_row xs b) c.deref-3.ensures.value ∙ c.in_ok-led.ensures.bits b
    ∙ some_from (λ k. has_edge self k b) targets m at h in
    ap (λ xs. in_row xs b) (sym own) ∙ c.has_row.ensures yes b
    ∙ or_right (in_row c.deref-2.result.now b) (in_row c.deref-3.result.now b) leads
