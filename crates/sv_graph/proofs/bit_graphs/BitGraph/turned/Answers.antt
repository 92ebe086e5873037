use Rattle.std.proofs.Common.{◌≡◌, ◌<◌, ◌++◌, ◌∷◌, [], cond, length, get_or, sym, ap, subst, ◌∙◌}
use Rattle.std.specs.Prelude.{Contains}
use Rattle.sv_flat.specs.Sets.{holds, those}
use Rattle.sv_flat.proofs.LeastSets.{those_below}
use Rattle.sv_graph.specs.BitGraphs.{in_row, size, row, has_edge}
use Rattle.sv_graph.specs.Graphs.{row as graph_row}
use Rattle.sv_graph.specs.Numbers.{numbers}
use Rattle.sv_graph.proofs.BitRows.{row_at, listed_row}
use Rattle.sv_graph.proofs.ListFacts.{filter_more}
use Rattle.sv_graph.proofs.GraphFacts.{turned_below}
use Rattle.sv_graph.proofs.bit_graphs.BitGraph.turned.Goals as goal

pub add_sources-requires : goal.add_sources-requires
add_sources-requires c = λ k at.
    let self = c.args.self.now in
    let sources = ap numbers c.deref-in-loop-from.ensures.value ∙ c.in_ok-targets.ensures in
    let count : c.len-in-loop-from.result ≡ size self =
    c.len-in-loop-from.ensures ∙ self.rows.ok.0 in
    subst (λ n. k < n) (count ∙ sym c.loop-from.invariant.0)
    (those_below c.len-in-loop-from.result (in_row c.deref.result.now) k
    (subst (λ ks. Contains ks k) sources at))

pub loop-from-preserved : goal.loop-from-preserved
loop-from-preserved c =
    let self = c.args.self.now in
    let turned = c.loop-from.turned in
    let from = c.loop-from.from in
    let v = c.row-item.result in
    let items = c.deref-row-items.ensures.value in
    let inside : from < size self =
    subst (λ rows. from < length rows) items c.loop-from-test.true in
    let is = c.deref.ensures.value
    ∙ row_at self from v inside (subst (λ rows. v ≡ get_or rows from v) items c.row-item.is) in
    let count : c.len-in-loop-from.result ≡ size self =
    c.len-in-loop-from.ensures ∙ self.rows.ok.0 in
    let sources = ap numbers c.deref-in-loop-from.ensures.value ∙ c.in_ok-targets.ensures
    ∙ ap (λ xs. those c.len-in-loop-from.result (in_row xs)) is
    ∙ ap (λ n. those n (in_row (row self from))) count in (
      c.in_ok-add_sources.ensures.size ∙ c.loop-from.invariant.0,
      λ b.
          c.in_ok-add_sources.ensures.adds
          (turned_below (has_edge self) turned from c.loop-from.invariant.1) b
          ∙ ap (λ h. graph_row turned b ++ cond h (from ∷ []) [])
          (ap (λ ks. holds ks b) sources
          ∙ listed_row (size self) (row self from) (c.requires.over.1 from inside) b)
          ∙ ap (λ r. r ++ cond (has_edge self from b) (from ∷ []) []) (c.loop-from.invariant.1 b)
          ∙ sym (filter_more (λ a. has_edge self a b) from),
    )
