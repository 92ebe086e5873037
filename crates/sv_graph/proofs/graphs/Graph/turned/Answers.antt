use Rattle.std.proofs.Common.{◌<◌, ◌++◌, ◌∷◌, [], cond, sym, ap, subst, ◌∙◌}
use Rattle.sv_flat.specs.Sets.{holds}
use Rattle.sv_flat.proofs.LeastSets.{holds-from_Contains}
use Rattle.sv_graph.specs.Graphs.{row, has_edge}
use Rattle.sv_graph.specs.Numbers.{numbers}
use Rattle.sv_graph.proofs.ListFacts.{filter_more}
use Rattle.sv_graph.proofs.GraphFacts.{row_reached, turned_below}
use Rattle.sv_graph.proofs.graphs.Graph.turned.Goals as goal

pub add_sources-requires : goal.add_sources-requires
add_sources-requires c = λ k at.
    let self = c.args.self.now in
    let from = c.loop-from.from in
    let is = row_reached self c.deref-row-items.result.now from c.row-item.result c.deref.result.now
    c.deref-row-items.ensures.value c.loop-from-test.true c.row-item.is c.deref.ensures.value in
    subst (λ n. k < n) (sym c.loop-from.invariant.0)
    (c.requires.whole from k (ap (λ r. holds r k) (sym is)
    ∙ holds-from_Contains (numbers c.deref.result.now) k at))

pub loop-from-preserved : goal.loop-from-preserved
loop-from-preserved c =
    let self = c.args.self.now in
    let from = c.loop-from.from in
    let is = row_reached self c.deref-row-items.result.now from c.row-item.result c.deref.result.now
    c.deref-row-items.ensures.value c.loop-from-test.true c.row-item.is c.deref.ensures.value in (
      c.in_ok-add_sources.ensures.size ∙ c.loop-from.invariant.0,
      λ b.
          c.in_ok-add_sources.ensures.adds
          (turned_below (has_edge self) c.loop-from.turned from c.loop-from.invariant.1) b
          ∙ ap (λ r. row c.loop-from.turned b ++ cond (holds r b) (from ∷ []) []) is
          ∙ ap (λ r. r ++ cond (has_edge self from b) (from ∷ []) []) (c.loop-from.invariant.1 b)
          ∙ sym (filter_more (λ a. has_edge self a b) from),
    )
