use Rattle.std.proofs.Common.{◌≡◌, ◌+◌, ◌∷◌, ◌||◌, length, map, drop, refl, sym, ap, subst, ◌∙◌}
use Rattle.std.proofs.Math.ListN.{length-map}
use Rattle.std.proofs.lemmas.List.{at_drop_all, at_drop_more}
use Rattle.sv_flat.specs.Clocks.{lists_pair}
use Rattle.sv_flat.specs.Views.{design_of, process_form, signal_form}
use Rattle.sv_graph.specs.Graphs.{size, has_edge, GainsEdges}
use Rattle.sv_rules.specs.Links.{is_pair, IsBelow, edge_of, edges_of}
use Rattle.sv_graph.proofs.GraphFacts.{edges_more, edges_end}
use Rattle.sv_rules.proofs.LinkFacts.{pair_first, edge_below}
use Rattle.sv_rules.proofs.Sound.{process_at}
use Rattle.sv_rules.proofs.links.add_edges.Goals as goal

pub loop-process-init : goal.loop-process-init
loop-process-init c = (refl, λ a b. refl, λ whole. whole)

pub add_edge-requires : goal.add_edge-requires
add_edge-requires c =
    let edges = c.args.edges in
    let design = design_of c.args.flat.now in
    let p = process_form c.process-item.result in
    let sound = process_at c.args.flat.now _ _ _ c.deref-process-items.ensures.value
    c.loop-process-test.true c.process-item.is c.requires.sound in
    let size_is : length design.signals ≡ size c.loop-process.graph =
    length-map c.args.flat.now.signals.items signal_form
    ∙ sym (c.loop-process.invariant.0 ∙ c.requires.size) in
    subst (IsBelow (size c.loop-process.graph)) (sym c.edge_of.ensures)
    (subst (λ n. IsBelow n (edge_of edges p)) size_is (edge_below edges design p sound))

pub loop-process-preserved : goal.loop-process-preserved
loop-process-preserved c =
    let edges = c.args.edges in
    let processes = c.deref-process-items.result.now in
    let i = c.loop-process.process-index in
    let p = c.process-item.result in
    let rest = map process_form (drop (i + 1) processes) in (
      c.in_ok-add_edge.ensures.size ∙ c.loop-process.invariant.0,
      edges_more (has_edge c.args.graph.now) (has_edge c.loop-process.graph)
          (has_edge c.add_edge.new.graph)
          (lists_pair (edges_of edges (map process_form processes)))
          (lists_pair (edges_of edges (map process_form (drop i processes))))
          (is_pair (edge_of edges (process_form p)))
          (lists_pair (edges_of edges rest))
          (λ a b.
          at_drop_more (λ ps. lists_pair (edges_of edges (map process_form ps)) a b) processes i p
          c.loop-process-test.true
          ∙ ap (λ q. lists_pair (edges_of edges (process_form q ∷ rest)) a b)
          (sym c.process-item.is)
          ∙ pair_first (edge_of edges (process_form p)) (edges_of edges rest) a b)
          (λ a b. c.in_ok-add_edge.ensures.gains a b
          ∙ ap (λ o. has_edge c.loop-process.graph a b || is_pair o a b) c.edge_of.ensures)
          c.loop-process.invariant.1,
      λ whole. c.in_ok-add_edge.ensures.whole (c.loop-process.invariant.2 whole),
    )

pub returns-clause-gains : goal.returns-clause-gains
returns-clause-gains c =
    let edges = c.args.edges in
    let processes = c.deref-process-items.result.now in
    subst (λ ps. GainsEdges c.args.graph.now c.loop-process.graph
    (lists_pair (edges_of edges (map process_form ps))))
    c.deref-process-items.ensures.value (
    edges_end (has_edge c.args.graph.now) (has_edge c.loop-process.graph)
    (lists_pair (edges_of edges (map process_form processes)))
    (lists_pair (edges_of edges (map process_form (drop c.loop-process.process-index processes))))
    (λ a b. at_drop_all (λ ps. lists_pair (edges_of edges (map process_form ps)) a b) processes
    c.loop-process.process-index c.loop-process-test.false)
    c.loop-process.invariant.1
    )
