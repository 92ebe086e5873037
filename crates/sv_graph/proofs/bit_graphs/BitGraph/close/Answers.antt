use Rattle.std.proofs.Common.{◌≡◌, ℕ, sym, subst}
use Rattle.std.specs.Prelude.{IsTrue}
use Rattle.sv_graph.specs.declared.bit_graphs.BitGraph.{BitGraph}
use Rattle.sv_graph.specs.BitGraphs.{in_row, size, row, has_edge, ClosesUpTo}
use Rattle.sv_graph.proofs.BitRows.{edge_inside}
use Rattle.sv_graph.proofs.Ways.{ways_begin, ways_closed}
use Rattle.sv_graph.proofs.bit_graphs.BitGraph.close.Goals as goal

-- the edges of a copy
same_edges : (copy graph : BitGraph) → ((a : ℕ) → row copy a ≡ row graph a) →
    has_edge copy ≡ has_edge graph
same_edges copy graph rows = λ k a b. in_row (rows a k) b

-- what a pass over a graph, with a copy of it, leaves
after_pass : (copy graph led : BitGraph) → ((a : ℕ) → row copy a ≡ row graph a)
    → (ClosesUpTo (size graph) (has_edge copy) (has_edge graph) 0
    → ClosesUpTo (size graph) (has_edge copy) (has_edge led) 0)
    → ClosesUpTo (size graph) (has_edge graph) (has_edge led) 0
after_pass copy graph led rows pass =
    let n = size graph in
    let same = same_edges copy graph rows in
    subst (λ edges. ClosesUpTo n edges (has_edge led) 0) same
    (pass (subst (λ edges. ClosesUpTo n edges (has_edge graph) 0) (sym same)
    (ways_begin n (has_edge graph) (edge_inside graph))))

pub returns-then-branch-clause-ways : goal.returns-then-branch-clause-ways
returns-then-branch-clause-ways c =
    let self = c.args.self.now in
    let first = c.in_ok-first.first in
    let rows = c.in_ok-first.ensures.rows in
    let led = c.lead_in_order.new.self in
    ways_closed (size self) (has_edge self) (has_edge led) (edge_inside self)
    (λ a m b goes leads. c.in_ok-are_led.ensures c.if-branch.true a m b
    (subst (λ edges. IsTrue (edges a m)) (sym (same_edges first self rows)) goes) leads)
    (after_pass first self led rows c.in_ok-lead_in_order.ensures.ways)

pub returns-clause-ways : goal.returns-clause-ways
returns-clause-ways c =
    let self = c.args.self.now in
    let first = c.in_ok-first.first in
    let led = c.lead_in_order.new.self in
    let count = c.lead_in_order.ensures.over.0 in
    subst (λ n. ClosesUpTo n (has_edge self) (has_edge c.join_all.new.self) n) count
    (c.in_ok-join_all.ensures.ways (has_edge self)
    (subst (λ n. ClosesUpTo n (has_edge self) (has_edge led) 0) (sym count)
    (after_pass first self led c.in_ok-first.ensures.rows c.in_ok-lead_in_order.ensures.ways)))
