use Rattle.std.proofs.Common.{◌≡◌, ◌<◌, Bool, Vec, Global, length, map, sym, subst, ap, ◌∙◌}
use Rattle.std.proofs.Math.ListN.{length-map}
use Rattle.std.specs.Prelude.{Contains, is_some}
use Rattle.sv_flat.specs.Clocks.{is_edge}
use Rattle.sv_flat.specs.Views.{design_of, signal_form}
use Rattle.sv_flat.proofs.LeastSets.{those_below}
use Rattle.sv_rules.specs.DriverTables.{AreClocks}
use Rattle.sv_graph.specs.Numbers.{numbers}
use Rattle.sv_rules.proofs.TableFacts.{clocks_are}
use Rattle.sv_graph.proofs.FoundTables.{if_ok}
use Rattle.sv_rules.proofs.clocks.clock_table.Goals as goal

pub search_from-requires-clause-starts : goal.search_from-requires-clause-starts
search_from-requires-clause-starts c = λ k at.
    let design = design_of c.args.flat.now in
    subst (λ n. k < n) (length-map c.args.flat.now.signals.items signal_form
    ∙ sym c.in_ok-graph.ensures.size)
    (those_below (length design.signals) (is_edge design) k
    (subst (λ ks. Contains ks k) (ap numbers c.deref.ensures.value ∙ c.in_ok-edges.ensures) at))

pub returns : goal.returns
returns c =
    let design = design_of c.args.flat.now in
    let graph = c.in_ok-graph.graph in
    let search = c.in_ok-clocks.clocks in
    if_ok (λ (table : Vec Bool Global).
    table.items ≡ map is_some search.places.items) (λ (table : Vec Bool Global).
    AreClocks design table.items)
    c.table.result
    (λ table is. clocks_are design graph search (numbers c.deref.result.now) table.items
    (c.in_ok-graph.ensures.size ∙ sym (length-map c.args.flat.now.signals.items signal_form))
    c.in_ok-graph.ensures.edges
    (ap numbers c.deref.ensures.value ∙ c.in_ok-edges.ensures) c.in_ok-clocks.ensures is)
    c.table.ensures
