use Rattle.std.proofs.Common.{◌||◌, ap₂, ◌∙◌}
use Rattle.sv_flat.specs.Clocks.{link_in, link_out}
use Rattle.sv_flat.specs.Views.{design_of}
use Rattle.sv_rules.proofs.LinkFacts.{pairs_turned}
use Rattle.sv_rules.proofs.links.clock_graph.Goals as goal

pub returns-clause-edges : goal.returns-clause-edges
returns-clause-edges c = λ a b.
    let design = design_of c.args.flat.now in
    c.in_ok-add_edges-2.ensures.gains a b
    ∙ ap₂ ◌||◌ (c.in_ok-add_edges.ensures.gains a b
    ∙ ap₂ ◌||◌ (c.in_ok-graph.ensures.edges a b) (pairs_turned link_out a b design.processes))
    (pairs_turned link_in a b design.processes)
