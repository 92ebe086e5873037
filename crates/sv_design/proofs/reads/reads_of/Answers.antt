use Rattle.std.proofs.Common.{◌≡◌, ◌<◌, ℕ, length, sym, subst, ◌∙◌}
use Rattle.std.proofs.Math.ListN.{length-map}
use Rattle.sv_flat.specs.Views.{design_of, signal_form}
use Rattle.sv_graph.specs.BitGraphs.{size, has_edge}
use Rattle.sv_graph.specs.BitGraphs.{leads_through}
use Rattle.sv_graph.proofs.BitRows.{edge_inside}
use Rattle.sv_design.proofs.FeedFacts.{rows_are, edge_is}
use Rattle.sv_graph.proofs.GraphFacts.{turned_edge, turned_whole}
use Rattle.sv_design.proofs.reads.reads_of.Goals as goal

pub returns-clause-reads : goal.returns-clause-reads
returns-clause-reads c =
    let design = design_of c.args.flat.now in
    let count = length-map c.args.flat.now.signals.items signal_form in
    let settled = c.in_ok-readers.readers in
    let earlier = c.in_ok-earlier.earlier in
    let all = c.follow_earlier.new.graph in
    let graph = c.add_registers.new.graph in
    rows_are design graph c.in_ok-reads.reads
    (c.add_registers.ensures.over.0 ∙ c.in_ok-follow_earlier.ensures.over.0
    ∙ c.in_ok-readers.ensures.over.0 ∙ sym count)
    c.in_ok-reads.ensures.size c.in_ok-reads.ensures.turned
    (edge_is design c.requires.drivers settled earlier all graph c.args.registers.now
    (length c.args.flat.now.signals.items) (sym count)
    c.requires.registers c.in_ok-readers.ensures.edges c.in_ok-earlier.ensures.edges
    (subst (λ m. (a b : ℕ) → b < m
    → has_edge all a b ≡ leads_through m (has_edge settled) (has_edge earlier) a b)
    c.in_ok-readers.ensures.over.0 c.in_ok-follow_earlier.ensures.edges)
    c.add_registers.ensures.gains)

pub returns-clause-wants : goal.returns-clause-wants
returns-clause-wants c =
    let earlier = c.in_ok-earlier.earlier in
    let wants = c.in_ok-wants.wants in
    let turned = c.in_ok-wants.ensures.turned in (
      c.in_ok-wants.ensures.size ∙ c.in_ok-earlier.ensures.over.0
          ∙ sym (length-map c.args.flat.now.signals.items signal_form),
      turned_whole (has_edge earlier) wants (size earlier) turned c.in_ok-wants.ensures.size,
      λ a b. turned_edge (has_edge earlier) wants (size earlier) turned (edge_inside earlier) b a
          ∙ c.in_ok-earlier.ensures.edges b a,
    )
