use Rattle.std.proofs.Common.{not, ◌&&◌, sym, subst}
use Rattle.std.specs.Prelude.{IsTrue}
use Rattle.sv_flat.specs.Processes.{is_block}
use Rattle.sv_flat.specs.Readings.{BitSet, no_bits}
use Rattle.sv_flat.specs.Views.{design_of, process_form, flat_statement}
use Rattle.sv_design.specs.Feeds.{feeds, sought_in}
use Rattle.sv_graph.specs.BitGraphs.{has_edge, GainsEdges}
use Rattle.sv_rules.specs.Surroundings.{in_surrounding}
use Rattle.sv_rules.specs.declared.surroundings.Surrounding.{Nothing}
use Rattle.sv_rules.proofs.BlockPasses.{in_surrounding-nothing}
use Rattle.sv_design.proofs.FeedFacts.{fed_by_none}
use Rattle.sv_graph.proofs.MarkFacts.{or_no}
use Rattle.sv_design.proofs.reads.follow_process.Goals as goal

pub returns-then-has_none-clause-gains : goal.returns-then-has_none-clause-gains
returns-then-has_none-clause-gains c = λ a b.
    let signals = (design_of c.args.flat.now).signals in
    let p = process_form c.args.process.now in
    let earlier = c.args.earlier in
    sym (or_no (has_edge c.args.graph.now a b)
    (feeds signals (sought_in earlier p) p.body no_bits a b)
    (fed_by_none signals a b (is_block p.kind) earlier
    (subst (λ z. IsTrue (earlier && not z)) c.is_block-in_block.ensures c.if-has_none.true) p.body
    no_bits))

pub returns-clause-gains : goal.returns-clause-gains
returns-clause-gains c =
    let signals = (design_of c.args.flat.now).signals in
    let body = flat_statement c.args.process.now.body in
    let earlier = c.args.earlier in
    subst (λ (z : BitSet). GainsEdges c.args.graph.now c.follow.new.graph
    (feeds signals (sought_in earlier (process_form c.args.process.now)) body z)) in_surrounding-nothing
    (subst (λ z. GainsEdges c.args.graph.now c.follow.new.graph
    (feeds signals (record { in_block = z; earlier = earlier }) body (in_surrounding Nothing)))
    c.is_block-in_block.ensures c.in_ok-follow.ensures.gains)
