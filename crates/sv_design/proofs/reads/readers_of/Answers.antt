use Rattle.std.proofs.Common.{◌≡◌, ℕ, ◌+◌, ◌||◌, length, map, get_or, drop, refl, sym, ap, subst, ◌∙◌}
use Rattle.std.proofs.Common.{arith}
use Rattle.std.specs.Prelude.{Contains}
use Rattle.std.proofs.lemmas.List.{at_drop_all}
use Rattle.std.proofs.lemmas.List.Elements.{Contains-get_or}
use Rattle.sv_system.proofs.Lists.{Contains-map}
use Rattle.sv_flat.specs.Design.{ProcessForm}
use Rattle.sv_flat.specs.Views.{design_of, process_form}
use Rattle.sv_flat.specs.Readings.{no_bits}
use Rattle.sv_graph.specs.BitGraphs.{has_edge, IsOver}
use Rattle.sv_design.specs.Feeds.{feeds, sought_in, feeds_in}
use Rattle.sv_graph.proofs.GraphFacts.{edges_more, edges_end}
use Rattle.sv_design.proofs.ReadFacts.{body_of_process}
use Rattle.sv_graph.proofs.ListFacts.{any_more}
use Rattle.sv_design.proofs.reads.readers_of.Goals as goal

pub loop-process-init : goal.loop-process-init
loop-process-init c = (
  (let same : c.len.result ≡
      length c.args.flat.now.signals.items = omega (arith, c.len.ensures) in
      subst (λ n. IsOver n c.in_ok-graph.graph) same c.in_ok-graph.ensures.over),
  λ a b. refl,
)

pub follow_process-requires-clause-body : goal.follow_process-requires-clause-body
follow_process-requires-clause-body c =
    let design = design_of c.args.flat.now in
    let processes = c.args.processes.now in
    let p = c.process-item.result in
    let i = c.loop-process.process-index in
    body_of_process design c.requires.sound (process_form p)
    (subst (λ ps. Contains ps (process_form p)) c.requires.processes
    (subst (λ q. Contains (map process_form processes) (process_form q)) (sym c.process-item.is)
    (Contains-map process_form processes (get_or processes i p)
    (Contains-get_or processes i p c.loop-process-test.true))))

pub loop-process-preserved : goal.loop-process-preserved
loop-process-preserved c =
    let signals = (design_of c.args.flat.now).signals in
    let processes = c.args.processes.now in
    let earlier = c.args.earlier in
    let i = c.loop-process.process-index in
    let p = process_form c.process-item.result in
    let test = λ (a b : ℕ) (q : ProcessForm).
    feeds signals (sought_in earlier q) q.body no_bits a b in (
      c.in_ok-follow_process.ensures.over,
      edges_more (has_edge c.in_ok-graph.graph) (has_edge c.loop-process.graph)
          (has_edge c.follow_process.new.graph)
          (feeds_in signals earlier (map process_form processes))
          (feeds_in signals earlier (map process_form (drop i processes)))
          (feeds signals (sought_in earlier p) p.body no_bits)
          (feeds_in signals earlier (map process_form (drop (i + 1) processes)))
          (λ a b. any_more process_form (test a b) processes i c.process-item.result
          c.loop-process-test.true c.process-item.is)
          c.in_ok-follow_process.ensures.gains c.loop-process.invariant.1,
    )

pub returns-clause-edges : goal.returns-clause-edges
returns-clause-edges c = λ a b.
    let signals = (design_of c.args.flat.now).signals in
    let processes = c.args.processes.now in
    let earlier = c.args.earlier in
    edges_end (has_edge c.in_ok-graph.graph) (has_edge c.loop-process.graph)
    (feeds_in signals earlier (map process_form processes))
    (feeds_in signals earlier (map process_form (drop c.loop-process.process-index processes)))
    (λ x y. at_drop_all (λ ps. feeds_in signals earlier (map process_form ps) x y) processes
    c.loop-process.process-index c.loop-process-test.false)
    c.loop-process.invariant.1 a b
    ∙ ap (λ t. t || feeds_in signals earlier (map process_form processes) a b)
    (c.in_ok-graph.ensures.edges a b)
    ∙ ap (λ ps. feeds_in signals earlier ps a b) c.requires.processes
