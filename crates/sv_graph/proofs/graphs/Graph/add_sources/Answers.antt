use Rattle.std.proofs.Common.{◌≡◌, ◌<◌, ◌++◌, ◌∷◌, [], cond, get_or, take, sym, subst, ◌∙◌}
use Rattle.std.proofs.lemmas.List.{map_more}
use Rattle.sv_flat.specs.Sets.{holds}
use Rattle.sv_flat.specs.declared.signals.SigId.{SigId}
use Rattle.sv_graph.specs.Graphs.{row}
use Rattle.sv_graph.specs.Numbers.{numbers}
use Rattle.sv_graph.proofs.GraphFacts.{source_more}
use Rattle.sv_graph.proofs.SignalLists.{no_signal, number_among}
use Rattle.sv_graph.proofs.graphs.Graph.add_sources.Goals as goal

pub add_once-requires : goal.add_once-requires
add_once-requires c =
    let sources = c.args.sources.now in
    let from = get_or sources c.loop-from.from-index no_signal in
    subst (λ n. from.0 < n) (sym c.loop-from.invariant.0)
    (c.requires from.0 (number_among sources c.loop-from.from-index c.loop-from-test.true))

pub loop-from-preserved : goal.loop-from-preserved
loop-from-preserved c =
    let sources = c.args.sources.now in
    let i = c.loop-from.from-index in
    let from = get_or sources i no_signal in (
      c.in_ok-add_once.ensures.size ∙ c.loop-from.invariant.0,
      λ small a.
          subst (λ ks. row c.add_once.new.self a ≡
          row c.args.self.now a ++ cond (holds ks a) (c.args.to.0 ∷ []) [])
          (sym (map_more (λ (s : SigId). s.0) sources i no_signal c.loop-from-test.true))
          (source_more c.args.self.now c.loop-from.self c.add_once.new.self
          (numbers (take i sources)) from.0 c.args.to.0 small
          (c.loop-from.invariant.1 small) c.in_ok-add_once.ensures.adds a),
    )
