use Rattle.std.proofs.Common.{map, ap, ◌∙◌}
use Rattle.std.proofs.lemmas.List.{take_all}
use Rattle.sv_flat.specs.declared.signals.Signal.{Signal}
use Rattle.sv_flat.specs.Processes.{is_top_kind}
use Rattle.sv_graph.specs.Marks.{is_marked}
use Rattle.sv_blast.proofs.ConeStarts.{kinds_marked}
use Rattle.sv_blast.proofs.marks.marked_inputs.Goals as goal

pub returns-clause-marked : goal.returns-clause-marked
returns-clause-marked c =
    let items = c.signals-signal-items.result.now in
    λ s. ap (λ table. is_marked table s)
    (c.loop-signal.invariant
    ∙ ap (map (λ (x : Signal). is_top_kind x.kind))
    (take_all c.loop-signal.signal-index items c.loop-signal-test.false
    ∙ c.signals-signal-items.ensures.signals))
    ∙ kinds_marked c.args.design.now.signals.items s
