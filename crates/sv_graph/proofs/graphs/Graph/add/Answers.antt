use Rattle.std.proofs.Common.{◌++◌, [], ◌∷◌, ap, ◌∙◌, Vec, Global}
use Rattle.std.proofs.lemmas.List.{map_push}
use Rattle.sv_flat.specs.declared.signals.SigId.{SigId}
use Rattle.sv_graph.specs.Numbers.{numbers}
use Rattle.sv_graph.proofs.GraphFacts.{row_more}
use Rattle.sv_graph.proofs.graphs.Graph.add.Goals as goal

pub returns-clause-adds : goal.returns-clause-adds
returns-clause-adds c =
    row_more (λ (row : Vec SigId Global).
    numbers row.items) c.args.self.now.rows.items c.args.from.0 c.args.to.0 c.push.new.self
    c.index_mut-row.result.now c.requires
    (ap numbers c.in_ok-push.ensures.items
    ∙ map_push (λ (s : SigId). s.0) c.index_mut-row.result.now.items c.args.to
    ∙ ap (λ (row : Vec SigId Global).
    numbers row.items ++ c.args.to.0 ∷ []) c.index_mut-row.ensures.value)
