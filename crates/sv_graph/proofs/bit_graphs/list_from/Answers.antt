use Rattle.std.proofs.Common.{◌++◌, ◌∷◌, [], cond, ap₂, sym, ◌∙◌}
use Rattle.sv_graph.specs.BitGraphs.{in_row}
use Rattle.sv_graph.proofs.ListFacts.{filter_more}
use Rattle.sv_graph.proofs.bit_graphs.list_from.Goals as goal

pub loop-s-preserved : goal.loop-s-preserved
loop-s-preserved c =
    let s = c.loop-s.s in
    c.in_ok-push_if.ensures
    ∙ ap₂ (λ ss b. ss ++ cond b (s ∷ []) []) c.loop-s.invariant c.has_bit.ensures
    ∙ sym (filter_more (in_row c.args.row.now) s)
