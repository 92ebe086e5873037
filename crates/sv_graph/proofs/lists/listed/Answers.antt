use Rattle.std.proofs.Common.{◌++◌, ◌∷◌, [], cond, false, get_or, sym, ap, ◌∙◌}
use Rattle.sv_graph.proofs.ListFacts.{filter_more}
use Rattle.sv_graph.proofs.lists.listed.Goals as goal

pub loop-s-preserved : goal.loop-s-preserved
loop-s-preserved c =
    c.in_ok-push_if.ensures
    ∙ ap (λ ss. ss ++ cond (get_or c.args.table.now c.loop-s.s false) (c.loop-s.s ∷ []) [])
    c.loop-s.invariant
    ∙ sym (filter_more (λ s. get_or c.args.table.now s false) c.loop-s.s)
