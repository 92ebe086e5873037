use Rattle.std.proofs.Common.{Some, sym, ap, ◌∙◌}
use Rattle.sv_flat.specs.Views.{typed_tree, typed_trees}
use Rattle.sv_elab_rules.specs.CaseChains.{equals}
use Rattle.sv_elab_stmt.specs.Chains.{either, condition_of}
use Rattle.sv_elab_stmt.proofs.ChainFacts.{condition_push}
use Rattle.sv_elab_stmt.proofs.WalkFacts.{forms_push}
use Rattle.sv_elab_stmt.proofs.chains.condition.Goals as goal

pub loop-item-preserved : goal.loop-item-preserved
loop-item-preserved c =
    let s = typed_tree c.args.selector.now in
    let items = typed_trees c.loop-item.yielded in
    let item = typed_tree c.in-Some.item in
    ap (λ e. Some e)
    (c.in_ok-either.ensures
    ∙ ap (λ o. either o (typed_tree c.in_ok-equal.equal)) c.loop-item.invariant
    ∙ ap (either (condition_of s items)) (c.in_ok-equal.ensures
    ∙ ap (λ e. equals e item) c.in_ok-copy.ensures))
    ∙ sym (condition_push s items item)
    ∙ ap (condition_of s) (sym (forms_push typed_tree c.loop-item.yielded c.in-Some.item))
