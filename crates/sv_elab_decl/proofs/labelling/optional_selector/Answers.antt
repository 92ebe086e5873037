use Rattle.std.proofs.Common.{◌≡◌, Some, ◌∙◌}
use Rattle.std.proofs.lemmas.Result.{err_from_is_err_and}
use Rattle.sv_ast.specs.Instances.{is_signal}
use Rattle.sv_elab_rules.specs.Walks.{ask}
use Rattle.sv_elab_rules.specs.Rules.{bad_label}
use Rattle.sv_elab_rules.specs.LabelSteps.{second_selector}
use Rattle.sv_width.specs.Scopes.{bindings_of, names_of}
use Rattle.sv_elab_decl.proofs.Faults.{breach_on}
use Rattle.sv_elab_decl.proofs.LabelEnds.{second_selected}
use Rattle.sv_elab_decl.proofs.labelling.optional_selector.Goals as goal

pub returns-in_err-selector-in-Some-clause-broken :
    goal.returns-in_err-selector-in-Some-clause-broken
returns-in_err-selector-in-Some-clause-broken c =
    let known = c.args.scope.now in
    let n = c.in-Some.name in
    let is : c.args.name.now ≡ Some n = cc in
    let p = err_from_is_err_and c.from_residual.result c.from_residual.ensures.1 in
    rw (p.1, p.2)
    (breach_on c.in_err-selector-in-Some.field-0.0
    (ask (is_signal (bindings_of known n)) (bad_label c.args.place n)).end
    (second_selector (names_of known) c.args.place c.args.name.now).end
    (λ s e. second_selected (names_of known) c.args.place c.args.name.now n is ∙ e)
    c.in_err-selector-in-Some.ensures.broken)
