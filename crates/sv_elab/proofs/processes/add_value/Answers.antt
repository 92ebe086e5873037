use Rattle.std.proofs.Common.{map, ap, sym, ◌∙◌}
use Rattle.std.specs.Prelude.{Ok, option_map}
use Rattle.std.proofs.lemmas.Result.{err_from_is_err_and}
use Rattle.sv_ast.specs.Scopes.{width_of}
use Rattle.sv_ast.specs.Views.{declaration_tree, expression_tree}
use Rattle.sv_flat.specs.Design.{continuous}
use Rattle.sv_flat.specs.Views.{signal_form, typed_tree}
use Rattle.sv_elab_rules.specs.ExpressionSteps.{expression_walk}
use Rattle.sv_elab_rules.specs.InstanceSteps.{Built, with_process, value_walk}
use Rattle.sv_elab_rules.specs.Links.{whole_assignment}
use Rattle.sv_width.specs.Scopes.{names_of}
use Rattle.sv_elab.specs.Instances.{built_form}
use Rattle.sv_elab.proofs.DeclaredLattices.{breach_on}
use Rattle.sv_elab.proofs.BuiltLemmas.{value_none, value_found, value_broken, with_pushed}
use Rattle.sv_elab.proofs.processes.add_value.Goals as goal

pub returns-in-None-clause-found : goal.returns-in-None-clause-found
returns-in-None-clause-found c =
    value_none (names_of c.args.scope.now) (built_form c.args.built.now)
    (declaration_tree c.args.decl.now) _
    (ap (λ v. option_map expression_tree v) c.in-None.is)

pub returns-in_err-value-clause-broken : goal.returns-in_err-value-clause-broken
returns-in_err-value-clause-broken c =
    let names = names_of c.args.scope.now in
    let e = expression_tree c.in-Some.value in
    let p = err_from_is_err_and c.from_residual.result c.from_residual.ensures.1 in
    rw (p.1, p.2)
    (breach_on c.in_err-value.field-0.0 _
    (value_walk names (built_form c.args.built.now) (declaration_tree c.args.decl.now)
    (option_map expression_tree c.args.decl.now.value)).end
    (λ s h. value_broken names (built_form c.args.built.now) (declaration_tree c.args.decl.now) _ e
    (ap (λ v. option_map expression_tree v) c.in-Some.is) s
    (ap (λ w. (expression_walk names e w).end) (sym c.width_of-width.ensures.width) ∙ h))
    c.in_err-value.ensures.broken)

pub returns-clause-found : goal.returns-clause-found
returns-clause-found c =
    let names = names_of c.args.scope.now in
    let d = declaration_tree c.args.decl.now in
    let built = c.args.built.now in
    let e = expression_tree c.in-Some.value in
    let v = typed_tree c.in_ok-value.value in
    value_found names (built_form built) d _ e
    (ap (λ v. option_map expression_tree v) c.in-Some.is) v
    (ap (λ w. (expression_walk names e w).end) (sym c.width_of-width.ensures.width)
    ∙ c.in_ok-value.ensures.found)
    ∙ ap (λ (b : Built). Ok b)
    (ap (λ n. with_process (built_form built)
    (whole_assignment d.place continuous n (width_of (names.scope d.name)) v))
    (sym c.number_of-signal.ensures)
    ∙ ap (λ w. with_process (built_form built)
    (whole_assignment d.place continuous c.number_of-signal.result.0 w v))
    (sym c.width_of-width.ensures.width)
    ∙ ap (with_process (built_form built)) (sym c.in_ok-process.ensures)
    ∙ with_pushed (map signal_form built.signals.items) built.instances built.processes.items
    c.push.new.self.items _ c.in_ok-push.ensures.items)
