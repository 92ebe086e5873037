use Rattle.std.proofs.Common.{◌≡◌, Option, Some, None, sym, ap, ◌∙◌}
use Rattle.std.specs.Prelude.{option_map}
use Rattle.sv_num.specs.declared.vectors.Bits.{Bits}
use Rattle.sv_ast.specs.Scopes.{Number}
use Rattle.sv_ast.specs.Views.{expression_tree, parameter_tree}
use Rattle.sv_elab_rules.specs.ExpressionSteps.{constant_walk}
use Rattle.sv_elab_rules.specs.Declarations.{override_of, final_walk}
use Rattle.sv_width.specs.Scopes.{names_ahead, number_of}
use Rattle.sv_elab_decl.specs.Sites.{site_of, bindings_in}
use Rattle.sv_elab_decl.proofs.Faults.{breach_on, ok_each, err_each}
use Rattle.sv_elab_decl.proofs.StepLemmas.{set_value, default_value}
use Rattle.sv_elab_decl.proofs.parameters.final_value.Goals as goal

pub returns-in-Some-clause-found : goal.returns-in-Some-clause-found
returns-in-Some-clause-found c =
    let names = names_ahead c.args.scope.now in
    let e = expression_tree c.args.param.now.value in
    let found : c.override_of.result ≡ Some c.in-Some.bits = cc in
    ap (λ (o : Option Number). (final_walk names o e).end)
    (sym c.override_of.ensures ∙ ap (λ (r : Option Bits). option_map number_of r) found)
    ∙ set_value names (number_of c.in-Some.bits) e

pub returns-in-None-clause-found : goal.returns-in-None-clause-found
returns-in-None-clause-found c =
    let names = names_ahead c.args.scope.now in
    let e = expression_tree c.args.param.now.value in
    let found : c.override_of.result ≡ None = cc in
    ok_each c.constant.result _ _
    (λ bits h. ap (λ (o : Option Number). (final_walk names o e).end)
    (sym c.override_of.ensures ∙ ap (λ (r : Option Bits). option_map number_of r) found)
    ∙ default_value names e ∙ h)
    c.constant.ensures.found

pub returns-in-None-clause-broken : goal.returns-in-None-clause-broken
returns-in-None-clause-broken c =
    let names = names_ahead c.args.scope.now in
    let e = expression_tree c.args.param.now.value in
    let found : c.override_of.result ≡ None = cc in
    let set = override_of (site_of c.args.site.now) (bindings_in c.args.scope.now)
    (parameter_tree c.args.param.now) in
    err_each c.constant.result _ _
    (λ f h. breach_on f (constant_walk names e).end (final_walk names set e).end
    (λ s stop. ap (λ (o : Option Number). (final_walk names o e).end)
    (sym c.override_of.ensures ∙ ap (λ (r : Option Bits). option_map number_of r) found)
    ∙ default_value names e ∙ stop) h)
    c.constant.ensures.broken
