use Rattle.std.proofs.Common.{map, ap, ◌∙◌}
use Rattle.std.specs.Prelude.{Ok}
use Rattle.std.specs.List.{list_all}
use Rattle.std.proofs.lemmas.Bool.{and_parts}
use Rattle.std.proofs.lemmas.Result.{err_from_is_err_and}
use Rattle.sv_ast.specs.Shape.{has_target, is_shaped_target}
use Rattle.sv_ast.specs.Views.{expression_tree, target_tree}
use Rattle.sv_flat.specs.Views.{signal_form, flat_statement}
use Rattle.sv_elab_rules.specs.InstanceSteps.{Built, assign_walk}
use Rattle.sv_width.specs.Scopes.{names_of}
use Rattle.sv_elab.specs.Instances.{built_form}
use Rattle.sv_elab.proofs.DeclaredLattices.{breach_on}
use Rattle.sv_elab.proofs.BuiltLemmas.{assign_found, assign_broken, whole_targets, with_pushed}
use Rattle.sv_elab.proofs.processes.add_assign.Goals as goal

pub assignment-requires-clause-targets : goal.assignment-requires-clause-targets
assignment-requires-clause-targets c =
    let ts = map target_tree c.args.targets.now in
    (and_parts (has_target ts) (list_all is_shaped_target ts)
    (whole_targets ts c.requires.targets)).1

pub returns-in_err-body-clause-broken : goal.returns-in_err-body-clause-broken
returns-in_err-body-clause-broken c =
    let names = names_of c.args.scope.now in
    let built = built_form c.args.built.now in
    let ts = map target_tree c.args.targets.now in
    let e = expression_tree c.args.value.now in
    let p = err_from_is_err_and c.from_residual.result c.from_residual.ensures.1 in
    rw (p.1, p.2)
    (breach_on c.in_err-body.field-0.0 _ (assign_walk names built ts c.args.place e).end
    (assign_broken names built ts c.args.place e) c.in_err-body.ensures.broken)

pub returns-clause-found : goal.returns-clause-found
returns-clause-found c =
    let built = c.args.built.now in
    assign_found (names_of c.args.scope.now) (built_form built) (map target_tree c.args.targets.now)
    c.args.place
    (expression_tree c.args.value.now) (flat_statement c.in_ok-body.body) c.in_ok-body.ensures.found
    ∙ ap (λ (b : Built).
    Ok b) (with_pushed (map signal_form built.signals.items) built.instances
    built.processes.items
    c.push.new.self.items _ c.in_ok-push.ensures.items)
