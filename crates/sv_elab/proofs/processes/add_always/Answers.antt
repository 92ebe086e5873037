use Rattle.std.proofs.Common.{map, ap, ◌∙◌}
use Rattle.std.specs.Prelude.{Ok}
use Rattle.std.proofs.lemmas.Result.{err_from_is_err_and}
use Rattle.sv_ast.specs.Views.{statement_tree}
use Rattle.sv_flat.specs.Views.{signal_form, process_kind, flat_statement}
use Rattle.sv_elab_rules.specs.InstanceSteps.{Built, always_walk}
use Rattle.sv_width.specs.Scopes.{names_of}
use Rattle.sv_elab.specs.Instances.{built_form}
use Rattle.sv_elab.proofs.DeclaredLattices.{breach_on}
use Rattle.sv_elab.proofs.BuiltLemmas.{always_found, always_unclocked, always_broken, with_pushed}
use Rattle.sv_elab.proofs.processes.add_always.Goals as goal

pub returns-in_err-kind-clause-broken : goal.returns-in_err-kind-clause-broken
returns-in_err-kind-clause-broken c =
    let p = err_from_is_err_and c.from_residual.result c.from_residual.ensures.1 in
    rw (p.1, p.2)
    (breach_on c.in_err-kind.field-0.0 _
    (always_walk (names_of c.args.scope.now) (built_form c.args.built.now) c.args.place _
    (statement_tree c.args.body.now)).end
    (always_unclocked (names_of c.args.scope.now) (built_form c.args.built.now) c.args.place _
    (statement_tree c.args.body.now))
    c.in_err-kind.ensures.broken)

pub returns-in_err-body-clause-broken : goal.returns-in_err-body-clause-broken
returns-in_err-body-clause-broken c =
    let p = err_from_is_err_and c.from_residual-in_err-body.result
    c.from_residual-in_err-body.ensures.1 in
    rw (p.1, p.2)
    (breach_on c.in_err-body.field-0.0 _
    (always_walk (names_of c.args.scope.now) (built_form c.args.built.now) c.args.place _
    (statement_tree c.args.body.now)).end
    (always_broken (names_of c.args.scope.now) (built_form c.args.built.now) c.args.place _
    (statement_tree c.args.body.now)
    (process_kind c.in_ok-kind.kind) c.in_ok-kind.ensures.found)
    c.in_err-body.ensures.broken)

pub returns-clause-found : goal.returns-clause-found
returns-clause-found c =
    let built = c.args.built.now in
    always_found (names_of c.args.scope.now) (built_form built) c.args.place _
    (statement_tree c.args.body.now)
    (process_kind c.in_ok-kind.kind) (flat_statement c.in_ok-body.body) c.in_ok-kind.ensures.found
    c.in_ok-body.ensures.found
    ∙ ap (λ (b : Built).
    Ok b) (with_pushed (map signal_form built.signals.items) built.instances
    built.processes.items
    c.push.new.self.items _ c.in_ok-push.ensures.items)
