use Rattle.std.proofs.Common.{[], ◌∷◌, map, sym, ap}
use Rattle.std.specs.Prelude.{option_map}
use Rattle.std.proofs.lemmas.List.{append-nil}
use Rattle.std.proofs.lemmas.Result.{err_from_is_err_and}
use Rattle.sv_ast.specs.Views.{declaration_tree, expression_tree}
use Rattle.sv_flat.specs.Views.{process_form}
use Rattle.sv_elab_rules.specs.Links.{optional_link}
use Rattle.sv_width.specs.Scopes.{names_of}
use Rattle.sv_elab.specs.Instances.{ports_form}
use Rattle.sv_elab.proofs.BuiltLemmas.{pushed}
use Rattle.sv_elab.proofs.DeclaredLattices.{breach_on}
use Rattle.sv_elab.proofs.LinkEnds.{optional_none, optional_linked, optional_broken}
use Rattle.sv_elab.proofs.links.add_link.Goals as goal

pub returns-in-None-clause-found : goal.returns-in-None-clause-found
returns-in-None-clause-found c = (
  [],
  optional_none (names_of c.args.outer.now) (ports_form c.args.ports.now)
      (declaration_tree c.args.port.now) _
      (ap (λ v. option_map expression_tree v) c.in-None.is),
  sym (append-nil (map process_form c.args.processes.now.items)),
)

pub returns-in_err-link-in-Some-clause-broken : goal.returns-in_err-link-in-Some-clause-broken
returns-in_err-link-in-Some-clause-broken c =
    let names = names_of c.args.outer.now in
    let ports = ports_form c.args.ports.now in
    let d = declaration_tree c.args.port.now in
    let p = err_from_is_err_and c.from_residual.result c.from_residual.ensures.1 in
    rw (p.1, p.2)
    (breach_on c.in_err-link-in-Some.field-0.0 _
    (optional_link names ports d (option_map expression_tree c.args.expr.now)).end
    (optional_broken names ports d (expression_tree c.in-Some.expr) _
    (ap (λ v. option_map expression_tree v) c.in-Some.is))
    c.in_err-link-in-Some.ensures.broken)

pub returns-in_ok-push-in-Some-clause-found : goal.returns-in_ok-push-in-Some-clause-found
returns-in_ok-push-in-Some-clause-found c = (
  process_form c.in_ok-link-in-Some.field-0 ∷ [],
  optional_linked (names_of c.args.outer.now) (ports_form c.args.ports.now)
      (declaration_tree c.args.port.now)
      (expression_tree c.in-Some.expr) _ (ap (λ v. option_map expression_tree v) c.in-Some.is)
      (process_form c.in_ok-link-in-Some.field-0) c.in_ok-link-in-Some.ensures.found,
  sym (pushed c.args.processes.now.items c.push.new.self.items c.in_ok-link-in-Some.field-0
      c.in_ok-push-in-Some.ensures.items),
)
