use Rattle.std.proofs.Common.{sym, ap, ◌∙◌, Option}
use Rattle.std.specs.Prelude.{Result, Ok, Err, option_map}
use Rattle.sv_num.specs.declared.faults.Place.{Place}
use Rattle.sv_ast.specs.Scopes.{width_of}
use Rattle.sv_ast.specs.Views.{declaration_tree, expression_tree}
use Rattle.sv_ast.specs.GrammarModules.{place_of}
use Rattle.sv_flat.specs.Design.{TypedTree, ProcessForm, port_out}
use Rattle.sv_elab_rules.specs.Walks.{WalkStep}
use Rattle.sv_elab_rules.specs.Rules.{wrong_link}
use Rattle.sv_elab_rules.specs.Links.{whole_assignment, port_value, output_link}
use Rattle.sv_width.specs.declared.meanings.Meaning.{Meaning}
use Rattle.sv_width.specs.Scopes.{names_of, binding_of, signal_number}
use Rattle.sv_width.proofs.Breaches.{breach_by}
use Rattle.sv_elab.specs.Instances.{ports_form}
use Rattle.sv_elab.proofs.LinkEnds.{output_found, output_broken}
use Rattle.sv_elab.proofs.links.link_out.Goals as goal

pub returns-in-None-clause-broken : goal.returns-in-None-clause-broken
returns-in-None-clause-broken c =
    let names = names_of c.args.outer.now in
    let ports = ports_form c.args.ports.now in
    let d = declaration_tree c.args.port.now in
    let e = expression_tree c.args.expr.now in
    breach_by c.refusal_naming.result (wrong_link c.place-place.result d.name)
    c.refusal_naming.ensures
    (output_link names ports d e).end
    (output_broken names ports d e c.in-None.ensures
    ∙ ap (λ (p : Place). let r : Result ProcessForm WalkStep = Err (wrong_link p d.name) in
    r) (sym c.place-place.ensures))

pub returns-clause-found : goal.returns-clause-found
returns-clause-found c =
    let names = names_of c.args.outer.now in
    let ports = ports_form c.args.ports.now in
    let d = declaration_tree c.args.port.now in
    let e = expression_tree c.args.expr.now in
    let known = c.in-Some.known in
    let whole = c.in-Some.ensures in
    output_found names ports d e whole.0 whole.1
    ∙ ap (λ (m : Option Meaning).
    let r : Result ProcessForm WalkStep = Ok
    (whole_assignment (place_of e) port_out (signal_number m)
    (width_of (option_map binding_of m))
    (port_value ports d (width_of (option_map binding_of m)) (place_of e))) in r) whole.2
    ∙ ap (λ (p : Place).
    let r : Result ProcessForm WalkStep = Ok (whole_assignment p port_out known.signal.0 known.width
    (port_value ports d known.width p)) in r) (sym c.place-place.ensures)
    ∙ ap (λ (v : TypedTree).
    let r : Result ProcessForm WalkStep = Ok
    (whole_assignment c.place-place.result port_out known.signal.0 known.width v) in r)
    (sym c.in_ok-value.ensures)
    ∙ ap (λ (f : ProcessForm). let r : Result ProcessForm WalkStep = Ok f in
    r) (sym c.in_ok-whole_assignment.ensures)
