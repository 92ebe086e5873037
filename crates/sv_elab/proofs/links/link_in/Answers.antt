use Rattle.std.proofs.Common.{sym, ap, ◌∙◌}
use Rattle.std.specs.Prelude.{Result, Ok}
use Rattle.std.proofs.lemmas.Result.{err_from_is_err_and}
use Rattle.sv_num.specs.declared.faults.Place.{Place}
use Rattle.sv_ast.specs.Views.{declaration_tree, expression_tree}
use Rattle.sv_ast.specs.GrammarModules.{place_of}
use Rattle.sv_flat.specs.Design.{ProcessForm, port_in}
use Rattle.sv_flat.specs.Views.{typed_tree}
use Rattle.sv_elab_rules.specs.Walks.{WalkStep}
use Rattle.sv_elab_rules.specs.Links.{whole_assignment}
use Rattle.sv_width.specs.Scopes.{names_of}
use Rattle.sv_elab.specs.Instances.{ports_form}
use Rattle.sv_elab.proofs.DeclaredLattices.{breach_on}
use Rattle.sv_elab.proofs.LinkEnds.{input_found, input_broken}
use Rattle.sv_elab.proofs.links.link_in.Goals as goal

pub returns-in_err-value-clause-broken : goal.returns-in_err-value-clause-broken
returns-in_err-value-clause-broken c =
    let p = err_from_is_err_and c.from_residual.result c.from_residual.ensures.1 in
    rw (p.1, p.2)
    (breach_on c.in_err-value.field-0.0 _ _
    (input_broken (names_of c.args.outer.now) (ports_form c.args.ports.now)
    (declaration_tree c.args.port.now) (expression_tree c.args.expr.now)
    c.width_of-width.result c.width_of-width.ensures.width) c.in_err-value.ensures.broken)

pub returns-clause-found : goal.returns-clause-found
returns-clause-found c =
    let e = expression_tree c.args.expr.now in
    let v = typed_tree c.in_ok-value.value in
    input_found (names_of c.args.outer.now) (ports_form c.args.ports.now)
    (declaration_tree c.args.port.now) e c.width_of-width.result c.width_of-width.ensures.width v
    c.in_ok-value.ensures.found
    ∙ ap (λ n. let r : Result ProcessForm WalkStep = Ok
    (whole_assignment (place_of e) port_in n c.width_of-width.result v) in
    r) (sym c.in_ok-signal.ensures)
    ∙ ap (λ (p : Place).
    let r : Result ProcessForm WalkStep = Ok
    (whole_assignment p port_in c.in_ok-signal.signal.0 c.width_of-width.result v) in
    r) (sym c.place-place.ensures)
    ∙ ap (λ (f : ProcessForm). let r : Result ProcessForm WalkStep = Ok f in
    r) (sym c.in_ok-whole_assignment.ensures)
