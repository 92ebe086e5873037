use Rattle.std.proofs.Common.{ap, ◌∙◌}
use Rattle.sv_ast.specs.ClockPaths.{is_input_kind}
use Rattle.sv_ast.specs.Views.{declaration_tree, expression_tree}
use Rattle.sv_width.specs.Scopes.{names_of}
use Rattle.sv_width.proofs.Breaches.{ok_weaker, err_weaker}
use Rattle.sv_elab.specs.Instances.{ports_form}
use Rattle.sv_elab.proofs.DeclaredLattices.{breach_on}
use Rattle.sv_elab.proofs.LinkEnds.{link_input, link_output, not_input}
use Rattle.sv_elab.proofs.links.link.Goals as goal

pub returns-in-Input-clause-found : goal.returns-in-Input-clause-found
returns-in-Input-clause-found c =
    let same = link_input (names_of c.args.outer.now) (ports_form c.args.ports.now)
    (declaration_tree c.args.port.now)
    (expression_tree c.args.expr.now) (ap is_input_kind c.in-Input.is) in
    ok_weaker c.link_in.result _ _ (λ p h. same ∙ h) c.link_in.ensures.found

pub returns-in-Input-clause-broken : goal.returns-in-Input-clause-broken
returns-in-Input-clause-broken c =
    let same = link_input (names_of c.args.outer.now) (ports_form c.args.ports.now)
    (declaration_tree c.args.port.now)
    (expression_tree c.args.expr.now) (ap is_input_kind c.in-Input.is) in
    err_weaker c.link_in.result _ _ (λ f h.
    breach_on f _ _ (λ s e. same ∙ e) h) c.link_in.ensures.broken

pub returns-in_default : goal.returns-in_default
returns-in_default c =
    let same = link_output (names_of c.args.outer.now) (ports_form c.args.ports.now)
    (declaration_tree c.args.port.now)
    (expression_tree c.args.expr.now) (not_input c.args.port.now.kind c.in_default.not-Input) in
    record {
      found = ok_weaker c.link_out.result _ _ (λ p h. same ∙ h) c.link_out.ensures.found;
      broken =
          err_weaker c.link_out.result _ _ (λ f h.
          breach_on f _ _ (λ s e. same ∙ e) h) c.link_out.ensures.broken;
    }
