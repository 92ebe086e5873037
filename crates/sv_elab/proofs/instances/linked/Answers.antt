use Rattle.std.proofs.Common.{◌≡◌, map, sym, ap, ◌∙◌}
use Rattle.std.proofs.lemmas.Result.{err_from_is_err_and}
use Rattle.sv_ast.specs.Views.{link_trees}
use Rattle.sv_flat.specs.Views.{process_form}
use Rattle.sv_elab_rules.specs.InstanceSteps.{ports_of}
use Rattle.sv_elab_rules.specs.Links.{Ports, links_walk}
use Rattle.sv_width.specs.Scopes.{names_of}
use Rattle.sv_elab_decl.specs.Sites.{site_of}
use Rattle.sv_elab.specs.Instances.{linked_walk, ports_form}
use Rattle.sv_elab.proofs.DeclaredLattices.{breach_on}
use Rattle.sv_elab.proofs.OpenedEnds.{ports_are, linked_broken, header_broken}
use Rattle.sv_elab.proofs.instances.linked.Goals as goal
use Rattle.sv_elab.proofs.instances.linked.Goals.{In_ok-ports}

-- the links, walked by the ports that the code has
ported : (c : In_ok-ports) →
    (links_walk (names_of c.args.outer.now)
    (ports_of c.args.tables.now.least.0 (site_of c.args.site.now) c.args.site.now.base)
    (map process_form c.args.processes.now.items) (link_trees c.args.links.now)).end
    ≡ (links_walk (names_of c.args.outer.now) (ports_form c.in_ok-ports.ports)
    (map process_form c.args.processes.now.items) (link_trees c.args.links.now)).end
ported c =
    ap (λ (k : Ports). (links_walk (names_of c.args.outer.now) k
    (map process_form c.args.processes.now.items) (link_trees c.args.links.now)).end)
    (ports_are c.args.site.now.base c.args.tables.now.least.0 (site_of c.args.site.now)
    c.in_ok-declared.field-0.declared.scope c.in_ok-declared.ensures.names
    ∙ sym c.in_ok-ports.ensures.form)

pub returns-in_err-add_links-clause-broken : goal.returns-in_err-add_links-clause-broken
returns-in_err-add_links-clause-broken c =
    let outer = names_of c.args.outer.now in
    let least = c.args.tables.now.least.0 in
    let site = site_of c.args.site.now in
    let base = c.args.site.now.base in
    let ps = map process_form c.args.processes.now.items in
    let ls = link_trees c.args.links.now in
    let a = (goal.at.returns-in_err-add_links-clause-broken c).In_ok-ports in
    let p = err_from_is_err_and c.from_residual-in_err-add_links.result
    c.from_residual-in_err-add_links.ensures.1 in
    rw (p.1, p.2)
    (breach_on c.in_err-add_links.field-0.0 _ (linked_walk outer least site base ps ls).end
    (λ s h. linked_broken outer least site base ps ls s (ported a ∙ h))
    c.in_err-add_links.ensures.broken)

pub returns-in-Some-clause-broken : goal.returns-in-Some-clause-broken
returns-in-Some-clause-broken c =
    let a = (goal.at.returns-in-Some-clause-broken c).In_ok-ports in
    let ends = rw c.in-Some.is at c.in_ok-declared.ensures.ends in
    header_broken (names_of c.args.outer.now) c.args.tables.now.least.0 (site_of c.args.site.now)
    c.args.site.now.base (map process_form c.args.processes.now.items)
    (link_trees c.args.links.now) (map process_form c.add_links.new.processes.items)
    (ported a ∙ c.in_ok-add_links.ensures.found) _ ends

pub returns-in-None-clause-found : goal.returns-in-None-clause-found
returns-in-None-clause-found c =
    ported (goal.at.returns-in-None-clause-found c).In_ok-ports ∙ c.in_ok-add_links.ensures.found
