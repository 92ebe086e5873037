use Rattle.std.proofs.Common.{◌≡◌, true, ◌+◌, List, ℕ, [], ◌∷◌, ◌++◌, drop, map, sym, ap, ◌∙◌}
use Rattle.std.specs.List.{list_all}
use Rattle.std.proofs.lemmas.Bool.{and_parts}
use Rattle.std.proofs.lemmas.Result.{err_from_is_err_and}
use Rattle.sv_ast.specs.Shape.{is_shaped_link}
use Rattle.sv_ast.specs.Tree.{NamedLink}
use Rattle.sv_ast.specs.Views.{declaration_tree, named_link}
use Rattle.sv_flat.specs.Design.{ProcessForm}
use Rattle.sv_flat.specs.Views.{process_form}
use Rattle.sv_elab_rules.specs.Links.{named_links_walk}
use Rattle.sv_width.specs.Scopes.{names_of}
use Rattle.sv_elab.specs.Instances.{ports_form}
use Rattle.sv_elab.proofs.DeclaredLattices.{breach_on}
use Rattle.sv_elab.proofs.LinkEnds.{named_port_broken, named_linked, named_link_broken, named_none}
use Rattle.sv_elab.proofs.NameLemmas.{left_more, left_none}
use Rattle.sv_elab.proofs.links.add_named.Goals as goal
use Rattle.sv_elab.proofs.links.add_named.Goals.{After-new_port}

-- the link at hand, and those behind it
abbrev link_at : After-new_port → NamedLink
link_at c = named_link c.loop-name-item.result

abbrev rest_at : After-new_port → List NamedLink
rest_at c = map named_link (drop (c.loop-name.name-index + 1) c.args.links.now)

-- the walk has come to the link at hand
here : (c : After-new_port) →
    (named_links_walk (names_of c.args.outer.now) (ports_form c.args.ports.now) []
    (map process_form c.args.processes.now.items) (map named_link c.args.links.now)).end
    ≡ (named_links_walk (names_of c.args.outer.now) (ports_form c.args.ports.now)
    c.loop-name.linked.keys (map process_form c.loop-name.processes.items)
    (link_at c ∷ rest_at c)).end
here c =
    sym c.loop-name.invariant.walk
    ∙ ap (λ rest.
    (named_links_walk (names_of c.args.outer.now) (ports_form c.args.ports.now)
    c.loop-name.linked.keys (map process_form c.loop-name.processes.items)
    (map named_link rest)).end)
    (left_more c.args.links.now c.loop-name.name-index c.loop-name-item.result
    c.loop-name-test.true c.loop-name-item.is)

-- it is shaped, and those behind it
shaped_from : (c : After-new_port) → (is_shaped_link (link_at c) ≡ true)
    × (list_all is_shaped_link (rest_at c) ≡ true)
shaped_from c =
    and_parts (is_shaped_link (link_at c)) (list_all is_shaped_link (rest_at c))
    (ap (λ rest. list_all is_shaped_link (map named_link rest))
    (sym (left_more c.args.links.now c.loop-name.name-index c.loop-name-item.result
    c.loop-name-test.true c.loop-name-item.is))
    ∙ c.loop-name.invariant.shaped)

pub returns-in_err-port-clause-broken : goal.returns-in_err-port-clause-broken
returns-in_err-port-clause-broken c =
    let a = (goal.at.returns-in_err-port-clause-broken c).After-new_port in
    let p = err_from_is_err_and c.from_residual.result c.from_residual.ensures.1 in
    rw (p.1, p.2)
    (breach_on c.in_err-port.field-0.0 _ _
    (λ s e. here a
    ∙ named_port_broken (names_of c.args.outer.now) (ports_form c.args.ports.now)
    c.loop-name.linked.keys (map process_form c.loop-name.processes.items) (link_at a) (rest_at a)
    s e)
    c.in_err-port.ensures.broken)

pub add_link-requires-clause-shaped : goal.add_link-requires-clause-shaped
add_link-requires-clause-shaped c =
    (shaped_from (goal.at.add_link-requires-clause-shaped c).After-new_port).0

pub returns-in_err-add_link-clause-broken : goal.returns-in_err-add_link-clause-broken
returns-in_err-add_link-clause-broken c =
    let a = (goal.at.returns-in_err-add_link-clause-broken c).After-new_port in
    let p = err_from_is_err_and c.from_residual-in_err-add_link.result
    c.from_residual-in_err-add_link.ensures.1 in
    rw (p.1, p.2)
    (breach_on c.in_err-add_link.field-0.0 _ _
    (λ s e. here a
    ∙ named_link_broken (names_of c.args.outer.now) (ports_form c.args.ports.now)
    c.loop-name.linked.keys (map process_form c.loop-name.processes.items) (link_at a) (rest_at a)
    (declaration_tree c.in_ok-port.port.now) c.in_ok-port.ensures.found s e)
    c.in_err-add_link.ensures.broken)

pub loop-name-preserved : goal.loop-name-preserved
loop-name-preserved c =
    let a = (goal.at.loop-name-preserved c).After-new_port in
    let names = names_of c.args.outer.now in
    let ports = ports_form c.args.ports.now in
    let l = c.loop-name-item.result in
    let keys = c.loop-name.linked.keys in
    let ps = map process_form c.loop-name.processes.items in
    let rest = rest_at a in
    let linked = c.in_ok-add_link.ensures.found in
    record {
      walk =
          ap (λ (ks : List (List ℕ)).
          (named_links_walk names ports ks (map process_form c.add_link.new.processes.items)
          rest).end) c.in_ok-port.ensures.linked
          ∙ ap (λ (fs : List ProcessForm).
          (named_links_walk names ports (keys ++ l.0 ∷ []) fs rest).end) linked.2
          ∙ sym (named_linked names ports keys ps (link_at a) rest
          (declaration_tree c.in_ok-port.port.now) c.in_ok-port.ensures.found linked.0 linked.1)
          ∙ sym (here a);
      shaped = (shaped_from a).1;
    }

pub returns-clause-found : goal.returns-clause-found
returns-clause-found c =
    let names = names_of c.args.outer.now in
    let ports = ports_form c.args.ports.now in
    let ps = map process_form c.loop-name.processes.items in
    sym c.loop-name.invariant.walk
    ∙ ap (λ rest.
    (named_links_walk names ports c.loop-name.linked.keys ps (map named_link rest)).end)
    (left_none c.args.links.now c.loop-name.name-index c.loop-name-test.false)
    ∙ named_none names ports c.loop-name.linked.keys ps
