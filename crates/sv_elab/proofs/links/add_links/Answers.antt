use Rattle.std.proofs.Common.{◌≡◌, ℕ, List, [], Option, map, sym, ap, ◌∙◌}
use Rattle.sv_num.specs.declared.faults.Place.{Place}
use Rattle.sv_ast.specs.declared.expressions.Expr.{Expr}
use Rattle.sv_ast.specs.Tree.{named_links, ordered_links}
use Rattle.sv_ast.specs.Views.{expression_tree, named_link}
use Rattle.sv_ast.specs.Views.{link_trees}
use Rattle.sv_flat.specs.Views.{process_form}
use Rattle.sv_elab_rules.specs.Links.{links_walk, named_links_walk, ordered_links_walk}
use Rattle.sv_width.specs.Scopes.{names_of}
use Rattle.sv_width.proofs.Breaches.{err_weaker}
use Rattle.sv_elab.specs.Instances.{ports_form}
use Rattle.sv_elab.proofs.DeclaredLattices.{breach_on}
use Rattle.sv_elab.proofs.LinkEnds.{links_by_name, links_by_order}
use Rattle.sv_elab.proofs.PlaceLemmas.{on_weaker}
use Rattle.sv_elab.proofs.links.add_links.Goals as goal
use Rattle.sv_elab.proofs.links.add_links.Goals.{In-Named, In-Ordered}

-- links by name, walked as the code has them
by_name : (c : In-Named) (ls : List (List ℕ × Place × Option Expr)) → ls ≡ c.in-Named.links.items
    → (links_walk (names_of c.args.outer.now) (ports_form c.args.ports)
    (map process_form c.args.processes.now.items) (link_trees c.args.links.now)).end
    ≡ (named_links_walk (names_of c.args.outer.now) (ports_form c.args.ports) []
    (map process_form c.args.processes.now.items) (map named_link ls)).end
by_name c ls listed =
    links_by_name (names_of c.args.outer.now) (ports_form c.args.ports)
    (map process_form c.args.processes.now.items) (link_trees c.args.links.now)
    (map named_link ls)
    (ap link_trees c.in-Named.is ∙ ap (λ ls. named_links (map named_link ls)) (sym listed))

pub returns-in-Named-clause-found : goal.returns-in-Named-clause-found
returns-in-Named-clause-found c =
    let same = by_name (goal.at.returns-in-Named-clause-found c).In-Named c.deref.result.now
    c.deref.ensures.value in
    on_weaker c.add_named.result _ _ (λ h. same ∙ h) c.add_named.ensures.found

pub returns-in-Named-clause-broken : goal.returns-in-Named-clause-broken
returns-in-Named-clause-broken c =
    let same = by_name (goal.at.returns-in-Named-clause-broken c).In-Named c.deref.result.now
    c.deref.ensures.value in
    err_weaker c.add_named.result _ _ (λ f h.
    breach_on f _ _ (λ s e. same ∙ e) h) c.add_named.ensures.broken

-- links by order, walked as the code has them
by_order : (c : In-Ordered) (es : List Expr) → es ≡ c.in-Ordered.exprs.items
    → (links_walk (names_of c.args.outer.now) (ports_form c.args.ports)
    (map process_form c.args.processes.now.items) (link_trees c.args.links.now)).end
    ≡ (ordered_links_walk (names_of c.args.outer.now) (ports_form c.args.ports)
    (ports_form c.args.ports).master.ports (map process_form c.args.processes.now.items)
    (map expression_tree es)).end
by_order c es listed =
    links_by_order (names_of c.args.outer.now) (ports_form c.args.ports)
    (map process_form c.args.processes.now.items) (link_trees c.args.links.now)
    (map expression_tree es)
    (ap link_trees c.in-Ordered.is
    ∙ ap (λ (es : List Expr). ordered_links (map expression_tree es)) (sym listed))

pub returns-clause-found : goal.returns-clause-found
returns-clause-found c =
    let same = by_order (goal.at.returns-clause-found c).In-Ordered
    c.deref-in-Ordered.result.now c.deref-in-Ordered.ensures.value in
    on_weaker c.add_ordered.result _ _ (λ h. same ∙ h) c.add_ordered.ensures.found

pub returns-clause-broken : goal.returns-clause-broken
returns-clause-broken c =
    let same = by_order (goal.at.returns-clause-broken c).In-Ordered
    c.deref-in-Ordered.result.now c.deref-in-Ordered.ensures.value in
    err_weaker c.add_ordered.result _ _ (λ f h.
    breach_on f _ _ (λ s e. same ∙ e) h) c.add_ordered.ensures.broken
