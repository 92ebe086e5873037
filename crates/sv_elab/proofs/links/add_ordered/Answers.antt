use Rattle.std.proofs.Common.{◌≡◌, true, ◌+◌, ◌<◌, ◌≤◌, length, get_or, subst, List, [], ◌∷◌}
use Rattle.std.proofs.Common.{drop, map, sym, ap, ◌∙◌}
use Rattle.std.specs.Prelude.{Result, Err}
use Rattle.std.specs.List.{list_all}
use Rattle.std.proofs.lemmas.Bool.{and_parts}
use Rattle.std.proofs.lemmas.Result.{err_from_is_err_and}
use Rattle.sv_num.specs.declared.faults.Place.{Place}
use Rattle.sv_ast.specs.declared.declarations.Decl.{Decl}
use Rattle.sv_ast.specs.Shape.{is_shaped_expression}
use Rattle.sv_ast.specs.Views.{declaration_tree, expression_tree}
use Rattle.sv_flat.specs.Design.{ProcessForm}
use Rattle.sv_flat.specs.Views.{process_form}
use Rattle.sv_elab_rules.specs.Walks.{WalkStep}
use Rattle.sv_elab_rules.specs.Rules.{links_over}
use Rattle.sv_elab_rules.specs.Links.{ordered_links_walk}
use Rattle.sv_width.specs.Scopes.{names_of}
use Rattle.sv_width.proofs.Breaches.{breach_of}
use Rattle.sv_elab.specs.Instances.{ports_form}
use Rattle.sv_elab.proofs.BuiltLemmas.{pushed}
use Rattle.sv_elab.proofs.DeclaredLattices.{breach_on}
use Rattle.sv_elab.proofs.LinkEnds.{ordered_none, ordered_over, ordered_linked, ordered_broken}
use Rattle.sv_elab.proofs.NameLemmas.{left_more, left_none}
use Rattle.sv_elab.proofs.links.add_ordered.Goals as goal
use Rattle.sv_elab.proofs.links.add_ordered.Goals.{After-index-exprs-index, In-Some}

-- the walk has come to the expression at hand
here : (c : After-index-exprs-index) →
    (ordered_links_walk (names_of c.args.outer.now) (ports_form c.args.ports.now)
    (map declaration_tree c.args.ports.now.master.now.ports.items)
    (map process_form c.args.processes.now.items) (map expression_tree c.args.exprs.now)).end
    ≡ (ordered_links_walk (names_of c.args.outer.now) (ports_form c.args.ports.now)
    (map declaration_tree (drop c.loop-index.index c.args.ports.now.master.now.ports.items))
    (map process_form c.loop-index.processes.items) (expression_tree c.index-exprs-index.result
    ∷ map expression_tree (drop (c.loop-index.index + 1) c.args.exprs.now))).end
here c =
    sym c.loop-index.invariant.walk
    ∙ ap (λ rest.
    (ordered_links_walk (names_of c.args.outer.now) (ports_form c.args.ports.now)
    (map declaration_tree (drop c.loop-index.index c.args.ports.now.master.now.ports.items))
    (map process_form c.loop-index.processes.items) (map expression_tree rest)).end)
    (left_more c.args.exprs.now c.loop-index.index c.index-exprs-index.result
    c.loop-index-test.true c.index-exprs-index.is)

-- it is shaped, and those behind it
shaped_from : (c : After-index-exprs-index) →
    (is_shaped_expression (expression_tree c.index-exprs-index.result) ≡ true)
    × (list_all is_shaped_expression
    (map expression_tree (drop (c.loop-index.index + 1) c.args.exprs.now)) ≡ true)
shaped_from c =
    and_parts (is_shaped_expression (expression_tree c.index-exprs-index.result))
    (list_all is_shaped_expression
    (map expression_tree (drop (c.loop-index.index + 1) c.args.exprs.now)))
    (ap (λ rest. list_all is_shaped_expression (map expression_tree rest))
    (sym (left_more c.args.exprs.now c.loop-index.index c.index-exprs-index.result
    c.loop-index-test.true c.index-exprs-index.is))
    ∙ c.loop-index.invariant.shaped)

-- and it has come to the port that stands there
at_port : (c : In-Some) →
    drop c.loop-index.index c.args.ports.now.master.now.ports.items
    ≡ c.in-Some.port.now ∷ drop (c.loop-index.index + 1) c.args.ports.now.master.now.ports.items
at_port c =
    let items = c.args.ports.now.master.now.ports.items in
    let i = c.loop-index.index in
    let port = c.in-Some.port.now in
    let within : i < length items =
    subst (λ (xs : List Decl).
    i < length xs) c.deref.ensures.value c.in-Some.ensures.lookup.3.0 in
    let is : port ≡ get_or items i port =
    c.in-Some.ensures.lookup.1 ∙ ap (λ xs. get_or xs i port) c.deref.ensures.value in
    left_more items i port within is

pub returns-in-None-clause-broken : goal.returns-in-None-clause-broken
returns-in-None-clause-broken c =
    let names = names_of c.args.outer.now in
    let ports = ports_form c.args.ports.now in
    let items = c.args.ports.now.master.now.ports.items in
    let i = c.loop-index.index in
    let e = expression_tree c.index-exprs-index.result in
    let rest = map expression_tree (drop (i + 1) c.args.exprs.now) in
    let ps = map process_form c.loop-index.processes.items in
    let past : length items ≤ i =
    subst (λ (xs : List Decl).
    length xs ≤ i) c.deref.ensures.value c.in-None.ensures.lookup.3 in
    breach_of c.broken.result 313 c.place.result c.new.result.items [] c.broken.ensures
    c.new.ensures.items
    (ordered_links_walk names ports (map declaration_tree items)
    (map process_form c.args.processes.now.items) (map expression_tree c.args.exprs.now)).end
    (here (goal.at.returns-in-None-clause-broken c).After-index-exprs-index
    ∙ ap (λ free. (ordered_links_walk names ports (map declaration_tree free) ps (e ∷ rest)).end)
    (left_none items i past)
    ∙ ordered_over names ports ps e rest
    ∙ ap (λ (p : Place). let r : Result (List ProcessForm) WalkStep = Err (links_over p) in
    r) (sym c.place.ensures))

pub link-requires-clause-shaped : goal.link-requires-clause-shaped
link-requires-clause-shaped c =
    (shaped_from (goal.at.link-requires-clause-shaped c).After-index-exprs-index).0

pub returns-in_err-link-clause-broken : goal.returns-in_err-link-clause-broken
returns-in_err-link-clause-broken c =
    let g = goal.at.returns-in_err-link-clause-broken c in
    let names = names_of c.args.outer.now in
    let ports = ports_form c.args.ports.now in
    let left = map declaration_tree
    (drop (c.loop-index.index + 1) c.args.ports.now.master.now.ports.items) in
    let e = expression_tree c.index-exprs-index.result in
    let rest = map expression_tree (drop (c.loop-index.index + 1) c.args.exprs.now) in
    let ps = map process_form c.loop-index.processes.items in
    let p = err_from_is_err_and c.from_residual.result c.from_residual.ensures.1 in
    rw (p.1, p.2)
    (breach_on c.in_err-link.field-0.0 _ _
    (λ s h. here g.After-index-exprs-index
    ∙ ap (λ free. (ordered_links_walk names ports (map declaration_tree free) ps (e ∷ rest)).end)
    (at_port g.In-Some)
    ∙ ordered_broken names ports ps (declaration_tree c.in-Some.port.now) left e rest s h)
    c.in_err-link.ensures.broken)

pub loop-index-preserved : goal.loop-index-preserved
loop-index-preserved c =
    let g = goal.at.loop-index-preserved c in
    let names = names_of c.args.outer.now in
    let ports = ports_form c.args.ports.now in
    let f = c.in_ok-link.field-0 in
    let left = map declaration_tree
    (drop (c.loop-index.index + 1) c.args.ports.now.master.now.ports.items) in
    let e = expression_tree c.index-exprs-index.result in
    let rest = map expression_tree (drop (c.loop-index.index + 1) c.args.exprs.now) in
    let ps = map process_form c.loop-index.processes.items in
    record {
      walk =
          ap (λ (fs : List ProcessForm). (ordered_links_walk names ports left fs rest).end)
          (sym (pushed c.loop-index.processes.items c.push.new.self.items f
          c.in_ok-push.ensures.items))
          ∙ sym (ordered_linked names ports ps (declaration_tree c.in-Some.port.now) left e rest
          (process_form f) c.in_ok-link.ensures.found)
          ∙ ap (λ free.
          (ordered_links_walk names ports (map declaration_tree free) ps (e ∷ rest)).end)
          (sym (at_port g.In-Some))
          ∙ sym (here g.After-index-exprs-index);
      shaped = (shaped_from g.After-index-exprs-index).1;
    }

pub returns-clause-found : goal.returns-clause-found
returns-clause-found c =
    let names = names_of c.args.outer.now in
    let ports = ports_form c.args.ports.now in
    let items = c.args.ports.now.master.now.ports.items in
    let i = c.loop-index.index in
    let ps = map process_form c.loop-index.processes.items in
    sym c.loop-index.invariant.walk
    ∙ ap (λ rest. (ordered_links_walk names ports (map declaration_tree (drop i items)) ps
    (map expression_tree rest)).end)
    (left_none c.args.exprs.now i c.loop-index-test.false)
    ∙ ordered_none names ports ps (map declaration_tree (drop i items))
