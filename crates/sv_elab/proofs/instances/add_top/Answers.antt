use Rattle.std.proofs.Common.{◌≡◌, List, map, sym, ap, ◌∙◌}
use Rattle.std.specs.List.{list_all}
use Rattle.std.proofs.lemmas.Result.{err_from_is_err_and}
use Rattle.sv_ast.specs.Shape.{is_shaped_item}
use Rattle.sv_ast.specs.Tree.{ItemTree}
use Rattle.sv_ast.specs.Views.{item_tree, module_tree}
use Rattle.sv_elab_rules.specs.InstanceSteps.{items_from, site_walk}
use Rattle.sv_elab_rules.specs.Texts.{top_walk}
use Rattle.sv_elab_decl.specs.Sites.{tables_of}
use Rattle.sv_elab_decl.proofs.SiteLemmas.{shaped_items}
use Rattle.sv_elab.specs.Instances.{Opened, built_form, opened}
use Rattle.sv_elab.specs.Nests.{InstanceNesting, site_at}
use Rattle.sv_elab.proofs.DeclaredLattices.{breach_on}
use Rattle.sv_elab.proofs.InstanceEnds.{top_broken, top_end}
use Rattle.sv_elab.proofs.instances.add_top.Goals as goal
use Rattle.sv_elab.proofs.instances.add_top.Goals.{In_ok-scope}

pub set_up_top-requires-clause-top : goal.set_up_top-requires-clause-top
set_up_top-requires-clause-top c = ap (λ (k : InstanceNesting). k.path) c.in_ok-nest.ensures

pub returns-in_err-scope-clause-broken : goal.returns-in_err-scope-clause-broken
returns-in_err-scope-clause-broken c =
    let p = err_from_is_err_and c.from_residual-in_err-scope.result
    c.from_residual-in_err-scope.ensures.1 in
    rw (p.1, p.2) (breach_on c.in_err-scope.field-0.0 _ _
    (top_broken (tables_of c.args.shared.now.tables) (module_tree c.args.master.now))
    c.in_err-scope.ensures.broken)

pub add_items-requires-clause-shaped : goal.add_items-requires-clause-shaped
add_items-requires-clause-shaped c =
    ap (λ xs. list_all is_shaped_item (map item_tree xs)) c.deref.ensures.value
    ∙ shaped_items (module_tree c.args.master.now) c.requires.shaped

-- what is opened with the top
abbrev here : In_ok-scope → Opened
here c = opened c.in_ok-scope.scope (built_form c.set_up_top.new.built)

-- the walk of the top goes on to its items
to_items : (c : In_ok-scope) (ts : List ItemTree) → ts ≡ (module_tree c.args.master.now).items
    → (top_walk (tables_of c.args.shared.now.tables) (module_tree c.args.master.now)).end
    ≡ (items_from (site_walk 1024 (tables_of c.args.shared.now.tables))
    (tables_of c.args.shared.now.tables) (site_at c.in_ok-nest.nest) (here c).names (here c).taken
    (here c).built ts).end
to_items c ts are =
    let tables = tables_of c.args.shared.now.tables in
    let m = module_tree c.args.master.now in
    let o = here c in
    top_end tables m o c.in_ok-scope.ensures.found
    ∙ ap (λ (k : InstanceNesting).
    (items_from (site_walk 1024 tables) tables (site_at k) o.names o.taken o.built m.items).end)
    (sym c.in_ok-nest.ensures)
    ∙ ap (λ xs. (items_from (site_walk 1024 tables) tables (site_at c.in_ok-nest.nest) o.names
    o.taken o.built xs).end) (sym are)

pub returns-in_err-add_items-clause-broken : goal.returns-in_err-add_items-clause-broken
returns-in_err-add_items-clause-broken c =
    let to = to_items (goal.at.returns-in_err-add_items-clause-broken c).In_ok-scope
    (map item_tree c.deref.result.now) (ap (map item_tree) c.deref.ensures.value) in
    let p = err_from_is_err_and c.from_residual-in_err-add_items.result
    c.from_residual-in_err-add_items.ensures.1 in
    rw (p.1, p.2) (breach_on c.in_err-add_items.field-0.0 _ _ (λ s h.
    to ∙ h) c.in_err-add_items.ensures.broken)

pub returns-clause-found : goal.returns-clause-found
returns-clause-found c =
    to_items (goal.at.returns-clause-found c).In_ok-scope (map item_tree c.deref.result.now)
    (ap (map item_tree) c.deref.ensures.value)
    ∙ c.in_ok-add_items.ensures.found
