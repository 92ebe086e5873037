use Rattle.std.proofs.Common.{◌≡◌, ℕ, List, [], map, refl, sym, ap, ◌∙◌}
use Rattle.sv_num.specs.declared.faults.Place.{Place}
use Rattle.sv_ast.specs.declared.expressions.Expr.{Expr}
use Rattle.sv_ast.specs.declared.modules.Overrides.TheVariants as overrides
use Rattle.sv_ast.specs.Instances.{open_parameters}
use Rattle.sv_ast.specs.Views.{expression_trees, named_override, override_trees, module_tree}
use Rattle.sv_elab_rules.specs.Overrides.{named_walk, ordered_walk, overrides_walk}
use Rattle.sv_width.specs.Scopes.{names_of}
use Rattle.sv_elab_decl.specs.Sites.{settings_of}
use Rattle.sv_elab_decl.proofs.Faults.{breach_on, ok_each, err_each}
use Rattle.sv_elab_decl.proofs.OverrideEnds.{overrides_named, overrides_ordered}
use Rattle.sv_elab_decl.proofs.overriding.overrides.Goals as goal
use Rattle.sv_elab_decl.proofs.overriding.overrides.Goals.{In-Named, In-Ordered}

-- overrides by name, walked as the code has them
by_name : (c : In-Named) (vs : List (List ℕ × Place × Expr)) → vs ≡ c.in-Named.values.items
    → (overrides_walk (names_of c.args.outer.now) (module_tree c.args.master.now)
    (override_trees c.args.overrides.now)).end
    ≡ (named_walk (names_of c.args.outer.now) (module_tree c.args.master.now) []
    (map named_override vs)).end
by_name c vs listed =
    let outer = names_of c.args.outer.now in
    let m = module_tree c.args.master.now in
    let is : c.args.overrides.now ≡ overrides.Named c.in-Named.values = cc in
    overrides_named outer m c.args.overrides.now c.in-Named.values is
    ∙ ap (λ (vs : List (List ℕ × Place × Expr)).
    (named_walk outer m [] (map named_override vs)).end) (sym listed)

pub returns-in-Named-clause-found : goal.returns-in-Named-clause-found
returns-in-Named-clause-found c =
    let same = by_name (goal.at.returns-in-Named-clause-found c).In-Named c.deref.result.now
    c.deref.ensures.value in
    ok_each c.named.result _ _ (λ set h. (settings_of set.entries, same ∙ h, λ n. refl))
    c.named.ensures.found

pub returns-in-Named-clause-broken : goal.returns-in-Named-clause-broken
returns-in-Named-clause-broken c =
    let outer = names_of c.args.outer.now in
    let m = module_tree c.args.master.now in
    let same = by_name (goal.at.returns-in-Named-clause-broken c).In-Named c.deref.result.now
    c.deref.ensures.value in
    err_each c.named.result _ _
    (λ f h. breach_on f (named_walk outer m [] (map named_override c.deref.result.now)).end
    (overrides_walk outer m (override_trees c.args.overrides.now)).end
    (λ s e. same ∙ e) h) c.named.ensures.broken

-- overrides by order, walked as the code has them
by_order : (c : In-Ordered) (es : List Expr) → es ≡ c.in-Ordered.values.items
    → (overrides_walk (names_of c.args.outer.now) (module_tree c.args.master.now)
    (override_trees c.args.overrides.now)).end
    ≡ (ordered_walk (names_of c.args.outer.now) (open_parameters (module_tree c.args.master.now)) []
    (expression_trees es)).end
by_order c es listed =
    let outer = names_of c.args.outer.now in
    let m = module_tree c.args.master.now in
    let is : c.args.overrides.now ≡ overrides.Ordered c.in-Ordered.values = cc in
    overrides_ordered outer m c.args.overrides.now c.in-Ordered.values is
    ∙ ap (λ (vs : List Expr). (ordered_walk outer (open_parameters m) [] (expression_trees vs)).end)
    (sym listed)

pub returns-in-Ordered-clause-found : goal.returns-in-Ordered-clause-found
returns-in-Ordered-clause-found c =
    let same = by_order (goal.at.returns-in-Ordered-clause-found c).In-Ordered
    c.deref-in-Ordered.result.now c.deref-in-Ordered.ensures.value in
    ok_each c.ordered.result _ _ (λ set h. (h.0, same ∙ h.1, h.2)) c.ordered.ensures.found

pub returns-in-Ordered-clause-broken : goal.returns-in-Ordered-clause-broken
returns-in-Ordered-clause-broken c =
    let outer = names_of c.args.outer.now in
    let m = module_tree c.args.master.now in
    let same = by_order (goal.at.returns-in-Ordered-clause-broken c).In-Ordered
    c.deref-in-Ordered.result.now c.deref-in-Ordered.ensures.value in
    err_each c.ordered.result _ _
    (λ f h.
    breach_on f (ordered_walk outer (open_parameters m) []
    (expression_trees c.deref-in-Ordered.result.now)).end
    (overrides_walk outer m (override_trees c.args.overrides.now)).end
    (λ s e. same ∙ e) h) c.ordered.ensures.broken
