use Rattle.std.proofs.Common.{◌≡◌, ℕ, suc, ◌+◌, ◌-◌, List, ◌++◌, map}
use Rattle.std.proofs.Common.{drop, refl, sym, ap, ◌∙◌, arith}
use Rattle.std.specs.List.{list_all}
use Rattle.std.proofs.lemmas.Bool.{and_parts}
use Rattle.std.proofs.lemmas.List.{append-nil}
use Rattle.std.proofs.lemmas.Result.{err_from_is_err_and}
use Rattle.sv_ast.specs.Shape.{is_shaped_item}
use Rattle.sv_ast.specs.Views.{instance_tree, item_tree, module_tree}
use Rattle.sv_elab_rules.specs.InstanceSteps.{item_walk, items_from, site_walk}
use Rattle.sv_width.specs.Scopes.{Known, names_of}
use Rattle.sv_elab_decl.specs.Sites.{tables_of}
use Rattle.sv_elab_decl.proofs.SiteLemmas.{shaped_items}
use Rattle.sv_elab.specs.Instances.{built_form, declared_names, taken_in}
use Rattle.sv_elab.specs.Nests.{InstanceNesting, site_at}
use Rattle.sv_elab.proofs.DeclaredLattices.{breach_on}
use Rattle.sv_elab.proofs.InstanceEnds.{master_broken, set_up_broken, instance_ends_at}
use Rattle.sv_elab.proofs.InstanceCode.{items_none, items_more, items_broken, name_free, name_taken}
use Rattle.sv_elab.proofs.NameLemmas.{left_more, left_none}
use Rattle.sv_elab.proofs.instances.+instances.Goals as goal

pub add_instance-returns-in_err-master-clause-broken :
    goal.add_instance-returns-in_err-master-clause-broken
add_instance-returns-in_err-master-clause-broken t c =
    let p = err_from_is_err_and c.from_residual.result c.from_residual.ensures.1 in
    rw (p.1, p.2) (breach_on c.in_err-master.field-0.0 _ _
    (master_broken (tables_of c.args.shared.now.tables) (names_of c.args.inside.now.scope.now)
    (taken_in c.args.inside.now) (built_form c.args.built.now) (instance_tree c.args.instance.now)
    c.args.nest.now c.args.levels)
    c.in_err-master.ensures.broken)

pub add_instance-returns-in_err-scope-clause-broken :
    goal.add_instance-returns-in_err-scope-clause-broken
add_instance-returns-in_err-scope-clause-broken t c =
    let tables = tables_of c.args.shared.now.tables in
    let names = names_of c.args.inside.now.scope.now in
    let taken = taken_in c.args.inside.now in
    let built = built_form c.args.built.now in
    let i = instance_tree c.args.instance.now in
    let nest = c.args.nest.now in
    let n = c.args.levels in
    let m = module_tree c.in_ok-master.master.now in
    let master = c.in_ok-master.ensures.found in
    let fewer : n ≡ suc (n - 1) = omega (arith, c.requires.room, c.in_ok-master.ensures.few) in
    let there = sym (ap (λ (k : InstanceNesting). k.path) c.in_ok-enter.ensures) in
    let p = err_from_is_err_and c.from_residual-in_err-scope.result
    c.from_residual-in_err-scope.ensures.1 in
    rw (p.1, p.2) (breach_on c.in_err-scope.field-0.0 _ _
    (set_up_broken tables names taken built i nest n m master (n - 1) fewer _ there)
    c.in_err-scope.ensures.broken)

pub add_instance-add_items-requires : goal.add_instance-add_items-requires
add_instance-add_items-requires t c = (
  omega (arith, c.requires.room, c.in_ok-master.ensures.few),
  (
    c.requires.ready,
    (
      ap (λ xs. list_all is_shaped_item (map item_tree xs)) c.deref-2.ensures.value
          ∙ shaped_items (module_tree c.in_ok-master.master.now) c.in_ok-master.ensures.shaped,
      omega (arith, c.requires.room, c.in_ok-master.ensures.few, c.in_ok-scope.ensures.instances),
    ),
  ),
)

pub add_instance-returns-in_err-add_items-clause-broken :
    goal.add_instance-returns-in_err-add_items-clause-broken
add_instance-returns-in_err-add_items-clause-broken t c =
    let n = c.args.levels in
    let fewer : n ≡ suc (n - 1) = omega (arith, c.requires.room, c.in_ok-master.ensures.few) in
    let to_items = instance_ends_at (tables_of c.args.shared.now.tables)
    (names_of c.args.inside.now.scope.now) (taken_in c.args.inside.now)
    (built_form c.args.built.now) (instance_tree c.args.instance.now) c.args.nest.now n
    (module_tree c.in_ok-master.master.now) c.in_ok-master.ensures.found (n - 1) fewer _
    (sym (ap (λ (k : InstanceNesting). k.path) c.in_ok-enter.ensures))
    c.deref.result.now c.in_ok-scope.scope.value (built_form c.set_up_in_box.new.built)
    c.enter.new.self c.deref-2.result.now c.deref.ensures c.in_ok-enter.ensures
    (ap (map item_tree) c.deref-2.ensures.value) c.in_ok-scope.ensures.found in
    let p = err_from_is_err_and c.from_residual-in_err-add_items.result
    c.from_residual-in_err-add_items.ensures.1 in
    rw (p.1, p.2) (breach_on c.in_err-add_items.field-0.0 _ _ (λ s h.
    to_items ∙ h) c.in_err-add_items.ensures.broken)

pub add_instance-returns-clause-found : goal.add_instance-returns-clause-found
add_instance-returns-clause-found t c =
    let n = c.args.levels in
    let fewer : n ≡ suc (n - 1) = omega (arith, c.requires.room, c.in_ok-master.ensures.few) in
    instance_ends_at (tables_of c.args.shared.now.tables)
    (names_of c.args.inside.now.scope.now) (taken_in c.args.inside.now)
    (built_form c.args.built.now) (instance_tree c.args.instance.now) c.args.nest.now n
    (module_tree c.in_ok-master.master.now) c.in_ok-master.ensures.found (n - 1) fewer _
    (sym (ap (λ (k : InstanceNesting). k.path) c.in_ok-enter.ensures))
    c.deref.result.now c.in_ok-scope.scope.value (built_form c.set_up_in_box.new.built)
    c.enter.new.self c.deref-2.result.now c.deref.ensures c.in_ok-enter.ensures
    (ap (map item_tree) c.deref-2.ensures.value) c.in_ok-scope.ensures.found
    ∙ c.in_ok-add_items.ensures.found

pub add_instance-returns-clause-nest : goal.add_instance-returns-clause-nest
add_instance-returns-clause-nest t c =
    c.leave.ensures c.args.nest.now c.args.instance.now.name c.args.instance.now.«module»
    (c.in_ok-add_items.ensures.nest ∙ c.in_ok-enter.ensures)

pub add_instance-returns-clause-taken : goal.add_instance-returns-clause-taken
add_instance-returns-clause-taken t c =
    let inside = c.args.inside.now in
    let declared = declared_names inside.scope.now in
    let i = instance_tree c.args.instance.now in
    ap (λ (ks : List (List ℕ)). declared ++ ks) c.in_ok-add_name.ensures.added
    ∙ name_taken declared inside.instances.keys i.name
    (name_free (tables_of c.args.shared.now.tables) c.args.nest.now.around declared
    inside.instances.keys c.args.built.now.instances i
    (module_tree c.in_ok-master.master.now) c.in_ok-master.ensures.found)

pub add_items-loop-item-init : goal.add_items-loop-item-init
add_items-loop-item-init t c =
    let tables = tables_of c.args.shared.now.tables in
    let declared = declared_names c.args.scope.now in
    record {
      walk =
          ap (λ (ks : List (List ℕ)).
          (items_from (site_walk c.args.levels tables) tables (site_at c.args.nest.now)
          (names_of c.args.scope.now) (declared ++ ks) (built_form c.args.built.now)
          (map item_tree c.args.items.now)).end) c.new.ensures.empty
          ∙ ap (λ (ks : List (List ℕ)).
          (items_from (site_walk c.args.levels tables) tables (site_at c.args.nest.now)
          (names_of c.args.scope.now) ks (built_form c.args.built.now)
          (map item_tree c.args.items.now)).end) (append-nil declared);
      shaped = c.requires.shaped;
      nest = refl;
      scope = refl;
      more = omega arith;
    }

pub add_items-add_item-requires : goal.add_items-add_item-requires
add_items-add_item-requires t c =
    let items = c.args.items.now in
    let k = c.loop-item.item-index in
    let item = c.item-item.result in (
      omega arith,
      (
        c.requires.ready,
        (
          (and_parts (is_shaped_item (item_tree item))
              (list_all is_shaped_item (map item_tree (drop (k + 1) items)))
              (ap (λ xs. list_all is_shaped_item (map item_tree xs))
              (sym (left_more items k item c.loop-item-test.true c.item-item.is))
              ∙ c.loop-item.invariant.shaped)).0,
          omega (arith, c.requires.room, c.loop-item.invariant.more),
        ),
      ),
    )

pub add_items-returns-in_err-add_item-clause-broken :
    goal.add_items-returns-in_err-add_item-clause-broken
add_items-returns-in_err-add_item-clause-broken t c =
    let tables = tables_of c.args.shared.now.tables in
    let inside = site_walk c.args.levels tables in
    let names = names_of c.args.scope.now in
    let item = c.item-item.result in
    let site = site_at c.loop-item.nest in
    let taken = taken_in c.loop-item.inside in
    let built = built_form c.loop-item.built in
    let split = left_more c.args.items.now c.loop-item.item-index item c.loop-item-test.true
    c.item-item.is in
    let rest = map item_tree (drop (c.loop-item.item-index + 1) c.args.items.now) in
    let p = err_from_is_err_and c.from_residual.result c.from_residual.ensures.1 in
    rw (p.1, p.2) (breach_on c.in_err-add_item.field-0.0 _ _
    (λ s h. sym c.loop-item.invariant.walk
    ∙ ap (λ xs. (items_from inside tables site names taken built (map item_tree xs)).end) split
    ∙ items_broken inside tables site names taken built (item_tree item) rest s
    (ap (λ (known : Known).
    (item_walk inside tables site (names_of known) taken built (item_tree item)).end)
    (sym c.loop-item.invariant.scope) ∙ h))
    c.in_err-add_item.ensures.broken)

pub add_items-loop-item-preserved : goal.add_items-loop-item-preserved
add_items-loop-item-preserved t c =
    let tables = tables_of c.args.shared.now.tables in
    let inside = site_walk c.args.levels tables in
    let names = names_of c.args.scope.now in
    let items = c.args.items.now in
    let k = c.loop-item.item-index in
    let item = c.item-item.result in
    let site = site_at c.loop-item.nest in
    let taken = taken_in c.loop-item.inside in
    let built = built_form c.loop-item.built in
    let split = left_more items k item c.loop-item-test.true c.item-item.is in
    let rest = map item_tree (drop (k + 1) items) in
    record {
      walk =
          ap (λ (nest : InstanceNesting).
          (items_from inside tables (site_at nest) names (taken_in c.add_item.new.inside)
          (built_form c.add_item.new.built) rest).end) c.in_ok-add_item.ensures.nest
          ∙ ap (λ (ks : List (List ℕ)).
          (items_from inside tables site names ks (built_form c.add_item.new.built) rest).end)
          c.in_ok-add_item.ensures.taken
          ∙ sym (items_more inside tables site names taken built (item_tree item) rest
          (built_form c.add_item.new.built)
          (ap (λ (known : Known).
          (item_walk inside tables site (names_of known) taken built (item_tree item)).end)
          (sym c.loop-item.invariant.scope) ∙ c.in_ok-add_item.ensures.found))
          ∙ ap (λ xs. (items_from inside tables site names taken built (map item_tree xs)).end)
          (sym split)
          ∙ c.loop-item.invariant.walk;
      shaped = (and_parts (is_shaped_item (item_tree item)) (list_all is_shaped_item rest)
          (ap (λ xs. list_all is_shaped_item (map item_tree xs)) (sym split)
          ∙ c.loop-item.invariant.shaped)).1;
      nest = c.in_ok-add_item.ensures.nest ∙ c.loop-item.invariant.nest;
      scope = ap (λ b. b.now) c.in_ok-add_item.ensures.scope ∙ c.loop-item.invariant.scope;
      more = omega (arith, c.in_ok-add_item.ensures.more, c.loop-item.invariant.more);
    }

pub add_items-returns-clause-found : goal.add_items-returns-clause-found
add_items-returns-clause-found t c =
    let tables = tables_of c.args.shared.now.tables in
    let inside = site_walk c.args.levels tables in
    let names = names_of c.args.scope.now in
    let taken = taken_in c.loop-item.inside in
    let built = built_form c.loop-item.built in
    sym c.loop-item.invariant.walk
    ∙ ap (λ xs. (items_from inside tables (site_at c.loop-item.nest) names taken built
    (map item_tree xs)).end)
    (left_none c.args.items.now c.loop-item.item-index c.loop-item-test.false)
    ∙ items_none inside tables (site_at c.loop-item.nest) names taken built
