-- A design has at most 4,096 signals where the walk of its text ends well.
use Rattle.std.proofs.Common.{◌≡◌, ℕ, zero, suc, ◌+◌, ◌<◌, ◌≤◌, true, List, [], ◌∷◌, ◌++◌, map}
use Rattle.std.proofs.Common.{length, Option, Some, None, subst, arith}
use Rattle.std.specs.Prelude.{not, Ok}
use Rattle.std.proofs.lemmas.Bool.{ltb-true}
use Rattle.std.proofs.lemmas.List.{length-append}
use Rattle.sv_num.specs.declared.faults.Place.{Place}
use Rattle.sv_ast.specs.Scopes.{Binding, width_of}
use Rattle.sv_ast.specs.Tree.{ExpressionTree, TargetTree, StatementTree, PlacedName}
use Rattle.sv_ast.specs.Tree.{DeclarationTree, ParameterTree, InstanceTree, ItemTree}
use Rattle.sv_ast.specs.Tree.{parameter_item, declared, memory_item, continuous, released}
use Rattle.sv_ast.specs.Tree.{always_item, invariant_item, instance_item}
use Rattle.sv_ast.specs.Instances.{entry, is_signal, all_items, span_width}
use Rattle.sv_ast.specs.Parts.{declarations}
use Rattle.sv_flat.specs.Design.{SignalForm}
use Rattle.sv_elab_rules.specs.Walks.{Walk, ask}
use Rattle.sv_elab_rules.specs.Rules.{unknown_name, twice}
use Rattle.sv_elab_rules.specs.Names.{Names, names_of, names_at, is_bound}
use Rattle.sv_elab_rules.specs.ExpressionSteps.{expression_walk}
use Rattle.sv_elab_rules.specs.Targets.{assignment_walk}
use Rattle.sv_elab_rules.specs.Statements.{statement_walk}
use Rattle.sv_elab_rules.specs.Declarations.{Site, Declared, declared_signal, nothing_declared}
use Rattle.sv_elab_rules.specs.Declarations.{range_steps, parameter_walk}
use Rattle.sv_elab_rules.specs.Declarations.{signal_ahead, signal_walk, declaration_walk}
use Rattle.sv_elab_rules.specs.Declarations.{declarations_walk}
use Rattle.sv_elab_rules.specs.LabelSteps.{SharedTables, given_label, labels_walk}
use Rattle.sv_elab_rules.specs.InstanceSteps.{Built, value_walk, assign_walk, always_walk}
use Rattle.sv_elab_rules.specs.InstanceSteps.{instance_walk, instance_names, item_walk, items_from}
use Rattle.sv_elab_rules.specs.InstanceSteps.{module_walk, site_walk}
use Rattle.sv_elab_rules.proofs.WalkLemmas.{parts_done}
use Rattle.sv_elab_rules.proofs.DeclarationLemmas.{signal_within}
use Rattle.sv_elab_laws.proofs.PartsDeclared.{same_ok, parameter_walked}
use Rattle.sv_elab_laws.proofs.PartsEntered.{inner_site, with_instance, entered}
use Rattle.sv_elab_laws.proofs.PartsOpened.{opened}

-- ---- declarations

module _ (base least : ℕ) (site : Site) where
  abbrev pub AreFew : Declared → Type 0
  AreFew a = base + length a.signals ≤ 4096

  parameter_few : (a : Declared) (p : ParameterTree) (next : Declared)
      → (parameter_walk base site a p).end ≡ Ok next
      → AreFew a → AreFew next
  parameter_few a p next h few = subst AreFew (parameter_walked base least site a p next h).is few

  signal_few : (a : Declared) (d : DeclarationTree) (next : Declared) →
      (signal_walk base least site a d).end ≡ Ok next → AreFew next
  unfolding signal_ahead
  signal_few a d next h =
      let names = names_at base site.master a.bindings in
      let within = signal_within base least site a next d h in
      let first = parts_done (range_steps names d.span) _ next within.0 in
      let second = parts_done
      (ask (not (is_bound (entry a.bindings d.name))) (twice d.place d.name)) _ next first.2 in
      let room : base + length a.signals < 4096 =
      ltb-true (base + length a.signals) 4096 within.1 in
      let longer = length-append a.signals
      (declared_signal site (span_width names.scope d.span) least d ∷ []) in
      subst AreFew (same_ok _ next second.2) (omega arith)

  pub declared_few : (items : List ItemTree) (a w : Declared)
      → (declarations_walk base least site a items).end ≡ Ok w
      → AreFew a → AreFew w
  unfolding declarations_walk declaration_walk
  declared_few [] a w h few = subst AreFew (same_ok a w h) few
  declared_few (parameter_item p ∷ items) a w h few =
      let both = parts_done (parameter_walk base site a p) (λ next.
      declarations_walk base least site next items) w h in
      declared_few items both.0 w both.2 (parameter_few a p both.0 both.1 few)
  declared_few (declared d ∷ items) a w h few =
      let both = parts_done (signal_walk base least site a d) (λ next.
      declarations_walk base least site next items) w h in
      declared_few items both.0 w both.2 (signal_few a d both.0 both.1)
  declared_few (item ∷ items) a w h few = declared_few items a w h few

module _ (tables : SharedTables) where
  labels_few : (names : Names) (ds : List DeclarationTree) (signals all : List SignalForm)
      → (labels_walk tables names ds signals).end ≡ Ok all → length all ≤ length signals
  unfolding labels_walk
  labels_few names [] signals all h =
      subst (λ (x : List SignalForm).
      length x ≤ length signals) (same_ok signals all h) (omega arith)
  labels_few names (d ∷ ds) [] all h =
      subst (λ (x : List SignalForm). length x ≤ 0) (same_ok [] all h) (omega arith)
  labels_few names (d ∷ ds) (s ∷ signals) all h =
      let first = parts_done (given_label tables names d.label s) _ all h in
      let rest = parts_done (labels_walk tables names ds signals) _ all first.2 in
      let few = labels_few names ds signals rest.0 rest.1 in
      subst (λ (x : List SignalForm).
      length x ≤ suc (length signals)) (same_ok (first.0 ∷ rest.0) all rest.2) (omega arith)

  -- ---- items

  abbrev pub HasFew : Built → Type 0
  HasFew built = length built.signals ≤ 4096

  abbrev pub KeepsFew : (inside : Site → Built → Walk Built) → Type 0
  KeepsFew inside =
      (site : Site) (built after : Built) → (inside site built).end ≡ Ok after → HasFew built →
      HasFew after

  module _ (inside : Site → Built →
      Walk Built) (works : KeepsFew inside) (site : Site) (names : Names) where
    value_few : (built next : Built) (d : DeclarationTree) (v : Option ExpressionTree)
        → (value_walk names built d v).end ≡ Ok next
        → HasFew built → HasFew next
    unfolding value_walk
    value_few built next d None h few = subst HasFew (same_ok built next h) few
    value_few built next d (Some e) h few =
        let first = parts_done (expression_walk names e (width_of (names.scope d.name))) _ next h in
        subst HasFew (same_ok _ next first.2) few

    assign_few : (built next : Built) (ts : List TargetTree) (p : Place) (e : ExpressionTree)
        → (assign_walk names built ts p e).end ≡ Ok next → HasFew built → HasFew next
    unfolding assign_walk
    assign_few built next ts p e h few =
        let first = parts_done (assignment_walk names ts p true e) _ next h in
        subst HasFew (same_ok _ next first.2) few

    always_few : (built next : Built) (p : Place) (clock : Option PlacedName) (s : StatementTree)
        → (always_walk names built p clock s).end ≡ Ok next → HasFew built → HasFew next
    unfolding always_walk
    always_few built next p None s h few =
        let first = parts_done (statement_walk names s) _ next h in
        subst HasFew (same_ok _ next first.2) few
    always_few built next p (Some clock) s h few =
        let test = parts_done
        (ask (is_signal (names.scope clock.name)) (unknown_name clock.place clock.name)) _
        next h in
        let first = parts_done (statement_walk names s) _ next test.2 in
        subst HasFew (same_ok _ next first.2) few

    instance_few : (taken : List (List ℕ)) (built next : Built) (i : InstanceTree)
        → (instance_walk inside tables site names taken built i).end ≡ Ok next → HasFew built
        → HasFew next
    instance_few taken built next i h few =
        let e = entered tables inside site names taken built next i h in
        works (inner_site site i e.master e.set) (with_instance built e.processes) next
        e.inside_done few

    item_few : (taken : List (List ℕ)) (built next : Built) (item : ItemTree)
        → (item_walk inside tables site names taken built item).end ≡ Ok next → HasFew built
        → HasFew next
    unfolding item_walk
    item_few taken built next (parameter_item p) h few = subst HasFew (same_ok built next h) few
    item_few taken built next (declared d) h few = value_few built next d d.value h few
    item_few taken built next (memory_item m) h few = subst HasFew (same_ok built next h) few
    item_few taken built next (continuous ts p e) h few = assign_few built next ts p e h few
    item_few taken built next (released t e to) h few = subst HasFew (same_ok built next h) few
    item_few taken built next (always_item p clock s) h few = always_few built next p clock s h few
    item_few taken built next (invariant_item p e) h few = subst HasFew (same_ok built next h) few
    item_few taken built next (instance_item i) h few = instance_few taken built next i h few

    items_few : (items : List ItemTree) (taken : List (List ℕ)) (built after : Built)
        → (items_from inside tables site names taken built items).end ≡ Ok after → HasFew built
        → HasFew after
    unfolding items_from
    items_few [] taken built after h few = subst HasFew (same_ok built after h) few
    items_few (item ∷ items) taken built after h few =
        let first = parts_done (item_walk inside tables site names taken built item)
        (λ next. items_from inside tables site names (taken ++ instance_names item) next items)
        after h in
        items_few items (taken ++ instance_names item) first.0 after first.2
        (item_few taken built first.0 item first.1 few)

  module_few : (inside : Site → Built → Walk Built) → KeepsFew inside
      → (site : Site) (built after : Built)
      → (module_walk inside tables site built).end ≡ Ok after → HasFew built → HasFew after
  module_few inside works site built after h few =
      let base = length built.signals in
      let o = opened tables inside site built after h in
      let w = o.declared_all in
      let names : Names = names_of base w.bindings in
      let own = declared_few base tables.least site (all_items site.master) nothing_declared w
      o.declared_done (omega (arith, few)) in
      let kept = labels_few names (declarations site.master) w.signals o.signals o.labels_done in
      let all = length-append built.signals o.signals in
      items_few inside works site names site.master.items
      (map (λ (b : List ℕ × Binding). b.0) w.bindings)
      (record built { signals = built.signals ++ o.signals }) after o.items_done (omega arith)

  pub sites_few : (levels : ℕ) → KeepsFew (site_walk levels tables)
  unfolding site_walk
  sites_few zero site built after h few = subst HasFew (same_ok built after h) few
  sites_few (suc levels) site built after h few =
      module_few (site_walk levels tables) (sites_few levels) site built after h few
