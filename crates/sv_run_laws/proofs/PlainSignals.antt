-- The walk of an instance adds a signal for each declaration in it and in all inside it, in order,
-- with the declaration's full name, signedness and place. Scopes play no part in it.
use Rattle.std.proofs.Common.{◌≡◌, ℕ, zero, suc, ◌+◌, Bool, true, List, [], ◌∷◌, ◌++◌}
use Rattle.std.proofs.Common.{map, length, Option, Some, None, refl, sym, ap, subst, ◌∙◌}
use Rattle.std.specs.Prelude.{flat_map, option_map, Ok}
use Rattle.std.specs.List.{filter_map, cons_option}
use Rattle.std.specs.Option.{option_map_or}
use Rattle.std.proofs.lemmas.List.{append_assoc, append-nil, map-append}
use Rattle.std.proofs.lemmas.List.Concat.{flat_map-append}
use Rattle.sv_num.specs.declared.faults.Place.{Place}
use Rattle.sv_ast.specs.Scopes.{Binding, width_of}
use Rattle.sv_ast.specs.Tree.{ExpressionTree, TargetTree, StatementTree, PlacedName, LabelTree}
use Rattle.sv_ast.specs.Tree.{DeclarationTree, InstanceTree, ItemTree, parameter_item, declared}
use Rattle.sv_ast.specs.Tree.{memory_item, continuous, released, always_item, invariant_item}
use Rattle.sv_ast.specs.Tree.{instance_item, ModuleTree}
use Rattle.sv_ast.specs.Instances.{module_named, instance_of, settings, is_signal}
use Rattle.sv_ast.specs.Parts.{Path, Part, part_with, within, child, parts_from, PartSignal}
use Rattle.sv_ast.specs.Parts.{declarations, signals_of}
use Rattle.sv_flat.specs.Design.{SignalForm}
use Rattle.sv_elab_rules.specs.Walks.{Walk, done, ask}
use Rattle.sv_elab_rules.specs.Rules.{unknown_name}
use Rattle.sv_elab_rules.specs.Names.{Names, names_of}
use Rattle.sv_elab_rules.specs.ExpressionSteps.{expression_walk}
use Rattle.sv_elab_rules.specs.Targets.{assignment_walk}
use Rattle.sv_elab_rules.specs.Statements.{statement_walk}
use Rattle.sv_elab_rules.specs.Declarations.{Site}
use Rattle.sv_elab_rules.specs.LabelSteps.{SharedTables, label_walk, given_label, labels_walk}
use Rattle.sv_elab_rules.specs.InstanceSteps.{Built, value_walk, assign_walk, always_walk}
use Rattle.sv_elab_rules.specs.InstanceSteps.{instance_walk, instance_names, item_walk, items_from}
use Rattle.sv_elab_rules.specs.InstanceSteps.{module_walk, site_walk}
use Rattle.sv_elab_rules.proofs.WalkLemmas.{parts_done}
use Rattle.sv_elab_laws.proofs.PartsDeclared.{same_ok, form_in}
use Rattle.sv_elab_laws.proofs.PartsEntered.{inner_site, with_instance, entered}
use Rattle.sv_elab_laws.proofs.PartsOpened.{opened, labels_made}
use Rattle.sv_run_laws.specs.Signals.{dotted}

-- full name, signedness and place
abbrev pub Plain : Type 0
Plain = List ℕ × Bool × Place

abbrev pub plain_of : Path → DeclarationTree → Plain
plain_of path d = (dotted (path ++ d.name ∷ []), d.signed, d.place)

abbrev pub plain_form : SignalForm → Plain
plain_form f = (f.name, f.signed, f.place)

abbrev pub plain_source : PartSignal → Plain
plain_source s = plain_of s.part.path s.declaration

-- ---- of a module at a path, and of all inside it

abbrev pub item_plain : (inside : Path → ModuleTree → List Plain) → List ModuleTree → Path
    → ItemTree → List Plain
item_plain inside modules path (instance_item i) =
    option_map_or (inside (path ++ i.name ∷ [])) (module_named modules i.master) []
item_plain inside modules path _ = []

unfoldable pub plain_from : (levels : ℕ) → List ModuleTree → Path → ModuleTree → List Plain
plain_from zero modules path m = []
plain_from (suc levels) modules path m =
    map (plain_of path) (declarations m)
    ++ flat_map (item_plain (plain_from levels modules) modules path) m.items

-- ---- the source has these

module _ (modules : List ModuleTree) where
  abbrev PlainParts : ℕ → Type 0
  PlainParts levels = (p : Part) →
      map plain_source (flat_map signals_of (parts_from levels modules p)) ≡
      plain_from levels modules p.path p.definition

  own_plain : (p : Part) (ds : List DeclarationTree)
      → map plain_source (map (λ d. record { part = p; declaration = d }) ds) ≡
      map (plain_of p.path) ds
  own_plain p [] = refl
  own_plain p (d ∷ ds) = ap (λ xs. plain_of p.path d ∷ xs) (own_plain p ds)

  module _ (levels : ℕ) (inside : PlainParts levels) (p : Part) where
    abbrev below : List ItemTree → List Part
    below items =
        flat_map (parts_from levels modules)
        (filter_map (child modules p) (filter_map instance_of items))

    items_plain : (items : List ItemTree)
        → map plain_source (flat_map signals_of (below items)) ≡
        flat_map (item_plain (plain_from levels modules) modules p.path) items
    items_plain [] = refl
    items_plain (instance_item i ∷ items) =
        by_module (module_named modules i.master) (items_plain items)
      where
        by_module : (o : Option ModuleTree)
            → map plain_source (flat_map signals_of (below items)) ≡
            flat_map (item_plain (plain_from levels modules) modules p.path) items
            → map plain_source (flat_map signals_of (flat_map (parts_from levels modules)
            (cons_option (option_map (λ (m : ModuleTree).
            part_with (within p i.name) (settings p.scope m i.overrides) m) o)
            (filter_map (child modules p) (filter_map instance_of items)))))
            ≡ option_map_or (plain_from levels modules (p.path ++ i.name ∷ [])) o []
            ++ flat_map (item_plain (plain_from levels modules) modules p.path) items
        by_module None rest = rest
        by_module (Some m) rest =
            let q = part_with (within p i.name) (settings p.scope m i.overrides) m in
            ap (map plain_source)
            (flat_map-append signals_of (parts_from levels modules q) (below items))
            ∙ map-append plain_source (flat_map signals_of (parts_from levels modules q))
            (flat_map signals_of (below items))
            ∙ ap (λ xs. xs ++ map plain_source (flat_map signals_of (below items))) (inside q)
            ∙ ap (λ xs. plain_from levels modules (p.path ++ i.name ∷ []) m ++ xs) rest
    items_plain (item ∷ items) = items_plain items

  pub parts_plain : (levels : ℕ) → PlainParts levels
  unfolding parts_from plain_from
  parts_plain zero p = refl
  parts_plain (suc levels) p =
      map-append plain_source (signals_of p)
      (flat_map signals_of (below levels (parts_plain levels) p p.definition.items))
      ∙ ap (λ xs. xs ++ map plain_source
      (flat_map signals_of (below levels (parts_plain levels) p p.definition.items)))
      (own_plain p (declarations p.definition))
      ∙ ap (λ xs. map (plain_of p.path) (declarations p.definition) ++ xs)
      (items_plain levels (parts_plain levels) p p.definition.items)

-- ---- the walk adds these

given_keeps : (tables : SharedTables) (names : Names) (o : Option LabelTree) (s t : SignalForm)
    → (given_label tables names o s).end ≡ Ok t → plain_form t ≡ plain_form s
unfolding given_label
given_keeps tables names None s t h = ap plain_form (sym (same_ok s t h))
given_keeps tables names (Some l) s t h =
    let first = parts_done (label_walk tables names l) _ t h in
    ap plain_form (sym (same_ok (record s { label = first.0 }) t first.2))

labels_keep : (tables : SharedTables) (names : Names) (form : DeclarationTree → SignalForm)
    (ds : List DeclarationTree) (all : List SignalForm)
    → (labels_walk tables names ds (map form ds)).end ≡ Ok all
    → map plain_form all ≡ map (λ d. plain_form (form d)) ds
unfolding labels_walk
labels_keep tables names form [] all h = ap (map plain_form) (sym (same_ok [] all h))
labels_keep tables names form (d ∷ ds) all h =
    let first = parts_done (given_label tables names d.label (form d)) _ all h in
    let rest = parts_done (labels_walk tables names ds (map form ds)) _ all first.2 in
    ap (map plain_form) (sym (same_ok (first.0 ∷ rest.0) all rest.2))
    ∙ ap (λ x. x ∷ map plain_form rest.0)
    (given_keeps tables names d.label (form d) first.0 first.1)
    ∙ ap (λ xs. plain_form (form d) ∷ xs) (labels_keep tables names form ds rest.0 rest.1)

abbrev pub Adds : Built → Built → List Plain → Type 0
Adds built after new = map plain_form after.signals ≡ map plain_form built.signals ++ new

adds_none : (built after : Built) → after.signals ≡ built.signals → Adds built after []
adds_none built after same =
    ap (map plain_form) same ∙ sym (append-nil (map plain_form built.signals))

same_built : (built after : Built) → (done built).end ≡ Ok after → Adds built after []
same_built built after h =
    adds_none built after (ap (λ (b : Built). b.signals) (sym (same_ok built after h)))

module _ (names : Names) where
  value_adds : (built after : Built) (d : DeclarationTree) (o : Option ExpressionTree)
      → (value_walk names built d o).end ≡ Ok after → Adds built after []
  unfolding value_walk
  value_adds built after d None h = same_built built after h
  value_adds built after d (Some e) h =
      let value = parts_done (expression_walk names e (width_of (names.scope d.name))) _ after h in
      adds_none built after (ap (λ (b : Built). b.signals) (sym (same_ok _ after value.2)))

  assign_adds : (built after : Built) (ts : List TargetTree) (p : Place) (e : ExpressionTree)
      → (assign_walk names built ts p e).end ≡ Ok after → Adds built after []
  unfolding assign_walk
  assign_adds built after ts p e h =
      let body = parts_done (assignment_walk names ts p true e) _ after h
      in adds_none built after (ap (λ (b : Built). b.signals) (sym (same_ok _ after body.2)))

  always_adds : (built after : Built) (p : Place) (clock : Option PlacedName) (s : StatementTree)
      → (always_walk names built p clock s).end ≡ Ok after → Adds built after []
  unfolding always_walk
  always_adds built after p None s h =
      let body = parts_done (statement_walk names s) _ after h in
      adds_none built after (ap (λ (b : Built). b.signals) (sym (same_ok _ after body.2)))
  always_adds built after p (Some clock) s h =
      let asked = parts_done
      (ask (is_signal (names.scope clock.name)) (unknown_name clock.place clock.name)) _ after h in
      let body = parts_done (statement_walk names s) _ after asked.2 in
      adds_none built after (ap (λ (b : Built). b.signals) (sym (same_ok _ after body.2)))

module _ (tables : SharedTables) where
  abbrev pub AddsAll : (inside : Site → Built → Walk Built) → (levels : ℕ) → Type 0
  AddsAll inside levels = (site : Site) (built after : Built)
      → (inside site built).end ≡ Ok after
      → Adds built after (plain_from levels tables.modules site.path site.master)

  module _ (levels : ℕ) (inside : Site → Built → Walk Built) (adds : AddsAll inside levels)
      (site : Site) (names : Names) where
    abbrev of_item : ItemTree → List Plain
    of_item = item_plain (plain_from levels tables.modules) tables.modules site.path

    instance_adds : (taken : List (List ℕ)) (built after : Built) (i : InstanceTree)
        → (instance_walk inside tables site names taken built i).end ≡ Ok after
        → Adds built after (of_item (instance_item i))
    instance_adds taken built after i h =
        let e = entered tables inside site names taken built after i h in
        subst (λ o. Adds built after
        (option_map_or (plain_from levels tables.modules (site.path ++ i.name ∷ [])) o []))
        (sym e.is_found)
        (adds (inner_site site i e.master e.set) (with_instance built e.processes) after
        e.inside_done)

    item_adds : (taken : List (List ℕ)) (built after : Built) (item : ItemTree)
        → (item_walk inside tables site names taken built item).end ≡ Ok after
        → Adds built after (of_item item)
    unfolding item_walk
    item_adds taken built after (parameter_item p) h = same_built built after h
    item_adds taken built after (declared d) h = value_adds names built after d d.value h
    item_adds taken built after (memory_item m) h = same_built built after h
    item_adds taken built after (continuous ts p e) h = assign_adds names built after ts p e h
    item_adds taken built after (released t e to) h = same_built built after h
    item_adds taken built after (always_item p clock s) h =
        always_adds names built after p clock s h
    item_adds taken built after (invariant_item p e) h = same_built built after h
    item_adds taken built after (instance_item i) h = instance_adds taken built after i h

    items_add : (items : List ItemTree) (taken : List (List ℕ)) (built after : Built)
        → (items_from inside tables site names taken built items).end ≡ Ok after
        → Adds built after (flat_map of_item items)
    unfolding items_from
    items_add [] taken built after h = same_built built after h
    items_add (item ∷ items) taken built after h =
        let first = parts_done (item_walk inside tables site names taken built item)
        (λ next. items_from inside tables site names (taken ++ instance_names item) next items)
        after h in
        let next = first.0 in
        items_add items (taken ++ instance_names item) next after first.2
        ∙ ap (λ xs. xs ++ flat_map of_item items) (item_adds taken built next item first.1)
        ∙ append_assoc (map plain_form built.signals) (of_item item) (flat_map of_item items)

  module _ (levels : ℕ) (inside : Site → Built → Walk Built) (adds : AddsAll inside levels) where
    module_adds : (site : Site) (built after : Built)
        → (module_walk inside tables site built).end ≡ Ok after
        → Adds built after (plain_from (suc levels) tables.modules site.path site.master)
    unfolding plain_from
    module_adds site built after h =
        let m = site.master in
        let base = length built.signals in
        let o = opened tables inside site built after h in
        let w = o.declared_all in
        let names : Names = names_of base w.bindings in
        let own = o.signals in
        let middle : Built = record built { signals = built.signals ++ own } in
        let kept : map plain_form own ≡ map (plain_of site.path) (declarations m) =
        labels_keep tables names (form_in base tables.least site w) (declarations m) own
        (labels_made tables inside site built after o) in
        let inner = flat_map (item_plain (plain_from levels tables.modules) tables.modules
        site.path) m.items in
        items_add levels inside adds site names m.items
        (map (λ (b : List ℕ × Binding). b.0) w.bindings) middle after o.items_done
        ∙ ap (λ xs. xs ++ inner)
        (map-append plain_form built.signals own
        ∙ ap (λ xs. map plain_form built.signals ++ xs) kept)
        ∙ append_assoc (map plain_form built.signals) (map (plain_of site.path) (declarations m))
        inner

  pub sites_add : (levels : ℕ) → AddsAll (site_walk levels tables) levels
  unfolding site_walk plain_from
  sites_add zero site built after h = same_built built after h
  sites_add (suc levels) site built after h =
      module_adds levels (site_walk levels tables) (sites_add levels) site built after h
