-- The walk of an instance adds the signals and processes of all its parts.
use Rattle.std.proofs.Common.{◌≡◌, ℕ, zero, suc, ◌+◌, ◌<◌, ◌≤◌, true, false, List, []}
use Rattle.std.proofs.Common.{◌∷◌, ◌++◌, map, length, Option, Some, None, refl, sym, ap, subst, ◌∙◌}
use Rattle.std.proofs.Common.{arith, ⊎_elim}
use Rattle.std.specs.Prelude.{flat_map, Contains, Ok}
use Rattle.std.specs.List.{list_any, filter_map, cons_option, AllZip}
use Rattle.std.specs.Option.{option_map_or}
use Rattle.std.specs.Str.{bytes_eq}
use Rattle.std.proofs.lemmas.Bool.{and_parts, or_parts}
use Rattle.std.proofs.lemmas.Bool.{both_ways}
use Rattle.std.proofs.lemmas.List.{append-nil, length-append}
use Rattle.std.proofs.lemmas.List.Concat.{flat_map-append}
use Rattle.sv_system.proofs.Lists.{Contains-head, Contains-later, Contains-cases, Contains-nil}
use Rattle.sv_ast.specs.Scopes.{Binding, width_of}
use Rattle.sv_ast.specs.Tree.{LabelTree, DeclarationTree, InstanceTree, ItemTree}
use Rattle.sv_ast.specs.Tree.{parameter_item, declared, memory_item, continuous, released}
use Rattle.sv_ast.specs.Tree.{always_item, invariant_item, instance_item, ModuleTree}
use Rattle.sv_ast.specs.Shape.{is_inner, is_shaped_span, is_shaped_expression}
use Rattle.sv_ast.specs.Shape.{is_shaped_declaration}
use Rattle.sv_ast.specs.Instances.{entry, is_empty, instance_of, instances}
use Rattle.sv_ast.specs.Parts.{Path, Part, child, children, parts_from}
use Rattle.sv_ast.specs.Parts.{PartSignal, declaration_of, declarations, signals_of}
use Rattle.sv_ast.specs.Parts.{links_to}
use Rattle.sv_ast.specs.Processes.{Process, linking}
use Rattle.sv_flat.specs.Design.{SignalForm}
use Rattle.sv_elab_rules.specs.Walks.{Walk, done}
use Rattle.sv_elab_rules.specs.Names.{Names, names_of}
use Rattle.sv_elab_rules.specs.Declarations.{Site, kind_of, declared_signal}
use Rattle.sv_elab_rules.specs.LabelSteps.{SharedTables, label_walk, given_label, labels_walk}
use Rattle.sv_elab_rules.specs.Links.{Ports, port_number}
use Rattle.sv_elab_rules.specs.InstanceSteps.{Built, ports_of, instance_walk, instance_names, item_walk}
use Rattle.sv_elab_rules.specs.InstanceSteps.{items_from, module_walk, site_walk}
use Rattle.sv_elab_rules.proofs.WalkLemmas.{parts_done}
use Rattle.sv_elab_laws.proofs.PartsShapes.{IsFlattenedItem, IsFlattenedModule}
use Rattle.sv_elab_laws.proofs.PartsLists.{StandsAt, stands_split, zip_length, AllDiffer}
use Rattle.sv_flat.proofs.Members.{Contains-left as contains_left, Contains-right as contains_right}
use Rattle.sv_flat.proofs.Members.{to_flat_map}
use Rattle.sv_elab_laws.proofs.PartsBindings.{name_itself}
use Rattle.sv_elab_laws.proofs.PartsDeclared.{same_ok, forms, form_in}
use Rattle.sv_elab_laws.proofs.PartsNamed.{IsNamed, IsSound, part_of, site_named, same_scope}
use Rattle.sv_elab_laws.proofs.PartsNamed.{port_ahead}
use Rattle.sv_elab_laws.proofs.PartsNamed.{from_filter_map, to_filter_map}
use Rattle.sv_elab_laws.proofs.PartsGrown.{LabelFound, IsForm, Grown, grown_none, grown_join}
use Rattle.sv_elab_laws.specs.SideBySide.{item_made, made_from, item_edges, edges_from}
use Rattle.sv_elab_laws.proofs.PartsGrown.{instance_names_in, ChildrenIn}
use Rattle.sv_elab_laws.proofs.PartsItems.{value_grown, assign_grown, block_grown, clocked_grown}
use Rattle.sv_elab_laws.proofs.PartsLinks.{links_done}
use Rattle.sv_elab_laws.proofs.PartsEntered.{inner_site, with_instance, entered}
use Rattle.sv_elab_laws.proofs.PartsOpened.{opened, labels_made}

-- ---- labels

module _ {X Y Z : Type 0} (R : X → Y → Type 0) (Q : Z → Y → Type 0) (f : X → Z) where
  zip_mapped : (xs : List X) (ys : List Y) → AllZip R xs ys →
      ((x : X) (y : Y) → Contains xs x → R x y → Q (f x) y) → AllZip Q (map f xs) ys
  zip_mapped [] [] h step = tt
  zip_mapped [] (y ∷ ys) h step = absurd h
  zip_mapped (x ∷ xs) [] h step = absurd h
  zip_mapped (x ∷ xs) (y ∷ ys) h step = (
    step x y (Contains-head x xs) h.0,
    zip_mapped xs ys h.1 (λ z w at.
        step z w (Contains-later x xs z at)),
  )

module _ (tables : SharedTables) (names : Names) where
  labels_done : (form : DeclarationTree
      → SignalForm) (ds : List DeclarationTree) (all : List SignalForm)
      → (labels_walk tables names ds (map form ds)).end ≡ Ok all
      → AllZip (λ (d : DeclarationTree) (t : SignalForm).
      (given_label tables names d.label (form d)).end ≡ Ok t) ds all
  unfolding labels_walk
  labels_done form [] all h =
      subst (AllZip (λ (d : DeclarationTree) (t : SignalForm).
      (given_label tables names d.label (form d)).end ≡ Ok t) []) (same_ok [] all h) tt
  labels_done form (d ∷ ds) all h =
      let first = parts_done (given_label tables names d.label (form d)) _ all h in
      let rest = parts_done (labels_walk tables names ds (map form ds)) _ all first.2 in
      subst (AllZip (λ (x : DeclarationTree) (t : SignalForm).
      (given_label tables names x.label (form x)).end ≡ Ok t) (d ∷ ds))
      (same_ok (first.0 ∷ rest.0) all rest.2) (first.1, labels_done form ds rest.0 rest.1)

  label_given : (site : Site) (d : DeclarationTree) (width : ℕ) (o : Option LabelTree)
      (t : SignalForm)
      → (given_label tables names o (declared_signal site width tables.least d)).end ≡ Ok t
      → (t.width ≡ width) × (t.kind ≡ kind_of (is_empty site.path) d.kind)
      × LabelFound tables [] [] names o t.label
  unfolding given_label
  label_given site d width None t h =
      let e : declared_signal site width tables.least d ≡ t =
      same_ok (declared_signal site width tables.least d) t h in (
        ap (λ (s : SignalForm). s.width) (sym e),
        ap (λ (s : SignalForm).
            s.kind) (sym e),
        ap (λ (s : SignalForm). s.label) (sym e),
      )
  label_given site d width (Some l) t h =
      let first = parts_done (label_walk tables names l) _ t h in
      let e = same_ok _ t first.2 in (
        ap (λ (s : SignalForm). s.width) (sym e),
        ap (λ (s : SignalForm). s.kind) (sym e),
        subst (λ (s : SignalForm). (label_walk tables names l).end ≡ Ok s.label) e first.1,
      )

-- ---- levels

-- an instance in a part stands among the parts inside it, where there is a level for it
child_inside : (modules : List ModuleTree) (levels : ℕ) (p : Part) (i : InstanceTree) (c : Part)
    → 1 ≤ levels → Contains (instances p.definition) i → child modules p i ≡ Some c
    → Contains (flat_map (parts_from levels modules) (children modules p)) c
unfolding parts_from
child_inside modules zero p i c deep listed is = absurd (omega arith)
child_inside modules (suc n) p i c deep listed is =
    to_flat_map (parts_from (suc n) modules) (children modules p) c c
    (to_filter_map (child modules p) (instances p.definition) i c listed is)
    (Contains-head c (flat_map (parts_from n modules) (children modules c)))

-- ---- names that are taken

not_taken : (taken : List (List ℕ)) (n : List ℕ) → list_any (bytes_eq n) taken ≡ false →
    Contains taken n → ⊥
not_taken [] n h at = Contains-nil n at
not_taken (m ∷ taken) n h at =
    let parts = or_parts (bytes_eq n m) (list_any (bytes_eq n) taken) h in
    ⊎_elim
    (λ is. both_ways (bytes_eq n m) parts.0
    (subst (λ z. bytes_eq n z ≡ true) (sym is) (name_itself n)))
    (λ inside. not_taken taken n parts.1 inside)
    (Contains-cases m taken n at)

module _ (tables : SharedTables) (sources : List PartSignal) (everything : List Part)
    (fine : (m : ModuleTree) → Contains tables.modules m → IsFlattenedModule m) where
  -- what the walk of a site leads to
  pub record Inside (site : Site) (built after : Built) (ps : List Part) (qs : List Process)
      (es : List Path) : Type 0 where
    pub grown : Grown tables sources everything built after ps qs es
    pub names : Names
    pub named : IsNamed sources everything (part_of site) names
    pub ports : (n : List ℕ) (d : DeclarationTree)
        → Rattle.sv_ast.specs.Instances.port_named site.master n ≡ Some d
        → (port_number (ports_of tables.least site (length built.signals)) d.name ≡
        names.number d.name)
        × ((ports_of tables.least site (length built.signals)).scope d.name ≡ names.scope d.name)

  abbrev pub Works : (inside : Site → Built → Walk Built) → (levels : ℕ) → Type 0
  Works inside levels =
      (site : Site) (built after : Built) → (inside site built).end ≡ Ok after → IsSound site
      → IsFlattenedModule site.master
      → 1026 ≤ levels + built.instances → built.instances ≤ 1024
      → StandsAt sources (length built.signals)
      (flat_map signals_of (parts_from levels tables.modules (part_of site)))
      → ((q : Part) → Contains (parts_from levels tables.modules (part_of site)) q
      → Contains everything q)
      → Inside site built after (parts_from levels tables.modules (part_of site))
      (made_from levels tables.modules (part_of site))
      (edges_from levels tables.modules (part_of site))

  -- the parts inside an item
  abbrev pub item_parts : (levels : ℕ) → Part → ItemTree → List Part
  item_parts levels p (instance_item i) =
      option_map_or (parts_from levels tables.modules) (child tables.modules p i) []
  item_parts levels p _ = []

  pub items_parts : (levels : ℕ) (p : Part) (items : List ItemTree)
      → flat_map (item_parts levels p) items ≡
      flat_map (parts_from levels tables.modules)
      (filter_map (child tables.modules p) (filter_map instance_of items))
  items_parts levels p [] = refl
  items_parts levels p (instance_item i ∷ items) =
      ap (λ xs. item_parts levels p (instance_item i) ++ xs) (items_parts levels p items)
      ∙ by_child (child tables.modules p i)
    where
      rest : List Part
      rest = filter_map (child tables.modules p) (filter_map instance_of items)

      by_child : (o : Option Part) → option_map_or (parts_from levels tables.modules) o []
          ++ flat_map (parts_from levels tables.modules)
          (filter_map (child tables.modules p) (filter_map instance_of items))
          ≡ flat_map (parts_from levels tables.modules)
          (cons_option o (filter_map (child tables.modules p) (filter_map instance_of items)))
      by_child (Some q) = refl
      by_child None = refl
  items_parts levels p (item ∷ items) = items_parts levels p items

  module _ (levels : ℕ) (inside : Site → Built →
      Walk Built) (works : Works inside levels) (site : Site) (names : Names)
      (named : IsNamed sources everything (part_of site) names) where
    abbrev here : Part
    here = part_of site

    instance_grown : (taken : List (List ℕ)) (built next : Built) (i : InstanceTree)
        → (instance_walk inside tables site names taken built i).end ≡ Ok next
        → 1025 ≤ levels + built.instances
        → StandsAt sources (length built.signals)
        (flat_map signals_of (item_parts levels here (instance_item i)))
        → ((q : Part) → Contains (item_parts levels here (instance_item i)) q
        → Contains everything q)
        → Grown tables sources everything built next (item_parts levels here (instance_item i))
        (item_made (made_from levels tables.modules) tables.modules here
        (instance_item i))
        (item_edges (edges_from levels tables.modules) tables.modules here (instance_item i))
        × (list_any (bytes_eq i.name) taken ≡ false) × (1 ≤ levels)
    unfolding ports_of
    instance_grown taken built next i h many stands within_all =
        let modules = tables.modules in
        let e = entered tables inside site names taken built next i h in
        let flattened = fine e.master e.listed in
        let inner = inner_site site i e.master e.set in
        let ports : Ports = ports_of tables.least inner (length built.signals) in
        let start = with_instance built e.processes in
        let q : Part = part_of inner in
        let child_is : child modules here i ≡ Some q = e.is_child named.scope in
        let below : built.instances < 1024 = e.has_room in
        let ins = works inner start next e.inside_done (e.sound flattened) flattened (omega arith)
        (omega arith)
        (subst (λ o. StandsAt sources (length built.signals)
        (flat_map signals_of (option_map_or (parts_from levels modules) o []))) child_is stands)
        (λ r at. within_all r
        (subst (λ o. Contains (option_map_or (parts_from levels modules) o []) r)
        (sym child_is) at)) in
        let links = links_done tables sources everything here q names ins.names named ins.named
        ports refl ins.ports i built.processes e.processes e.links_done in
        let grown_links : Grown tables sources everything built start []
        (map linking (links_to here q i)) [] = record {
          forms = [];
          signals = sym (append-nil built.signals);
          each_form = tt;
          bodies = links.0;
          processes = links.1;
          each_body = links.2;
          each_edge =
              subst (AllZip (Rattle.sv_elab_laws.proofs.PartsGrown.IsNumberOf tables sources
              everything) []) (sym links.3) tt;
          differ = λ r at. absurd (Contains-nil r at);
          inner = λ r at. absurd (Contains-nil r at);
          more = omega arith;
        } in
        let whole = grown_join tables sources everything built start next []
        (parts_from levels modules q)
        (map linking (links_to here q i)) (made_from levels modules q) []
        (edges_from levels modules q) grown_links ins.grown in (
          subst (λ o. Grown tables sources everything built next
              (option_map_or (parts_from levels modules) o [])
              (option_map_or (λ r.
              map linking (links_to here r i) ++ made_from levels modules r) o [])
              (option_map_or (edges_from levels modules) o [])) (sym child_is) whole,
          e.is_free,
          omega arith,
        )

    abbrev GrownBy : Built → Built → ItemTree → Type 0
    GrownBy built next item =
        Grown tables sources everything built next (item_parts levels here item)
        (item_made (made_from levels tables.modules) tables.modules here item)
        (item_edges (edges_from levels tables.modules) tables.modules here item)

    -- the names of the instances in an item are not taken
    abbrev Free : List (List ℕ) → ItemTree → Type 0
    Free taken item = (n : List ℕ) → Contains (instance_names item) n → Contains taken n → ⊥

    nothing_free : (taken : List (List ℕ)) (n : List ℕ) → Contains [] n → Contains taken n → ⊥
    nothing_free taken n at there = Contains-nil n at

    -- there is a level for an instance in an item
    abbrev HasLevel : ItemTree → Type 0
    HasLevel item = (i : InstanceTree) → instance_of item ≡ Some i → 1 ≤ levels

    same_built : (built next : Built) → (done built).end ≡ Ok next →
        Grown tables sources everything built next [] [] []
    same_built built next h =
        subst (λ z. Grown tables sources everything built z [] [] []) (same_ok built next h)
        (grown_none tables sources everything built)

    item_grown : (taken : List (List ℕ)) (built next : Built) (item : ItemTree)
        → (item_walk inside tables site names taken built item).end ≡ Ok next
        → 1025 ≤ levels + built.instances
        → Contains site.master.items item → IsFlattenedItem item
        → StandsAt sources (length built.signals)
        (flat_map signals_of (item_parts levels here item))
        → ((q : Part) → Contains (item_parts levels here item) q → Contains everything q)
        → GrownBy built next item × Free taken item × HasLevel item
    unfolding item_walk
    item_grown taken built next (parameter_item p) h many listed flattened stands all =
        (same_built built next h, nothing_free taken, λ i e. absurd (cc e))
    item_grown taken built next (declared d) h many listed flattened stands all =
        let shaped = (and_parts (is_inner d) (is_shaped_declaration d) flattened.0).1 in (
          value_grown tables sources everything here names named d d.value built next h
              (contains_right site.master.ports (filter_map declaration_of site.master.items) d
              (to_filter_map declaration_of site.master.items (declared d) d listed refl))
              (and_parts (option_map_or is_shaped_span d.span true)
              (option_map_or is_shaped_expression d.value true) shaped).1,
          nothing_free taken,
          λ i e. absurd (cc e),
        )
    item_grown taken built next (memory_item m) h many listed flattened stands all =
        (same_built built next h, nothing_free taken, λ i e. absurd (cc e))
    item_grown taken built next (continuous ts p e) h many listed flattened stands all = (
      assign_grown tables sources everything here names named ts p e built next h
          flattened.0,
      nothing_free taken,
      λ i e. absurd (cc e),
    )
    item_grown taken built next (released t e to) h many listed flattened stands all =
        (same_built built next h, nothing_free taken, λ i e. absurd (cc e))
    item_grown taken built next (always_item p None s) h many listed flattened stands all = (
      block_grown tables sources everything here names named p s built next h flattened.0
          flattened.1,
      nothing_free taken,
      λ i e. absurd (cc e),
    )
    item_grown taken built next (always_item p (Some clock) s) h many listed flattened stands
        all = (
          clocked_grown tables sources everything here names named p clock s built next h
              flattened.0 flattened.1,
          nothing_free taken,
          λ i e. absurd (cc e),
        )
    item_grown taken built next (invariant_item p e) h many listed flattened stands all =
        (same_built built next h, nothing_free taken, λ i e. absurd (cc e))
    item_grown taken built next (instance_item i) h many listed flattened stands all =
        let grown = instance_grown taken built next i h many stands all in (
          grown.0,
          λ n at there. not_taken taken i.name grown.1 (subst (Contains taken)
              (⊎_elim (λ is. sym is) (λ none.
              absurd (Contains-nil n none)) (Contains-cases i.name [] n at)) there),
          λ j e. grown.2,
        )

    -- the names of instances in some items differ, and are not taken
    abbrev AllFree : List (List ℕ) → List ItemTree → Type 0
    AllFree taken items =
        AllDiffer (instance_names_in items)
        × ((n : List ℕ) → Contains (instance_names_in items) n → Contains taken n → ⊥)

    one_freer : (item : ItemTree) (items : List ItemTree) (taken : List (List ℕ)) → Free taken item
        → AllFree (taken ++ instance_names item) items
        → AllFree taken (item ∷ items)
    one_freer (instance_item i) items taken head rest = (
      (
        λ at. rest.1 i.name at
            (contains_right taken (i.name ∷ []) i.name (Contains-head i.name [])),
        rest.0,
      ),
      λ n at there. ⊎_elim
          (λ is. head n (subst (Contains (i.name ∷ [])) is (Contains-head i.name [])) there)
          (λ inside. rest.1 n inside (contains_left taken (i.name ∷ []) n there))
          (Contains-cases i.name (instance_names_in items) n at),
    )
    one_freer item items taken head rest =
        (rest.0, λ n at there. rest.1 n at (contains_left taken [] n there))

    items_grown : (items : List ItemTree) (taken : List (List ℕ)) (built after : Built)
        → (items_from inside tables site names taken built items).end ≡ Ok after
        → 1025 ≤ levels + built.instances
        → ((item : ItemTree) → Contains items item
        → Contains site.master.items item × IsFlattenedItem item)
        → StandsAt sources (length built.signals)
        (flat_map signals_of (flat_map (item_parts levels here) items))
        → ((q : Part) → Contains (flat_map (item_parts levels here) items) q
        → Contains everything q)
        → Grown tables sources everything built after (flat_map (item_parts levels here) items)
        (flat_map (item_made (made_from levels tables.modules) tables.modules here) items)
        (flat_map (item_edges (edges_from levels tables.modules) tables.modules here) items)
        × AllFree taken items
        × ((item : ItemTree) → Contains items item → HasLevel item)
    unfolding items_from
    items_grown [] taken built after h many listed stands all = (
      same_built built after h,
      (tt, λ n at there. Contains-nil n at),
      λ item at. absurd (Contains-nil item at),
    )
    items_grown (item ∷ items) taken built after h many listed stands all =
        let first = parts_done (item_walk inside tables site names taken built item)
        (λ next. items_from inside tables site names (taken ++ instance_names item) next items)
        after h in
        let next = first.0 in
        let head_parts = item_parts levels here item in
        let rest_parts = flat_map (item_parts levels here) items in
        let halves = stands_split sources (length built.signals) (flat_map signals_of head_parts)
        (flat_map signals_of rest_parts)
        (subst (StandsAt sources (length built.signals))
        (flat_map-append signals_of head_parts rest_parts) stands) in
        let mine = listed item (Contains-head item items) in
        let head = item_grown taken built next item first.1 many mine.0 mine.1 halves.0 (λ q at.
        all q (contains_left head_parts rest_parts q at)) in
        let count : length next.signals ≡
        length built.signals + length (flat_map signals_of head_parts) =
        ap length head.0.signals ∙ length-append built.signals head.0.forms
        ∙ ap (λ k. length built.signals + k)
        (sym (zip_length (IsForm tables sources everything) (flat_map signals_of head_parts)
        head.0.forms head.0.each_form)) in
        let rest = items_grown items (taken ++ instance_names item) next after first.2
        (let m = head.0.more in omega arith)
        (λ x at. listed x (Contains-later item items x at))
        (subst (λ k. StandsAt sources k (flat_map signals_of rest_parts)) (sym count) halves.1)
        (λ q at. all q (contains_right head_parts rest_parts q at)) in (
          grown_join tables sources everything built next after head_parts rest_parts
              (item_made (made_from levels tables.modules) tables.modules here item)
              (flat_map (item_made (made_from levels tables.modules) tables.modules
              here) items)
              (item_edges (edges_from levels tables.modules) tables.modules here item)
              (flat_map (item_edges (edges_from levels tables.modules) tables.modules here) items)
              head.0 rest.0,
          one_freer item items taken head.1 rest.1,
          λ x at. ⊎_elim
              (λ is. subst HasLevel is head.2)
              (λ inside. rest.2 x inside)
              (Contains-cases item items x at),
        )

  module _ (levels : ℕ) (inside : Site → Built → Walk Built) (works : Works inside levels) where
    module_grown : (site : Site) (built after : Built)
        → (module_walk inside tables site built).end ≡ Ok after → IsSound site
        → IsFlattenedModule site.master → 1026 ≤ suc levels + built.instances
        → StandsAt sources (length built.signals)
        (flat_map signals_of (parts_from (suc levels) tables.modules (part_of site)))
        → ((q : Part) → Contains (parts_from (suc levels) tables.modules (part_of site)) q
        → Contains everything q)
        → Inside site built after (parts_from (suc levels) tables.modules (part_of site))
        (made_from (suc levels) tables.modules (part_of site))
        (edges_from (suc levels) tables.modules (part_of site))
    unfolding parts_from made_from edges_from
    module_grown site built after h sound flattened many stands all =
        let modules = tables.modules in
        let m = site.master in
        let p = part_of site in
        let base = length built.signals in
        let o = opened tables inside site built after h in
        let w = o.declared_all in
        let names : Names = names_of base w.bindings in
        let own = o.signals in
        let middle : Built = record built { signals = built.signals ++ own } in
        let kids = flat_map (parts_from levels modules) (children modules p) in
        let kids_are : flat_map (item_parts levels p) m.items ≡ kids =
        items_parts levels p m.items in
        let halves = stands_split sources base (signals_of p) (flat_map signals_of kids) stands in
        let named = site_named base tables.least site w sound o.declares sources everything halves.0
        (all p (Contains-head p kids)) in
        let given = labels_done tables names (form_in base tables.least site w) (declarations m) own
        (labels_made tables inside site built after o) in
        let own_forms : AllZip (IsForm tables sources everything) (signals_of p) own =
        zip_mapped (λ (d : DeclarationTree) (t : SignalForm).
        (given_label tables names d.label (form_in base tables.least site w d)).end ≡ Ok t)
        (IsForm tables sources everything) (λ (d : DeclarationTree).
        record { part = p; declaration = d }) (declarations m) own given
        (λ d t at e.
        let l = label_given tables names site d (width_of (entry w.bindings d.name)) d.label t e in
        record {
          names = names;
          named = named;
          listed = at;
          width =
              l.0 ∙ ap (λ s. width_of (s d.name))
              (same_scope base tables.least site w sound o.declares);
          kind = l.1;
          found = l.2;
        }) in
        let grown_own : AllDiffer (instance_names_in m.items)
        → ((i : InstanceTree) → Contains (instances m) i → 1 ≤ levels)
        → Grown tables sources everything built middle (p ∷ []) [] [] = λ free deep. record {
          forms = own;
          signals = refl;
          each_form =
              subst (λ xs. AllZip (IsForm tables sources everything) xs own)
              (sym (append-nil (signals_of p))) own_forms;
          bodies = [];
          processes = sym (append-nil built.processes);
          each_body = tt;
          each_edge = tt;
          differ = λ q at. subst (λ (x : Part). AllDiffer (instance_names_in x.definition.items))
              (⊎_elim (λ is. is) (λ none.
              absurd (Contains-nil q none)) (Contains-cases p [] q at)) free;
          inner = λ q at. subst (ChildrenIn tables sources everything)
              (⊎_elim (λ is. is) (λ none.
              absurd (Contains-nil q none)) (Contains-cases p [] q at))
              (λ i c listed is. all c (Contains-later p kids c (child_inside modules levels p i c
              (deep i listed) listed is)));
          more = omega arith;
        } in
        let count : length middle.signals ≡ base + length (signals_of p) =
        length-append built.signals own
        ∙ ap (λ k. base + k)
        (sym (zip_length (IsForm tables sources everything) (signals_of p) own own_forms)) in
        let items = items_grown levels inside works site names named m.items
        (map (λ (b : List ℕ × Binding). b.0) w.bindings) middle after o.items_done
        (omega arith) (λ item at. (at, flattened.items item at))
        (subst (λ xs. StandsAt sources (length middle.signals) (flat_map signals_of xs))
        (sym kids_are)
        (subst (λ k. StandsAt sources k (flat_map signals_of kids)) (sym count) halves.1))
        (λ q at. all q (Contains-later p kids q (subst (λ xs. Contains xs q) kids_are at))) in
        record {
          grown = grown_join tables sources everything built middle after (p ∷ []) kids []
              (flat_map (item_made (made_from levels modules) modules p) m.items) []
              (flat_map (item_edges (edges_from levels modules) modules p) m.items)
              (grown_own items.1.0 (λ i listed.
              let item = from_filter_map instance_of m.items i listed in
              items.2 item.0 item.1 i item.2))
              (subst (λ xs. Grown tables sources everything middle after xs
              (flat_map (item_made (made_from levels modules) modules p) m.items)
              (flat_map (item_edges (edges_from levels modules) modules p) m.items)) kids_are
              items.0);
          names = names;
          named = named;
          ports = port_ahead base tables.least site w o.declared_done;
        }

  pub sites_grown : (levels : ℕ) → Works (site_walk levels tables) levels
  unfolding site_walk
  sites_grown zero site built after h sound flattened many few stands all = absurd (omega arith)
  sites_grown (suc levels) site built after h sound flattened many few stands all =
      module_grown levels (site_walk levels tables) (sites_grown levels) site built after h sound
      flattened many stands all
