-- In each instance of a text whose walk ends well, what a name stands for has 1 to 64 bits.
use Rattle.std.proofs.Common.{◌≡◌, ℕ, zero, suc, ◌+◌, true, List, [], ◌∷◌, ◌++◌, map, length, Some}
use Rattle.std.proofs.Common.{sym, subst, ◌∙◌, ⊎_elim}
use Rattle.std.specs.Prelude.{◌&&◌, Contains, Ok, IsTrue}
use Rattle.std.specs.List.{list_all}
use Rattle.std.specs.Option.{option_map_or}
use Rattle.std.proofs.lemmas.Bool.{and_parts}
use Rattle.sv_system.proofs.Lists.{Contains-cases, Contains-nil, Contains-from_map}
use Rattle.sv_ast.specs.Scopes.{Binding}
use Rattle.sv_ast.specs.Tree.{DeclarationTree, ParameterTree, InstanceTree, ItemTree}
use Rattle.sv_ast.specs.Tree.{parameter_item, declared, instance_item, ModuleTree}
use Rattle.sv_ast.specs.Shape.{is_shaped_span, is_shaped_expression, is_shaped_item}
use Rattle.sv_ast.specs.Shape.{is_shaped_parameter, are_header_parameters, are_ports}
use Rattle.sv_ast.specs.Shape.{is_shaped_declaration, are_shaped_links, are_shaped_overrides}
use Rattle.sv_ast.specs.Shape.{is_shaped_module}
use Rattle.sv_ast.specs.Instances.{all_items}
use Rattle.sv_ast.specs.Parts.{Part, child, parts_from}
use Rattle.sv_flat.proofs.Depths.{from_all}
use Rattle.sv_elab_rules.specs.Walks.{Walk}
use Rattle.sv_elab_rules.specs.Names.{Names, names_of}
use Rattle.sv_elab_rules.specs.Declarations.{Site, nothing_declared}
use Rattle.sv_elab_rules.specs.LabelSteps.{SharedTables}
use Rattle.sv_elab_rules.specs.InstanceSteps.{Built, instance_walk, instance_names, item_walk}
use Rattle.sv_elab_rules.specs.InstanceSteps.{items_from, module_walk, site_walk}
use Rattle.sv_elab_rules.proofs.WalkLemmas.{parts_done}
use Rattle.sv_width.specs.Agreement.{HaveLengths}
use Rattle.sv_elab_laws.proofs.PartsShapes.{IsFlattenedModule}
use Rattle.sv_width.specs.WrittenLengths.{ModuleHasLengths}
use Rattle.sv_flat.proofs.Members.{Contains-either as contains_either}
use Rattle.sv_elab_laws.proofs.PartsNamed.{IsSound, part_of, same_scope}
use Rattle.sv_elab_laws.proofs.PartsEntered.{inner_site, with_instance, entered}
use Rattle.sv_elab_laws.proofs.PartsOpened.{opened}
use Rattle.sv_elab_laws.proofs.JoinedSources.{inner_parts, inner_instance}
use Rattle.sv_elab_laws.proofs.SoundSources.{IsGood, item_good}
use Rattle.sv_elab_laws.proofs.SoundLengths.{SetHasLengths, AreMeasured, declared_long, settings_long}

no_port : (d : DeclarationTree) (p : ParameterTree) → declared d ≡ parameter_item p → ⊥
no_port d p e = cc e

module _ (tables : SharedTables)
    (fine : (m : ModuleTree) → Contains tables.modules m → IsFlattenedModule m)
    (shaped : (m : ModuleTree) → Contains tables.modules m → IsTrue (is_shaped_module m))
    (long : (m : ModuleTree) → Contains tables.modules m → ModuleHasLengths m) where
  -- the parameters of a module are shaped
  parameter_shaped : (m : ModuleTree) → Contains tables.modules m → (p : ParameterTree)
      → Contains (all_items m) (parameter_item p) → is_shaped_parameter p ≡ true
  parameter_shaped m listed p at =
      let header = are_header_parameters m.parameters in
      let values = list_all is_shaped_parameter m.parameters in
      let ports = are_ports m.ports in
      let spans = list_all is_shaped_declaration m.ports in
      let first = and_parts (header && values && ports && spans) (list_all is_shaped_item m.items)
      (shaped m listed) in
      let second = and_parts (header && values && ports) spans first.0 in
      let third = and_parts (header && values) ports second.0 in
      let fourth = and_parts header values third.0 in
      ⊎_elim
      (λ left. ⊎_elim
      (λ mine. let x = Contains-from_map parameter_item m.parameters (parameter_item p) mine in
      subst (λ z. is_shaped_parameter z ≡ true) (let e : x.0 ≡ p = let q = x.2 in cc q in e)
      (from_all is_shaped_parameter m.parameters x.0 fourth.1 x.1))
      (λ port. let x = Contains-from_map declared m.ports (parameter_item p) port in
      absurd (no_port x.0 p x.2))
      (contains_either (map parameter_item m.parameters) (map declared m.ports)
      (parameter_item p) left))
      (λ right. from_all is_shaped_item m.items (parameter_item p) first.1 right)
      (contains_either (map parameter_item m.parameters ++ map declared m.ports) m.items
      (parameter_item p) at)

  parameters_measured : (m : ModuleTree) → Contains tables.modules m → AreMeasured (all_items m)
  parameters_measured m listed p at = (
    long m listed (parameter_item p) at,
    (and_parts (option_map_or is_shaped_span p.span true) (is_shaped_expression p.value)
        (parameter_shaped m listed p at)).1,
  )

  -- what the walk of a site leads to
  abbrev pub Long : (inside : Site → Built → Walk Built) → (levels : ℕ) → Type 0
  Long inside levels =
      (site : Site) (built after : Built) → (inside site built).end ≡ Ok after → IsSound site
      → SetHasLengths site.set
      → Contains tables.modules site.master
      → (q : Part) → Contains (parts_from levels tables.modules (part_of site)) q
      → HaveLengths q.scope

  module _ (levels : ℕ) (inside : Site → Built →
      Walk Built) (works : Long inside levels) (site : Site) (names : Names)
      (lengths : HaveLengths names.scope) (scope_is : names.scope ≡ (part_of site).scope) where
    instance_long : (taken : List (List ℕ)) (built next : Built) (i : InstanceTree)
        → (instance_walk inside tables site names taken built i).end ≡ Ok next
        → IsGood tables.modules shaped long (instance_item i)
        → (c : Part) → child tables.modules (part_of site) i ≡ Some c
        → (q : Part) → Contains (parts_from levels tables.modules c) q → HaveLengths q.scope
    instance_long taken built next i h good c is q at =
        let e = entered tables inside site names taken built next i h in
        let inner = inner_site site i e.master e.set in
        let same : Some (part_of inner) ≡ Some c = sym (e.is_child scope_is) ∙ is in
        let c_is : part_of inner ≡ c = cc same in
        works inner (with_instance built e.processes) next e.inside_done
        (e.sound (fine e.master e.listed))
        (settings_long names lengths e.master i.overrides e.set e.set_done
        (and_parts (are_shaped_overrides i.overrides) (are_shaped_links i.links) good.0).0
        good.1.0)
        e.listed q (subst (λ x. Contains (parts_from levels tables.modules x) q) (sym c_is) at)

    -- each item is walked
    walked_item : (items : List ItemTree) (item : ItemTree) → Contains items item
        → (taken : List (List ℕ)) (built after : Built)
        → (items_from inside tables site names taken built items).end ≡ Ok after
        → (t : List (List ℕ)) × (b : Built) × (next : Built)
        × ((item_walk inside tables site names t b item).end ≡ Ok next)
    unfolding items_from
    walked_item [] item at taken built after h = absurd (Contains-nil item at)
    walked_item (x ∷ items) item at taken built after h =
        let first = parts_done (item_walk inside tables site names taken built x)
        (λ next. items_from inside tables site names (taken ++ instance_names x) next items)
        after h in
        ⊎_elim
        (λ is. (
          taken,
          built,
          first.0,
          subst (λ z.
              (item_walk inside tables site names taken built z).end ≡ Ok first.0) is first.1,
        ))
        (λ later. walked_item items item later (taken ++ instance_names x) first.0 after first.2)
        (Contains-cases x items item at)

    instance_walked : (i : InstanceTree) (t : List (List ℕ)) (b next : Built)
        → (item_walk inside tables site names t b (instance_item i)).end ≡ Ok next
        → (instance_walk inside tables site names t b i).end ≡ Ok next
    unfolding item_walk
    instance_walked i t b next h = h

    inner_long : (taken : List (List ℕ)) (built after : Built)
        → (items_from inside tables site names taken built site.master.items).end ≡ Ok after
        → Contains tables.modules site.master
        → (q : Part) → Contains (inner_parts tables.modules levels (part_of site)) q
        → HaveLengths q.scope
    inner_long taken built after h listed q at =
        let i = inner_instance tables.modules levels (part_of site) q at in
        let step = walked_item site.master.items (instance_item i.0) i.2 taken built after h in
        instance_long step.0 step.1 step.2 i.0 (instance_walked i.0 step.0 step.1 step.2 step.3)
        (item_good tables.modules shaped long site.master listed (instance_item i.0) i.2) i.1
        i.3 q i.4

  module _ (levels : ℕ) (inside : Site → Built → Walk Built) (works : Long inside levels) where
    module_long : (site : Site) (built after : Built)
        → (module_walk inside tables site built).end ≡ Ok after → IsSound site
        → SetHasLengths site.set → Contains tables.modules site.master
        → (q : Part) → Contains (part_of site ∷ inner_parts tables.modules levels (part_of site)) q
        → HaveLengths q.scope
    module_long site built after h sound set_long listed q at =
        let m = site.master in
        let base = length built.signals in
        let o = opened tables inside site built after h in
        let w = o.declared_all in
        let names : Names = names_of base w.bindings in
        let lengths : HaveLengths names.scope =
        declared_long base tables.least site set_long (all_items m) nothing_declared w
        o.declared_done
        (parameters_measured m listed) (λ n b e. absurd (cc e)) in
        let scope_is = same_scope base tables.least site w sound o.declares in
        ⊎_elim
        (λ is. subst (λ (x : Part). HaveLengths x.scope) is (subst HaveLengths scope_is lengths))
        (λ later. inner_long levels inside works site names lengths scope_is
        (map (λ (b : List ℕ × Binding). b.0) w.bindings)
        (record built { signals = built.signals ++ o.signals }) after o.items_done listed q later)
        (Contains-cases (part_of site) (inner_parts tables.modules levels (part_of site)) q at)

  pub sites_long : (levels : ℕ) → Long (site_walk levels tables) levels
  unfolding site_walk parts_from
  sites_long zero site built after h sound set_long listed q at = absurd (Contains-nil q at)
  sites_long (suc levels) site built after h sound set_long listed q at =
      module_long levels (site_walk levels tables) (sites_long levels) site built after h sound
      set_long listed q at
