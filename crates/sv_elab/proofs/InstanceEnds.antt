-- Where the walk of an instance ends.
use Rattle.std.proofs.Common.{◌≡◌, ℕ, suc, ◌+◌, Bool, true, false, not, List, [], ◌∷◌, ◌++◌}
use Rattle.std.proofs.Common.{length, map, Option, Some, None, refl, sym, ap, ◌∙◌}
use Rattle.std.specs.Prelude.{Result, Ok, Err, nat_lt}
use Rattle.std.specs.List.{list_any}
use Rattle.std.specs.Str.{bytes_eq}
use Rattle.sv_ast.specs.declared.modules.Item.{Item}
use Rattle.sv_ast.specs.Scopes.{Binding, Number}
use Rattle.sv_ast.specs.Tree.{InstanceTree, ItemTree, parameter_item, declared, memory_item}
use Rattle.sv_ast.specs.Tree.{continuous, released, always_item, invariant_item, instance_item}
use Rattle.sv_ast.specs.Tree.{ModuleTree}
use Rattle.sv_ast.specs.Instances.{entry, all_items, module_named}
use Rattle.sv_ast.specs.Parts.{declarations, most_levels}
use Rattle.sv_ast.specs.Views.{item_tree}
use Rattle.sv_flat.specs.Design.{SignalForm, ProcessForm}
use Rattle.sv_elab_rules.specs.Walks.{WalkStep, Walk, ask, done, found, then_walk, ◌>>=◌}
use Rattle.sv_elab_rules.specs.Rules.{unknown_module, twice, recursive, too_many}
use Rattle.sv_elab_rules.specs.Names.{Names, names_of}
use Rattle.sv_elab_rules.specs.Declarations.{Site, Declared, nothing_declared, declarations_walk}
use Rattle.sv_elab_rules.specs.LabelSteps.{SharedTables, labels_walk}
use Rattle.sv_elab_rules.specs.Overrides.{overrides_walk}
use Rattle.sv_elab_rules.specs.Links.{Ports, links_walk}
use Rattle.sv_elab_rules.specs.InstanceSteps.{Built, ports_of, instance_walk, instance_names, item_walk}
use Rattle.sv_elab_rules.specs.InstanceSteps.{items_from, module_walk, site_walk}
use Rattle.sv_elab_rules.specs.Texts.{top_walk}
use Rattle.sv_elab_rules.proofs.WalkLemmas.{end_after, end_broken, joined_ends}
use Rattle.sv_elab_rules.proofs.DeclarationLemmas.{declared_in_two}
use Rattle.sv_width.specs.Scopes as scopes
use Rattle.sv_width.specs.Scopes.{Known}
use Rattle.sv_elab_decl.specs.Sites.{SameSite, header_items}
use Rattle.sv_elab_decl.proofs.SameSites.{same_walk, same_until}
use Rattle.sv_elab.specs.Instances.{master_walk, set_up_walk, Opened, opened_walk, nothing_built}
use Rattle.sv_elab.specs.Instances.{top_site, opened, declared_names}
use Rattle.sv_elab.specs.Nests.{InstanceNesting, entered, site_at}

-- ---- the walk of items asks of a site where it stands alone

module _ (inside : Site → Built → Walk Built) (tables : SharedTables) (site other : Site)
    (names : Names) (path : site.path ≡ other.path) (around : site.around ≡ other.around) where
  instance_there : (taken : List (List ℕ)) (built : Built) (i : InstanceTree)
      → instance_walk inside tables site names taken built i ≡
      instance_walk inside tables other names taken built i
  unfolding instance_walk
  instance_there taken built i = λ j.
      instance_walk inside tables (record {
        path = path j;
        around = around j;
        master = other.master;
        set = other.set;
      }) names taken built i

  item_there : (taken : List (List ℕ)) (built : Built) (item : ItemTree)
      → item_walk inside tables site names taken built item ≡
      item_walk inside tables other names taken built item
  unfolding item_walk
  item_there taken built (parameter_item p) = refl
  item_there taken built (declared d) = refl
  item_there taken built (memory_item m) = refl
  item_there taken built (continuous ts p e) = refl
  item_there taken built (released t e to) = refl
  item_there taken built (always_item p clock s) = refl
  item_there taken built (invariant_item p e) = refl
  item_there taken built (instance_item i) = instance_there taken built i

  pub items_there : (taken : List (List ℕ)) (built : Built) (items : List ItemTree)
      → items_from inside tables site names taken built items ≡
      items_from inside tables other names taken built items
  unfolding items_from
  items_there taken built [] = refl
  items_there taken built (item ∷ items) = λ j.
      item_there taken built item j >>= λ next.
      items_there (taken ++ instance_names item) next items j

-- ---- steps taken together

four_joined : {X Y : Type 0} (o : Option X) (a b c : Bool) (s t u v : WalkStep) (more : X → Walk Y)
    → (found o s >>= λ x. ask a t >>= λ _. ask b u >>= λ _. ask c v >>= λ _. more x).end
    ≡ ((found o s >>= λ x. ask a t >>= λ _. ask b u >>= λ _. ask c v >>= λ _. done x) >>= more).end
four_joined None a b c s t u v more = refl
four_joined (Some x) false b c s t u v more = refl
four_joined (Some x) true false c s t u v more = refl
four_joined (Some x) true true false s t u v more = refl
four_joined (Some x) true true true s t u v more = refl

two_joined : {A B C D : Type 0} (w : Walk A) (v : A → Walk B) (f : A → B → C) (more : C → Walk D)
    → (w >>= λ a. v a >>= λ b. more (f a b)).end ≡ ((w >>= λ a. v a >>= λ b. done (f a b))
    >>= more).end
two_joined {A} {B} {C} {D} w v f more = by_first w.end
  where
    by_first : (r : Result A WalkStep)
        → (then_walk w.passed r (λ a. v a >>= λ b. more (f a b))).end
        ≡ (then_walk w.passed r (λ a. v a >>= λ b. done (f a b)) >>= more).end
    by_first (Err s) = refl
    by_first (Ok a) = by_second (v a).end
      where
        by_second : (r : Result B WalkStep)
            → (then_walk (v a).passed r (λ b. more (f a b))).end
            ≡ (then_walk (w.passed ++ (then_walk (v a).passed r (λ b. done (f a b))).passed)
            (then_walk (v a).passed r (λ b. done (f a b))).end more).end
        by_second (Ok b) = refl
        by_second (Err s) = refl

-- what ends alike goes on alike
pub same_after : {X Y : Type 0} (w : Walk X) (f g : X → Walk Y) → ((x : X) → (f x).end ≡ (g x).end)
    → (w >>= f).end ≡ (w >>= g).end
same_after {X} {Y} w f g same = by w.end
  where
    by : (r : Result X WalkStep) → (then_walk w.passed r f).end ≡ (then_walk w.passed r g).end
    by (Ok x) = same x
    by (Err s) = refl

-- ---- all of one instance

module _ (inside : Site → Built → Walk Built) (tables : SharedTables) (site : Site)
    (built : Built) where
  pub module_ends : (module_walk inside tables site built).end
      ≡ (opened_walk tables site built >>= λ (o : Opened).
      items_from inside tables site o.names o.taken o.built site.master.items).end
  unfolding module_walk
  module_ends =
      two_joined (declarations_walk (length built.signals) tables.least site nothing_declared
      (all_items site.master))
      (λ all. labels_walk tables (names_of (length built.signals) all.bindings)
      (declarations site.master) all.signals)
      (λ (all : Declared) (signals : List SignalForm). let o : Opened = record {
        names = names_of (length built.signals) all.bindings;
        taken = map (λ (b : List ℕ × Binding). b.0) all.bindings;
        built = record built { signals = built.signals ++ signals };
      } in o)
      (λ o. items_from inside tables site o.names o.taken o.built site.master.items)

-- sites that declare the same have the same ports, and open the same
module _ (tables : SharedTables) (s t : Site) (same : SameSite s t) where
  pub ports_same : (base : ℕ) → ports_of tables.least s base ≡ ports_of tables.least t base
  unfolding ports_of
  ports_same base = λ j. record {
    base = base;
    master = same.master j;
    scope =
        entry (same_until base tables.least s t same nothing_declared
        (header_items (same.master j)) j).bindings;
  }

  module _ (built : Built) where
    open_with : ModuleTree → Walk Declared → Walk Opened
    open_with m w =
        w >>= λ all. labels_walk tables (names_of (length built.signals) all.bindings)
        (declarations m) all.signals
        >>= λ signals. done (record {
          names = names_of (length built.signals) all.bindings;
          taken = map (λ (b : List ℕ × Binding). b.0) all.bindings;
          built = record built { signals = built.signals ++ signals };
        })

    pub opened_same : opened_walk tables s built ≡ opened_walk tables t built
    unfolding open_with
    opened_same =
        ap (open_with s.master)
        (same_walk (length built.signals) tables.least s t same nothing_declared
        (all_items s.master))
        ∙ ap (λ m. open_with m
        (declarations_walk (length built.signals) tables.least t nothing_declared
        (all_items m))) same.master

-- a header that breaks a rule opens nothing
pub header_unopened : (tables : SharedTables) (site : Site) (built : Built) (s : WalkStep)
    → (declarations_walk (length built.signals) tables.least site nothing_declared
    (header_items site.master)).end ≡ Err s
    → (opened_walk tables site built).end ≡ Err s
header_unopened tables site built s h =
    let base = length built.signals in
    let header = declarations_walk base tables.least site nothing_declared
    (header_items site.master) in
    let all = declarations_walk base tables.least site nothing_declared (all_items site.master) in
    let stops : all.end ≡ Err s =
    declared_in_two base tables.least site (header_items site.master) site.master.items
    nothing_declared
    ∙ end_broken header (λ d. declarations_walk base tables.least site d site.master.items) s h in
    end_broken all _ s stops

-- the same, from a site that declares the same
module _ (inside : Site → Built → Walk Built) (tables : SharedTables) (site there : Site)
    (same : SameSite site there) (built : Built) where
  items_of : Opened → Walk Built
  items_of o = items_from inside tables site o.names o.taken o.built site.master.items

  ends_there : (module_walk inside tables site built).end ≡ (opened_walk tables there built
      >>= items_of).end
  unfolding items_of
  ends_there =
      module_ends inside tables site built
      ∙ ap (λ (w : Walk Opened). (w >>= items_of).end) (opened_same tables site there same built)

  pub opened_stops : (s : WalkStep) → (opened_walk tables there built).end ≡ Err s →
      (module_walk inside tables site built).end ≡ Err s
  opened_stops s h = ends_there ∙ end_broken (opened_walk tables there built) items_of s h

  pub ends_at : (other : Site) → site.path ≡ other.path → site.around ≡ other.around
      → (module_walk inside tables site built).end
      ≡ (opened_walk tables there built >>= λ (o : Opened).
      items_from inside tables other o.names o.taken o.built there.master.items).end
  unfolding items_of
  ends_at other path around =
      ends_there ∙ same_after (opened_walk tables there built) items_of (λ (o : Opened).
      items_from inside tables other o.names o.taken o.built there.master.items)
      (λ (o : Opened).
      ap (λ (w : Walk Built).
      w.end) (items_there inside tables site other o.names path around o.taken o.built
      site.master.items)
      ∙ ap (λ (m : ModuleTree).
      (items_from inside tables other o.names o.taken o.built m.items).end) same.master)

-- a level of instances more
levels_more : (n levels : ℕ) → n ≡ suc levels
    → (tables : SharedTables) (site : Site) (built : Built)
    → site_walk n tables site built ≡ module_walk (site_walk levels tables) tables site built
unfolding site_walk
levels_more n levels e tables site built = ap (λ k. site_walk k tables site built) e

-- ---- an instance in another one

module _ (tables : SharedTables) (names : Names) (taken : List (List ℕ)) (built : Built)
    (i : InstanceTree)
    (nest : InstanceNesting) (n : ℕ) where
  next : ModuleTree → List (List ℕ × Number) → Site
  next m set =
      record {
        path = nest.path ++ i.name ∷ [];
        around = i.master ∷ nest.around;
        master = m;
        set = set;
      }

  with_links : List ProcessForm → Built
  with_links ps =
      record { signals = built.signals; processes = ps; instances = built.instances + 1 }

  last : ModuleTree → List (List ℕ × Number) → List ProcessForm → Walk Built
  last m set ps = site_walk n tables (next m set) (with_links ps)

  ports : ModuleTree → List (List ℕ × Number) → Ports
  ports m set = ports_of tables.least (next m set) (length built.signals)

  linking : ModuleTree → List (List ℕ × Number) → Walk Built
  linking m set = links_walk names (ports m set) built.processes i.links >>= last m set

  setting : ModuleTree → Walk Built
  setting m = overrides_walk names m i.overrides >>= linking m

  the_walk : Walk Built
  the_walk = instance_walk (site_walk n tables) tables (site_at nest) names taken built i

  the_master : Walk ModuleTree
  the_master = master_walk tables nest.around taken built.instances i

  start : the_walk.end ≡ (the_master >>= setting).end
  unfolding the_walk the_master instance_walk next with_links last ports linking setting
  start =
      four_joined (module_named tables.modules i.master) (not (list_any (bytes_eq i.name) taken))
      (not (list_any (bytes_eq i.master) nest.around)) (nat_lt built.instances 1024)
      (unknown_module i.place i.master) (twice i.name_place i.name) (recursive i.place i.master)
      (too_many i.place)
      setting

  pub master_broken : (s : WalkStep)
      → (master_walk tables nest.around taken built.instances i).end ≡ Err s
      → (instance_walk (site_walk n tables) tables (site_at nest) names taken built i).end ≡ Err s
  unfolding the_walk the_master
  master_broken s h = start ∙ end_broken the_master setting s h

  module _ (m : ModuleTree)
      (master : (master_walk tables nest.around taken built.instances i).end ≡ Ok m)
      (levels : ℕ) (fewer : n ≡ suc levels) (path : List (List ℕ))
      (there : nest.path ++ i.name ∷ [] ≡ path) where
    -- the same site without what is around it
    alone : List (List ℕ × Number) → Site
    alone set = record { path = path; around = []; master = m; set = set }

    same : (set : List (List ℕ × Number)) → SameSite (next m set) (alone set)
    unfolding next alone
    same set = record { path = there; master = refl; set = λ k. refl }

    opening : List (List ℕ × Number) → List ProcessForm → Walk Opened
    opening set ps = opened_walk tables (alone set) (with_links ps)

    placing : List (List ℕ × Number) → Walk Opened
    placing set =
        links_walk names (ports_of tables.least (alone set) (length built.signals))
        built.processes i.links >>= opening set

    own_items : Opened → Walk Built
    own_items o =
        items_from (site_walk levels tables) tables (site_at (entered nest i.name i.master))
        o.names o.taken o.built m.items

    last_is : (set : List (List ℕ × Number)) (ps : List ProcessForm)
        → (last m set ps).end ≡ (opening set ps >>= own_items).end
    unfolding last opening own_items next alone
    last_is set ps =
        ap (λ (w : Walk Built). w.end)
        (levels_more n levels fewer tables (next m set) (with_links ps))
        ∙ ends_at (site_walk levels tables) tables (next m set) (alone set) (same set)
        (with_links ps) (site_at (entered nest i.name i.master)) refl refl

    linking_is : (set : List (List ℕ × Number))
        → (linking m set).end ≡ (placing set >>= own_items).end
    unfolding linking ports placing alone with_links
    linking_is set =
        let linked = λ (p : Ports). links_walk names p built.processes i.links in
        let here = ports_of tables.least (alone set) (length built.signals) in
        same_after (linked (ports m set)) (last m set) (λ ps. opening set ps >>= own_items)
        (last_is set)
        ∙ ap (λ (p : Ports). (linked p >>= λ ps. opening set ps >>= own_items).end)
        (ports_same tables (next m set) (alone set) (same set) (length built.signals))
        ∙ sym (joined_ends (linked here) (opening set) own_items)

    whole : the_walk.end ≡ (set_up_walk tables names path m built i >>= own_items).end
    unfolding the_master setting set_up_walk placing opening alone with_links
    whole =
        start ∙ end_after the_master setting m master
        ∙ same_after (overrides_walk names m i.overrides) (linking m)
        (λ set. placing set >>= own_items) linking_is
        ∙ sym (joined_ends (overrides_walk names m i.overrides) placing own_items)

    pub set_up_broken : (s : WalkStep) → (set_up_walk tables names path m built i).end ≡ Err s
        → (instance_walk (site_walk n tables) tables (site_at nest) names taken built i).end ≡ Err s
    unfolding the_walk
    set_up_broken s h =
        whole ∙ end_broken (set_up_walk tables names path m built i) own_items s h

    pub instance_ends : (o : Opened) → (set_up_walk tables names path m built i).end ≡ Ok o
        → (instance_walk (site_walk n tables) tables (site_at nest) names taken built i).end
        ≡ (items_from (site_walk levels tables) tables (site_at (entered nest i.name i.master))
        o.names o.taken o.built m.items).end
    unfolding the_walk own_items
    instance_ends o h =
        whole ∙ end_after (set_up_walk tables names path m built i) own_items o h

    -- the same with the nest, the names and the items as the code has them
    pub instance_ends_at : (known boxed : Known) (after : Built) (inside : InstanceNesting)
        (items : List Item)
        → known ≡ boxed → inside ≡ entered nest i.name i.master → map item_tree items ≡ m.items
        → (set_up_walk tables names path m built i).end ≡ Ok (opened boxed after)
        → (instance_walk (site_walk n tables) tables (site_at nest) names taken built i).end
        ≡ (items_from (site_walk levels tables) tables (site_at inside) (scopes.names_of known)
        (declared_names known) after (map item_tree items)).end
    instance_ends_at known boxed after inside items same enters listed h =
        instance_ends (opened known after) (h ∙ ap (λ (k : Known). Ok (opened k after)) (sym same))
        ∙ ap (λ (k : InstanceNesting).
        (items_from (site_walk levels tables) tables (site_at k) (scopes.names_of known)
        (declared_names known) after m.items).end) (sym enters)
        ∙ ap (λ (xs : List ItemTree).
        (items_from (site_walk levels tables) tables (site_at inside) (scopes.names_of known)
        (declared_names known) after xs).end) (sym listed)

-- ---- the top

-- a header that breaks a rule, at a site that declares the same
pub header_stops : (tables : SharedTables) (site there : Site) → SameSite site there
    → (built : Built) (s : WalkStep)
    → (declarations_walk (length built.signals) tables.least there nothing_declared
    (header_items there.master)).end ≡ Err s
    → (opened_walk tables site built).end ≡ Err s
header_stops tables site there same built s h =
    ap (λ (w : Walk Opened). w.end) (opened_same tables site there same built)
    ∙ header_unopened tables there built s h

module _ (tables : SharedTables) (m : ModuleTree) where
  around_top : Site
  around_top = record { path = []; around = m.name ∷ []; master = m; set = [] }

  same_top : SameSite around_top (top_site m)
  unfolding around_top
  same_top = record { path = refl; master = refl; set = λ n. refl }

  top_module : (top_walk tables m).end ≡
      (module_walk (site_walk 1024 tables) tables around_top nothing_built).end
  unfolding top_walk around_top
  top_module = ap (λ (w : Walk Built). w.end)
      (levels_more most_levels 1024 refl tables (record {
        path = [];
        around = m.name ∷ [];
        master = m;
        set = [];
      })
      (record { signals = []; processes = []; instances = 1 }))

  pub top_broken : (s : WalkStep) → (opened_walk tables (top_site m) nothing_built).end ≡ Err s
      → (top_walk tables m).end ≡ Err s
  top_broken s h =
      top_module ∙ opened_stops (site_walk 1024 tables) tables around_top (top_site m) same_top
      nothing_built s h

  pub top_end : (o : Opened) → (opened_walk tables (top_site m) nothing_built).end ≡ Ok o
      → (top_walk tables m).end
      ≡ (items_from (site_walk 1024 tables) tables
      (site_at (record { path = []; around = m.name ∷ [] })) o.names o.taken o.built m.items).end
  unfolding around_top
  top_end o h =
      top_module
      ∙ ends_at (site_walk 1024 tables) tables around_top (top_site m) same_top nothing_built
      (site_at (record { path = []; around = m.name ∷ [] })) refl refl
      ∙ end_after (opened_walk tables (top_site m) nothing_built) _ o h
