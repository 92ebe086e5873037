-- Where the walk of an instance ends, from what the code has in hand.
use Rattle.std.proofs.Common.{◌≡◌, ℕ, ◌+◌, Bool, true, false, not, List, [], ◌∷◌, ◌++◌, length}
use Rattle.std.proofs.Common.{Option, Some, None, append_assoc, refl, sym, ap, ◌∙◌}
use Rattle.std.specs.Prelude.{Result, Ok, Err, nat_lt}
use Rattle.std.specs.List.{list_any}
use Rattle.std.specs.Str.{bytes_eq}
use Rattle.std.proofs.lemmas.List.Folds.{list_any-append}
use Rattle.indexmap.specs.IndexSet.{insert_key}
use Rattle.std.proofs.lemmas.Bool.{or_parts}
use Rattle.sv_ast.specs.Scopes.{Number}
use Rattle.sv_ast.specs.Tree.{InstanceTree, ItemTree, ModuleTree}
use Rattle.sv_ast.specs.Instances.{module_named}
use Rattle.sv_flat.specs.Design.{ProcessForm}
use Rattle.sv_elab_rules.specs.Walks.{WalkStep, Walk, ask, done, found, then_walk, ◌>>=◌}
use Rattle.sv_elab_rules.specs.Names.{Names}
use Rattle.sv_elab_rules.specs.Declarations.{Site, Declared, nothing_declared, declarations_walk}
use Rattle.sv_elab_rules.specs.LabelSteps.{SharedTables}
use Rattle.sv_elab_rules.specs.Overrides.{overrides_walk}
use Rattle.sv_elab_rules.specs.Links.{Ports, links_walk}
use Rattle.sv_elab_rules.specs.InstanceSteps.{Built, ports_of, instance_names, item_walk, items_from}
use Rattle.sv_elab_rules.proofs.WalkLemmas.{end_after, end_broken}
use Rattle.sv_elab_decl.specs.Sites.{SameSite, header_items}
use Rattle.sv_elab.specs.Instances.{master_walk, set_up_walk, linked_walk, Opened, opened_walk}
use Rattle.sv_elab.proofs.NestLemmas.{new_last}
use Rattle.sv_elab.proofs.InstanceEnds.{same_after, ports_same, opened_same, header_unopened}

-- ---- an instance up to its items

module _ (tables : SharedTables) (outer : Names) (path : List (List ℕ)) (m : ModuleTree)
    (built : Built) (i : InstanceTree) where
  with_links : List ProcessForm → Built
  with_links ps =
      record { signals = built.signals; processes = ps; instances = built.instances + 1 }

  alone : List (List ℕ × Number) → Site
  alone set = record { path = path; around = []; master = m; set = set }

  linked : Site → (base : ℕ) → Walk (List ProcessForm)
  linked site base =
      links_walk outer (ports_of tables.least site base) built.processes i.links

  opening : Site → List ProcessForm → Walk Opened
  opening site ps = opened_walk tables site (with_links ps)

  linking : List (List ℕ × Number) → Walk Opened
  linking set = linked (alone set) (length built.signals) >>= opening (alone set)

  whole : set_up_walk tables outer path m built i ≡
      (overrides_walk outer m i.overrides >>= linking)
  unfolding set_up_walk linking linked opening alone with_links
  whole = refl

  pub unset : (s : WalkStep) → (overrides_walk outer m i.overrides).end ≡ Err s
      → (set_up_walk tables outer path m built i).end ≡ Err s
  unset s h =
      ap (λ (w : Walk Opened). w.end) whole
      ∙ end_broken (overrides_walk outer m i.overrides) linking s h

  -- from the site that the code has, which sets the same
  module _ (set : List (List ℕ × Number)) (sets : (overrides_walk outer m i.overrides).end ≡ Ok set)
      (there : Site)
      (same : SameSite (record { path = path; around = []; master = m; set = set }) there)
      (base : ℕ) (sized : length built.signals ≡ base) where
    from_links : (set_up_walk tables outer path m built i).end
        ≡ (linked there (length built.signals) >>= opening there).end
    unfolding linking linked opening alone
    from_links =
        let n = length built.signals in
        ap (λ (w : Walk Opened). w.end) whole
        ∙ end_after (overrides_walk outer m i.overrides) linking set sets
        ∙ ap (λ (p : Ports).
        (links_walk outer p built.processes i.links >>= opening (alone set)).end)
        (ports_same tables (alone set) there same n)
        ∙ same_after (linked there n) (opening (alone set)) (opening there) (λ ps.
        ap (λ (w : Walk Opened).
        w.end) (opened_same tables (alone set) there same (with_links ps)))

    header : Walk Declared
    header =
        declarations_walk (length built.signals) tables.least there nothing_declared
        (header_items there.master)

    pub unlinked : (s : WalkStep)
        → (linked_walk outer tables.least there base built.processes i.links).end ≡ Err s
        → (set_up_walk tables outer path m built i).end ≡ Err s
    unfolding linked opening header with_links
    unlinked s h =
        from_links ∙ by (linked there (length built.signals)).end
        (ap (λ b. (linked_walk outer tables.least there b built.processes i.links).end) sized ∙ h)
      where
        by_header : (ps : List ProcessForm) (r : Result Declared WalkStep) → header.end ≡ r
            → (then_walk header.passed r (λ d. done ps)).end ≡ Err s
            → (opening there ps).end ≡ Err s
        by_header ps (Ok d) e k = absurd (cc k)
        by_header ps (Err t) e k =
            let same_step : t ≡ s = cc k in
            header_unopened tables there (with_links ps) s
            (e ∙ ap (λ (u : WalkStep). Err u) same_step)

        by : (r : Result (List ProcessForm) WalkStep)
            → (then_walk (linked there (length built.signals)).passed r (λ ps.
            header >>= λ _. done ps)).end ≡ Err s
            → (then_walk (linked there (length built.signals)).passed r (opening there)).end ≡
            Err s
        by (Ok ps) k = by_header ps header.end refl k
        by (Err t) k = let same_step : t ≡ s = cc k in ap (λ (u : WalkStep). Err u) same_step

    pub from_opened : (ps : List ProcessForm)
        → (links_walk outer (ports_of tables.least there base) built.processes i.links).end ≡ Ok ps
        → (set_up_walk tables outer path m built i).end
        ≡ (opened_walk tables there (record {
          signals = built.signals;
          processes = ps;
          instances = built.instances + 1;
        })).end
    unfolding linked opening with_links
    from_opened ps h =
        from_links
        ∙ end_after (linked there (length built.signals)) (opening there) ps
        (ap (λ b. (linked there b).end) sized ∙ h)

-- ---- items one after another

module _ (inside : Site → Built → Walk Built) (tables : SharedTables) (site : Site) (names : Names)
    (taken : List (List ℕ)) (built : Built) where
  pub items_none : (items_from inside tables site names taken built []).end ≡ Ok built
  unfolding items_from
  items_none = refl

  module _ (item : ItemTree) (items : List ItemTree) where
    pub items_more : (next : Built)
        → (item_walk inside tables site names taken built item).end ≡ Ok next
        → (items_from inside tables site names taken built (item ∷ items)).end
        ≡ (items_from inside tables site names (taken ++ instance_names item) next items).end
    unfolding items_from
    items_more next h = rw h refl

    pub items_broken : (s : WalkStep)
        → (item_walk inside tables site names taken built item).end ≡ Err s
        → (items_from inside tables site names taken built (item ∷ items)).end ≡ Err s
    unfolding items_from
    items_broken s h = rw h refl

-- ---- a name that is taken

name_passes : {X : Type 0} (o : Option X) (a b c : Bool) (s t u v : WalkStep) (x : X)
    → (found o s >>= λ y. ask a t >>= λ _. ask b u >>= λ _. ask c v >>= λ _. done y).end ≡ Ok x
    → a ≡ true
name_passes None a b c s t u v x h = absurd (cc h)
name_passes (Some y) true b c s t u v x h = refl
name_passes (Some y) false b c s t u v x h = absurd (cc h)

pub name_free : (tables : SharedTables) (around declared keys : List (List ℕ)) (instances : ℕ)
    (i : InstanceTree) (m : ModuleTree)
    → (master_walk tables around (declared ++ keys) instances i).end ≡ Ok m
    → list_any (bytes_eq i.name) keys ≡ false
name_free tables around declared keys instances i m h =
    let passes = name_passes (module_named tables.modules i.master)
    (not (list_any (bytes_eq i.name) (declared ++ keys)))
    (not (list_any (bytes_eq i.master) around)) (nat_lt instances 1024) _ _ _ _ m h in
    (or_parts (list_any (bytes_eq i.name) declared) (list_any (bytes_eq i.name) keys)
    (sym (list_any-append (bytes_eq i.name) declared keys)
    ∙ by (list_any (bytes_eq i.name) (declared ++ keys)) passes)).1
  where
    by : (b : Bool) → not b ≡ true → b ≡ false
    by true k = absurd (cc k)
    by false k = refl

pub name_taken : (declared keys : List (List ℕ)) (n : List ℕ) → list_any (bytes_eq n) keys ≡ false
    → declared ++ insert_key bytes_eq keys n ≡ declared ++ keys ++ n ∷ []
name_taken declared keys n h =
    ap (λ ks. declared ++ ks) (new_last keys n h) ∙ sym (append_assoc declared keys (n ∷ []))
