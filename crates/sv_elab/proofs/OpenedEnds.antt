-- Where the walk of an instance's signals ends, as the code comes to it.
use Rattle.std.proofs.Common.{◌≡◌, ℕ, Bool, true, false, cond, List, [], ◌∷◌, ◌++◌, length, map}
use Rattle.std.proofs.Common.{find, Some, refl, ap, ◌∙◌}
use Rattle.std.specs.Prelude.{Ok, Err, option_map, is_some, ◌||◌}
use Rattle.std.specs.List.{list_any}
use Rattle.std.specs.Str.{bytes_eq}
use Rattle.sv_ast.specs.Scopes.{Binding, Scope}
use Rattle.sv_ast.specs.Tree.{LinkTrees}
use Rattle.sv_ast.specs.Instances.{entry, all_items}
use Rattle.sv_ast.specs.Parts.{declarations}
use Rattle.sv_flat.specs.Design.{SignalForm, ProcessForm}
use Rattle.sv_elab_rules.specs.Walks.{WalkStep}
use Rattle.sv_elab_rules.specs.Names.{Names, names_of}
use Rattle.sv_elab_rules.specs.Declarations.{Site, Declared, nothing_declared, declarations_walk}
use Rattle.sv_elab_rules.specs.LabelSteps.{SharedTables, labels_walk}
use Rattle.sv_elab_rules.specs.InstanceSteps.{Built, ports_of}
use Rattle.sv_elab_rules.specs.Links.{Ports, links_walk}
use Rattle.sv_elab_rules.proofs.WalkLemmas.{end_after, end_broken}
use Rattle.sv_width.specs.declared.meanings.Meaning.{Meaning}
use Rattle.sv_width.specs.Scopes.{Known, binding_of}
use Rattle.sv_elab_decl.specs.Sites.{bindings_in, header_items}
use Rattle.sv_elab_decl.specs.Steps.{HasHeader}
use Rattle.sv_elab_decl.proofs.NameLemmas.{bindings_same}
use Rattle.sv_elab.specs.Instances.{opened_walk, linked_walk, ports_with}

module _ (tables : SharedTables) (site : Site) (built : Built) (base : ℕ)
    (sized : length built.signals ≡ base) where
  pub bodies_broken : (s : WalkStep)
      → (declarations_walk base tables.least site nothing_declared (all_items site.master)).end ≡
      Err s
      → (opened_walk tables site built).end ≡ Err s
  bodies_broken s h = rw (sized, h) refl

  module _ (d : Declared)
      (declared : (declarations_walk base tables.least site nothing_declared
      (all_items site.master)).end ≡ Ok d) where
    pub labels_broken : (s : WalkStep)
        → (labels_walk tables (names_of base d.bindings) (declarations site.master) d.signals).end ≡
        Err s
        → (opened_walk tables site built).end ≡ Err s
    labels_broken s h = rw (sized, declared, h) refl

    pub opened_end : (signals : List SignalForm)
        → (labels_walk tables (names_of base d.bindings) (declarations site.master) d.signals).end ≡
        Ok signals
        → (opened_walk tables site built).end ≡ Ok (record {
          names = names_of base d.bindings;
          taken = map (λ (b : List ℕ × Binding). b.0) d.bindings;
          built = record built { signals = built.signals ++ signals };
        })
    opened_end signals h = rw (sized, declared, h) refl

-- ---- what the names of the code stand for

pub declared_taken : (ms : List (List ℕ × Meaning)) (n : List ℕ)
    → is_some (entry ms n) ≡ list_any (bytes_eq n) (map (λ (m : List ℕ × Meaning). m.0) ms)
declared_taken [] n = refl
declared_taken (m ∷ ms) n = by (bytes_eq n m.0) (declared_taken ms n)
  where
    by : (b : Bool) → is_some (entry ms n) ≡
        list_any (bytes_eq n) (map (λ (k : List ℕ × Meaning). k.0) ms)
        → is_some (option_map (λ (row : List ℕ × Meaning).
        row.1) (cond b (Some m) (find (λ (row : List ℕ × Meaning). bytes_eq n row.0) ms)))
        ≡ (b || list_any (bytes_eq n) (map (λ (k : List ℕ × Meaning). k.0) ms))
    by true rest = refl
    by false rest = rest

-- the ports of a header, as far as it breaks no rule but the limit of signals
pub ports_are : (base least : ℕ) (site : Site) (known : Known)
    → HasHeader base least site known → ports_of least site base ≡ ports_with base site.master known
unfolding ports_of
ports_are base least site known names =
    ap (λ (bs : List (List ℕ × Binding)).
    let p : Ports = record { base = base; master = site.master; scope = entry bs } in
    p) names
    ∙ ap (λ (s : Scope). let p : Ports = record { base = base; master = site.master; scope = s } in
    p) (bindings_same known)

-- the links, and then the header
module _ (outer : Names) (least : ℕ) (site : Site) (base : ℕ) (processes : List ProcessForm)
    (ls : LinkTrees) where
  pub linked_broken : (s : WalkStep)
      → (links_walk outer (ports_of least site base) processes ls).end ≡ Err s
      → (linked_walk outer least site base processes ls).end ≡ Err s
  linked_broken s h = end_broken (links_walk outer (ports_of least site base) processes ls) _ s h

  pub header_broken : (ps : List ProcessForm)
      → (links_walk outer (ports_of least site base) processes ls).end ≡ Ok ps
      → (s : WalkStep) → (declarations_walk base least site nothing_declared
      (header_items site.master)).end ≡ Err s
      → (linked_walk outer least site base processes ls).end ≡ Err s
  header_broken ps h s k =
      end_after (links_walk outer (ports_of least site base) processes ls) _ ps h
      ∙ end_broken (declarations_walk base least site nothing_declared (header_items site.master)) _
      s k

same_names : (ms : List (List ℕ × Meaning)) →
    map (λ (b : List ℕ × Binding). b.0) (map (λ (m : List ℕ × Meaning). (m.0, binding_of m.1)) ms)
    ≡ map (λ (m : List ℕ × Meaning). m.0) ms
same_names [] = refl
same_names (m ∷ ms) = ap (λ ns. m.0 ∷ ns) (same_names ms)

pub names_taken : (known : Known) →
    map (λ (b : List ℕ × Binding). b.0) (bindings_in known) ≡ map (λ (m : List ℕ × Meaning).
    m.0) known.meanings
names_taken known = same_names known.meanings
