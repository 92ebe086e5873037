-- What the walk of the inside of an instance that ends well has gone through: its declarations,
-- their labels and its items.
use Rattle.std.proofs.Common.{◌≡◌, ℕ, List, ◌++◌, map, length, subst, ap, ◌∙◌}
use Rattle.std.specs.Prelude.{Ok}
use Rattle.sv_ast.specs.Scopes.{Binding}
use Rattle.sv_ast.specs.Instances.{all_items}
use Rattle.sv_ast.specs.Parts.{declarations}
use Rattle.sv_flat.specs.Design.{SignalForm}
use Rattle.sv_elab_rules.specs.Walks.{Walk}
use Rattle.sv_elab_rules.specs.Names.{names_of}
use Rattle.sv_elab_rules.specs.Declarations.{Site, Declared, nothing_declared, declarations_walk}
use Rattle.sv_elab_rules.specs.LabelSteps.{SharedTables, labels_walk}
use Rattle.sv_elab_rules.specs.InstanceSteps.{Built, items_from, module_walk}
use Rattle.sv_elab_rules.proofs.WalkLemmas.{parts_done}
use Rattle.sv_elab_laws.proofs.PartsDeclared.{Declares, walked, forms, form_in}
use Rattle.sv_elab_laws.proofs.PartsNamed.{item_declarations}

module _ (tables : SharedTables) (inside : Site → Built → Walk Built) (site : Site)
    (built after : Built) where
  pub record Opened : Type 0 where
    pub declared_all : Declared
    pub declared_done : (declarations_walk (length built.signals) tables.least site nothing_declared
        (all_items site.master)).end ≡ Ok declared_all
    pub declares : Declares (length built.signals) tables.least site nothing_declared declared_all
        (all_items site.master)
    pub signals : List SignalForm
    pub labels_done : (labels_walk tables (names_of (length built.signals) declared_all.bindings)
        (declarations site.master) declared_all.signals).end ≡ Ok signals
    pub items_done : (items_from inside tables site
        (names_of (length built.signals) declared_all.bindings)
        (map (λ (b : List ℕ × Binding). b.0) declared_all.bindings)
        (record built { signals = built.signals ++ signals }) site.master.items).end ≡ Ok after

  pub opened : (module_walk inside tables site built).end ≡ Ok after → Opened
  unfolding module_walk
  opened h =
      let base = length built.signals in
      let items = all_items site.master in
      let first = parts_done (declarations_walk base tables.least site nothing_declared items) _
      after h in
      let w = first.0 in
      let second = parts_done
      (labels_walk tables (names_of base w.bindings) (declarations site.master) w.signals) _ after
      first.2 in
      record {
        declared_all = w;
        declared_done = first.1;
        declares = walked base tables.least site items nothing_declared w first.1;
        signals = second.0;
        labels_done = second.1;
        items_done = second.2;
      }

  -- a signal was made of each declaration, and was given its label
  pub labels_made : (o : Opened)
      → (labels_walk tables (names_of (length built.signals) o.declared_all.bindings)
      (declarations site.master)
      (map (form_in (length built.signals) tables.least site o.declared_all)
      (declarations site.master))).end ≡ Ok o.signals
  labels_made o =
      let base = length built.signals in
      let w = o.declared_all in
      subst (λ ss. (labels_walk tables (names_of base w.bindings) (declarations site.master)
      ss).end ≡ Ok o.signals)
      (forms base tables.least site (all_items site.master) nothing_declared w o.declares
      ∙ ap (map (form_in base tables.least site w)) (item_declarations site.master))
      o.labels_done
