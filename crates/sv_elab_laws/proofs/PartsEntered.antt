-- What the walk of an instance that ends well has gone through: its module, what is set in it, its
-- links and its inside.
use Rattle.std.proofs.Common.{◌≡◌, ℕ, ◌+◌, ◌<◌, false, List, [], ◌∷◌, ◌++◌, length, Some, sym, ap}
use Rattle.std.proofs.Common.{◌∙◌}
use Rattle.std.specs.Prelude.{not, nat_lt, Contains, Ok, option_map}
use Rattle.std.specs.List.{list_any}
use Rattle.std.specs.Str.{bytes_eq}
use Rattle.std.proofs.lemmas.Bool.{not-true, ltb-true}
use Rattle.sv_ast.specs.Scopes.{Number}
use Rattle.sv_ast.specs.Tree.{InstanceTree, ModuleTree}
use Rattle.sv_ast.specs.Instances.{module_named, settings}
use Rattle.sv_ast.specs.Parts.{part_with, within, child}
use Rattle.sv_flat.specs.Design.{ProcessForm}
use Rattle.sv_elab_rules.specs.Walks.{Walk, ask, found}
use Rattle.sv_elab_rules.specs.Rules.{unknown_module, twice, recursive, too_many}
use Rattle.sv_elab_rules.specs.Names.{Names}
use Rattle.sv_elab_rules.specs.Declarations.{Site}
use Rattle.sv_elab_rules.specs.LabelSteps.{SharedTables}
use Rattle.sv_elab_rules.specs.Overrides.{overrides_walk}
use Rattle.sv_elab_rules.specs.Links.{links_walk}
use Rattle.sv_elab_rules.specs.InstanceSteps.{Built, ports_of, instance_walk}
use Rattle.sv_elab_rules.proofs.WalkLemmas.{parts_done, asked_true, found_some}
use Rattle.sv_elab_laws.proofs.PartsShapes.{IsFlattenedModule}
use Rattle.sv_elab_laws.proofs.PartsOverrides.{overrides_done, overrides_open}
use Rattle.sv_elab_laws.proofs.PartsNamed.{IsSound, part_of}
use Rattle.sv_elab_laws.proofs.PartsSettings.{settings_fit}
use Rattle.sv_elab_laws.proofs.PartsMade.{named_listed}

-- the site of an instance inside another site
abbrev pub inner_site : Site → InstanceTree → ModuleTree → List (List ℕ × Number) → Site
inner_site site i master set = record {
  path = site.path ++ i.name ∷ [];
  around = i.master ∷ site.around;
  master = master;
  set = set;
}

-- what is built before the inside of an instance, with the processes of its links
abbrev pub with_instance : Built → List ProcessForm → Built
with_instance built processes = record {
  signals = built.signals;
  processes = processes;
  instances = built.instances + 1;
}

module _ (tables : SharedTables) (inside : Site → Built → Walk Built) (site : Site)
    (names : Names) where
  pub record Entered (taken : List (List ℕ)) (built next : Built) (i : InstanceTree) : Type 0 where
    pub master : ModuleTree
    pub set : List (List ℕ × Number)
    pub processes : List ProcessForm
    pub is_found : module_named tables.modules i.master ≡ Some master
    pub listed : Contains tables.modules master
    pub is_free : list_any (bytes_eq i.name) taken ≡ false
    pub has_room : built.instances < 1024
    pub set_done : (overrides_walk names master i.overrides).end ≡ Ok set
    pub links_done : (links_walk names
        (ports_of tables.least (inner_site site i master set) (length built.signals))
        built.processes i.links).end ≡ Ok processes
    pub inside_done : (inside (inner_site site i master set) (with_instance built processes)).end
        ≡ Ok next
    pub is_child : names.scope ≡ (part_of site).scope
        → child tables.modules (part_of site) i ≡ Some (part_of (inner_site site i master set))
    pub sound : IsFlattenedModule master → IsSound (inner_site site i master set)

  pub entered : (taken : List (List ℕ)) (built next : Built) (i : InstanceTree)
      → (instance_walk inside tables site names taken built i).end ≡ Ok next
      → Entered taken built next i
  unfolding instance_walk
  entered taken built next i h =
      let modules = tables.modules in
      let module_step = parts_done
      (found (module_named modules i.master) (unknown_module i.place i.master)) _ next h in
      let m = module_step.0 in
      let fresh = parts_done
      (ask (not (list_any (bytes_eq i.name) taken)) (twice i.name_place i.name)) _ next
      module_step.2 in
      let apart = parts_done
      (ask (not (list_any (bytes_eq i.master) site.around)) (recursive i.place i.master)) _
      next fresh.2 in
      let room = parts_done (ask (nat_lt built.instances 1024) (too_many i.place)) _ next
      apart.2 in
      let setting = parts_done (overrides_walk names m i.overrides) _ next room.2 in
      let set = setting.0 in
      let linked = parts_done
      (links_walk names (ports_of tables.least (inner_site site i m set) (length built.signals))
      built.processes i.links) _ next setting.2 in
      let found_module : module_named modules i.master ≡ Some m =
      found_some (module_named modules i.master) (unknown_module i.place i.master) m
      module_step.1 in
      let set_is : set ≡ settings names.scope m i.overrides =
      overrides_done names m i.overrides set setting.1 in record {
        master = m;
        set = set;
        processes = linked.0;
        is_found = found_module;
        listed = named_listed modules i.master m found_module;
        is_free =
            not-true (list_any (bytes_eq i.name) taken)
            (asked_true (not (list_any (bytes_eq i.name) taken)) (twice i.name_place i.name)
            fresh.1);
        has_room =
            ltb-true built.instances 1024
            (asked_true (nat_lt built.instances 1024) (too_many i.place) room.1);
        set_done = setting.1;
        links_done = linked.1;
        inside_done = linked.2;
        is_child = λ scope_is. ap (option_map (λ (x : ModuleTree).
            part_with (within (part_of site) i.name)
            (settings (part_of site).scope x i.overrides) x)) found_module
            ∙ ap (λ s. Some (part_with (within (part_of site) i.name) s m))
            (sym (set_is ∙ ap (λ s. settings s m i.overrides) scope_is));
        sound = λ flattened. record {
          header = flattened.header;
          open_set = overrides_open names m i.overrides set setting.1;
          fits = settings_fit names m i.overrides set setting.1;
        };
      }
