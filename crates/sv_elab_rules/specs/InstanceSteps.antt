-- The walk of one instance with all that it holds (IEEE 1364-2005, clauses 12.1 to 12.3):
-- declarations, labels, then `wire` values, `assign`, `always` and instances in textual order, each
-- instance whole.
use Rattle.std.specs.Prelude.{ℕ, zero, suc, ◌+◌, true, not, nat_lt, List, [], ◌∷◌, ◌++◌, length}
use Rattle.std.specs.Prelude.{map, Option, Some, None}
use Rattle.std.specs.List.{list_any}
use Rattle.std.specs.Str.{bytes_eq}
use Rattle.sv_num.specs.declared.faults.Place.{Place}
use Rattle.sv_ast.specs.Scopes.{Binding, width_of}
use Rattle.sv_ast.specs.Tree.{ExpressionTree, TargetTree, StatementTree, PlacedName}
use Rattle.sv_ast.specs.Tree.{DeclarationTree, InstanceTree, ItemTree, parameter_item, declared}
use Rattle.sv_ast.specs.Tree.{memory_item, continuous, released, always_item, invariant_item}
use Rattle.sv_ast.specs.Tree.{instance_item}
use Rattle.sv_ast.specs.Instances.{entry, module_named, all_items, is_signal}
use Rattle.sv_ast.specs.Parts.{declarations}
use Rattle.sv_flat.specs.Design.{SignalForm, ProcessForm, continuous as continuous_kind}
use Rattle.sv_flat.specs.Design.{combinational, clocked}
use Rattle.sv_elab_rules.specs.Walks.{Walk, done, ask, found, ◌>>=◌}
use Rattle.sv_elab_rules.specs.Rules.{unknown_module, twice, recursive, too_many, unknown_name}
use Rattle.sv_elab_rules.specs.Names.{Names, names_of}
use Rattle.sv_elab_rules.specs.ExpressionSteps.{expression_walk}
use Rattle.sv_elab_rules.specs.Targets.{assignment_walk}
use Rattle.sv_elab_rules.specs.Statements.{statement_walk}
use Rattle.sv_elab_rules.specs.Declarations.{Site, nothing_declared, declarations_walk, declared_until}
use Rattle.sv_elab_rules.specs.LabelSteps.{SharedTables, labels_walk}
use Rattle.sv_elab_rules.specs.Overrides.{overrides_walk}
use Rattle.sv_elab_rules.specs.Links.{Ports, whole_assignment, links_walk}

-- what the walk has built so far: the flat signals and processes in order, and how many instances
-- there are
pub record Built : Type 0 where
  pub signals : List SignalForm
  pub processes : List ProcessForm
  pub instances : ℕ

abbrev pub with_process : Built → ProcessForm → Built
with_process built process = record built { processes = built.processes ++ process ∷ [] }

-- the value of a `wire` is an assignment to it
unfoldable pub value_walk : Names → Built → DeclarationTree → Option ExpressionTree → Walk Built
value_walk names built d None = done built
value_walk names built d (Some e) = do
  value ← expression_walk names e (width_of (names.scope d.name))
  done (with_process built
      (whole_assignment d.place continuous_kind (names.number d.name)
      (width_of (names.scope d.name)) value))

unfoldable pub assign_walk : Names → Built → List TargetTree → Place → ExpressionTree → Walk Built
assign_walk names built ts p e = do
  body ← assignment_walk names ts p true e
  done (with_process built (record { place = p; kind = continuous_kind; body = body }))

-- a clock is a signal
unfoldable pub always_walk : Names → Built → Place → Option PlacedName → StatementTree → Walk Built
always_walk names built p None s = do
  body ← statement_walk names s
  done (with_process built (record { place = p; kind = combinational; body = body }))
always_walk names built p (Some clock) s = do
  _ ← ask (is_signal (names.scope clock.name)) (unknown_name clock.place clock.name)
  body ← statement_walk names s
  done (with_process built (record {
    place = p;
    kind = clocked (names.number clock.name);
    body = body;
  }))

-- what the declarations of a module's header will say of its ports; a port whose declaration breaks
-- another rule than the limit of signals, and each after it, has no width
unfoldable pub ports_of : (least : ℕ) → Site → (base : ℕ) → Ports
ports_of least site base = record {
  base = base;
  master = site.master;
  scope = entry (declared_until base least site nothing_declared
      (map parameter_item site.master.parameters ++ map declared site.master.ports)).bindings;
}

-- an instance: its module, its name, whether its module is around it, the limit, what it sets, its
-- links, then its inside
unfoldable pub instance_walk : (inside : Site → Built → Walk Built) → SharedTables → Site → Names
    → (taken : List (List ℕ)) → Built → InstanceTree → Walk Built
instance_walk inside tables site names taken built i = do
  m ← found (module_named tables.modules i.master) (unknown_module i.place i.master)
  _ ← ask (not (list_any (bytes_eq i.name) taken)) (twice i.name_place i.name)
  _ ← ask (not (list_any (bytes_eq i.master) site.around)) (recursive i.place i.master)
  _ ← ask (nat_lt built.instances 1024) (too_many i.place)
  set ← overrides_walk names m i.overrides
  let next : Site = record {
    path = site.path ++ i.name ∷ [];
    around = i.master ∷ site.around;
    master = m;
    set = set;
  }
  processes ← links_walk names (ports_of tables.least next (length built.signals))
      built.processes i.links
  inside next (record {
    signals = built.signals;
    processes = processes;
    instances = built.instances + 1;
  })

-- the names that an item takes besides those of its declarations
abbrev pub instance_names : ItemTree → List (List ℕ)
instance_names (instance_item i) = i.name ∷ []
instance_names _ = []

-- memories, releases and invariants are refused before the walk
unfoldable pub item_walk : (inside : Site → Built → Walk Built) → SharedTables → Site → Names
    → (taken : List (List ℕ)) → Built → ItemTree → Walk Built
item_walk inside tables site names taken built (parameter_item p) = done built
item_walk inside tables site names taken built (declared d) = value_walk names built d d.value
item_walk inside tables site names taken built (memory_item m) = done built
item_walk inside tables site names taken built (continuous ts p e) = assign_walk names built ts p e
item_walk inside tables site names taken built (released t e to) = done built
item_walk inside tables site names taken built (always_item p clock s) =
    always_walk names built p clock s
item_walk inside tables site names taken built (invariant_item p e) = done built
item_walk inside tables site names taken built (instance_item i) =
    instance_walk inside tables site names taken built i

unfoldable pub items_from : (inside : Site → Built → Walk Built) → SharedTables → Site → Names
    → (taken : List (List ℕ)) → Built → List ItemTree → Walk Built
items_from inside tables site names taken built [] = done built
items_from inside tables site names taken built (item ∷ items) = do
  next ← item_walk inside tables site names taken built item
  items_from inside tables site names (taken ++ instance_names item) next items

-- all of one instance, given the walk of the instances in it
unfoldable pub module_walk : (inside : Site → Built → Walk Built) → SharedTables → Site → Built →
    Walk Built
module_walk inside tables site built = do
  declared_all ← declarations_walk (length built.signals) tables.least site nothing_declared
      (all_items site.master)
  let names = names_of (length built.signals) declared_all.bindings
  signals ← labels_walk tables names (declarations site.master) declared_all.signals
  items_from inside tables site names (map (λ (b : List ℕ × Binding). b.0) declared_all.bindings)
      (record built { signals = built.signals ++ signals }) site.master.items

-- an instance with at most so many levels of instances in it; each level costs an instance, so a
-- number above their limit is never used up
unfoldable pub site_walk : (levels : ℕ) → SharedTables → Site → Built → Walk Built
site_walk zero tables site built = done built
site_walk (suc levels) tables site built = module_walk (site_walk levels tables) tables site built
