-- Private: how the code goes. The parts of an instance's walk, as the code takes them.
use Rattle.std.specs.Prelude.{◌≡◌, ℕ, ◌+◌, ◌≤◌, ◌<◌, ◌^◌, not, nat_lt, List, [], ◌++◌, length}
use Rattle.std.specs.Prelude.{map, Option, Some, None, Result, Ok, IsTrue}
use Rattle.std.specs.List.{list_any, list_all, position_from}
use Rattle.std.specs.Str.{bytes_eq}
use Rattle.sv_num.specs.declared.faults.Place.{Place}
use Rattle.sv_ast.specs.declared.declarations.Decl.{Decl}
use Rattle.sv_ast.specs.Instances.{entry, all_items, module_named, port_named, whole_signal}
use Rattle.sv_ast.specs.Instances.{is_signal}
use Rattle.sv_ast.specs.Parts.{declarations}
use Rattle.sv_ast.specs.Scopes.{Binding}
use Rattle.sv_ast.specs.Shape.{is_shaped_module}
use Rattle.sv_ast.specs.Tree.{ExpressionTree, DeclarationTree, InstanceTree, ItemTree, LinkTrees}
use Rattle.sv_ast.specs.Tree.{ModuleTree, PlacedName}
use Rattle.sv_ast.specs.Views.{declaration_tree, module_tree}
use Rattle.sv_flat.specs.Design.{ProcessKind, combinational, clocked, ProcessForm}
use Rattle.sv_flat.specs.Views.{signal_form, process_form}
use Rattle.sv_elab_rules.specs.Declarations.{Site, nothing_declared, declarations_walk}
use Rattle.sv_elab_rules.specs.InstanceSteps as walk
use Rattle.sv_elab_rules.specs.LabelSteps.{SharedTables, labels_walk}
use Rattle.sv_elab_rules.specs.Links as links
use Rattle.sv_elab_rules.specs.Names.{Names, names_of}
use Rattle.sv_elab_rules.specs.Overrides.{overrides_walk}
use Rattle.sv_elab_rules.specs.Rules.{unknown_name, unknown_module, twice, recursive, too_many}
use Rattle.sv_elab_rules.specs.Rules.{wrong_link}
use Rattle.sv_elab_rules.specs.Walks.{WalkStep, Walk, ask, done, found, ◌>>=◌}
use Rattle.sv_width.specs.Scopes as scopes
use Rattle.sv_width.specs.Scopes.{Known}
use Rattle.sv_width.specs.declared.meanings.KnownSignal.{KnownSignal}
use Rattle.sv_width.specs.declared.meanings.Meaning.TheVariants as meaning
use Rattle.sv_elab_decl.specs.Sites.{header_items, tables_of}
use Rattle.sv_elab.specs.Modules as modules
use Rattle.sv_elab.specs.Nests.{InstanceNesting, site_at}
use Rattle.sv_elab.specs.declared.built.Built.{Built}
use Rattle.sv_elab.specs.declared.instances.Interior.{Interior}
use Rattle.sv_elab.specs.declared.links.Ports.{Ports}
use Rattle.sv_elab.specs.declared.shared.Shared.{Shared}

-- what is built so far, as the walk has it
abbrev pub built_form : Built → walk.Built
built_form b = record {
  signals = map signal_form b.signals.items;
  processes = map process_form b.processes.items;
  instances = b.instances;
}

-- the names that the declarations of an instance take
abbrev pub declared_names : Known → List (List ℕ)
declared_names known = map (λ m. m.0) known.meanings

-- the names that are taken in an instance
abbrev pub taken_in : Interior → List (List ℕ)
taken_in inside = declared_names inside.scope.now ++ inside.instances.keys

-- the ports of an instance, as the walk has them
abbrev pub ports_form : Ports → links.Ports
ports_form p = record {
  base = p.base;
  master = module_tree p.master.now;
  scope = scopes.bindings_of p.scope.now;
}

-- the ports of a module whose first signal has the number `base`, with what is known of their names
abbrev pub ports_with : (base : ℕ) → ModuleTree → Known → links.Ports
ports_with base m known = record { base = base; master = m; scope = scopes.bindings_of known }

-- the first of two places that is there
abbrev pub first_of : Option ℕ → Option ℕ → Option ℕ
first_of (Some place) other = Some place
first_of None other = other

-- the place of the first of some declarations, numbered from so many on, that has the name
abbrev pub place_from : ℕ → List Decl → (name : List ℕ) → Option ℕ
place_from k ds n =
    position_from (λ (d : DeclarationTree). bytes_eq n d.name) k (map declaration_tree ds)

-- the place of the first port of each name
abbrev pub HavePlaces : Ports → Type 0
HavePlaces p = (n : List ℕ) → entry p.places.entries n ≡ place_from 0 p.master.now.ports.items n

-- a port to be linked by its name
abbrev pub port_walk : links.Ports → (linked : List (List ℕ)) → Place → (name : List ℕ)
    → Walk DeclarationTree
port_walk ports linked place name = do
  d ← found (port_named ports.master name) (wrong_link place name)
  _ ← ask (not (list_any (bytes_eq name) linked)) (wrong_link place name)
  done d

-- the walk ends with processes, and these were put behind the others
abbrev pub IsLinked : Result (List ProcessForm) WalkStep → (old new : List ProcessForm) → Type 0
IsLinked end old new = (more : List ProcessForm) × (end ≡ Ok more) × (new ≡ old ++ more)

-- the module of an instance, its name, whether its module is around it, and the limit
abbrev pub master_walk : SharedTables → (around taken : List (List ℕ)) → (instances : ℕ)
    → InstanceTree
    → Walk ModuleTree
master_walk tables around taken instances i = do
  m ← found (module_named tables.modules i.master) (unknown_module i.place i.master)
  _ ← ask (not (list_any (bytes_eq i.name) taken)) (twice i.name_place i.name)
  _ ← ask (not (list_any (bytes_eq i.master) around)) (recursive i.place i.master)
  _ ← ask (nat_lt instances 1024) (too_many i.place)
  done m

-- what an `always` is; a clock is a signal
abbrev pub always_kind_walk : Names → Option PlacedName → Walk ProcessKind
always_kind_walk names None = done combinational
always_kind_walk names (Some clock) = do
  _ ← ask (is_signal (names.scope clock.name)) (unknown_name clock.place clock.name)
  done (clocked (names.number clock.name))

-- an instance whose signals are declared: what its names stand for, and what is built with its
-- signals
pub record Opened : Type 0 where
  pub names : Names
  pub taken : List (List ℕ)
  pub built : walk.Built

-- the signals of an instance with their labels, before its items
abbrev pub opened_walk : SharedTables → Site → walk.Built → Walk Opened
opened_walk tables site built = do
  all ← declarations_walk (length built.signals) tables.least site nothing_declared
      (all_items site.master)
  let names = names_of (length built.signals) all.bindings
  signals ← labels_walk tables names (declarations site.master) all.signals
  done (record {
    names = names;
    taken = map (λ (b : List ℕ × Binding). b.0) all.bindings;
    built = record built { signals = built.signals ++ signals };
  })

-- as the code has it
abbrev pub opened : Known → walk.Built → Opened
opened known built = record {
  names = scopes.names_of known;
  taken = declared_names known;
  built = built;
}

-- the links of an instance, and then the declarations of its header
abbrev pub linked_walk : (outer : Names) → (least : ℕ) → Site → (base : ℕ) → List ProcessForm
    → LinkTrees
    → Walk (List ProcessForm)
linked_walk outer least site base processes ls = do
  more ← links.links_walk outer (walk.ports_of least site base) processes ls
  _ ← declarations_walk base least site nothing_declared (header_items site.master)
  done more

-- an instance whose module is known, up to its items: what it sets, its links, and its signals
unfoldable pub set_up_walk : SharedTables → (outer : Names) → (path : List (List ℕ)) → ModuleTree
    → walk.Built → InstanceTree → Walk Opened
set_up_walk tables outer path m built i = do
  set ← overrides_walk outer m i.overrides
  let site : Site = record { path = path; around = []; master = m; set = set }
  processes ← links.links_walk outer (walk.ports_of tables.least site (length built.signals))
      built.processes i.links
  opened_walk tables site (record {
    signals = built.signals;
    processes = processes;
    instances = built.instances + 1;
  })

-- what is built before the top's signals
abbrev pub nothing_built : walk.Built
nothing_built = record { signals = []; processes = []; instances = 1 }

-- the top, where nothing is around it and nothing is set
abbrev pub top_site : ModuleTree → Site
top_site m = record { path = []; around = []; master = m; set = [] }

-- where the walk of an item ends, from what the code has in hand
abbrev pub item_end : (levels : ℕ) → Shared → InstanceNesting → Interior → Built → ItemTree
    → Result walk.Built WalkStep
item_end levels shared nest inside built item =
    (walk.item_walk (walk.site_walk levels (tables_of shared.tables)) (tables_of shared.tables)
    (site_at nest) (scopes.names_of inside.scope.now) (taken_in inside) (built_form built)
    item).end

-- likewise an instance
abbrev pub instance_end : (levels : ℕ) → Shared → InstanceNesting → Interior → Built → InstanceTree
    → Result walk.Built WalkStep
instance_end levels shared nest inside built i =
    (walk.instance_walk (walk.site_walk levels (tables_of shared.tables)) (tables_of shared.tables)
    (site_at nest) (scopes.names_of inside.scope.now) (taken_in inside) (built_form built) i).end

-- the expression names the signal as a whole
abbrev pub IsWholeSignal : Known → ExpressionTree → KnownSignal → Type 0
IsWholeSignal known e s = (n : List ℕ) × (whole_signal (scopes.bindings_of known) e ≡ Some n)
    × (scopes.meaning_of known n ≡ Some (meaning.Signal s))

-- what all instances share is as the calls need it
pub record IsReady (s : Shared) : Type 0 where
  pub names : s.names.now.keys ≡ modules.names_of s.tables.modules.now
  pub shaped : IsTrue (list_all is_shaped_module (map module_tree s.tables.modules.now))
  pub points : length s.tables.points.now.keys ≤ 32
  pub maps : length s.tables.maps.now.entries < 2 ^ 32
