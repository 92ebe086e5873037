-- The walk of a whole text (this project's profile): the lattice, the maps, the names of modules,
-- the top, then the top's instance. Its end is the first broken rule, or the flat design that the
-- text stands for.
use Rattle.std.specs.Prelude.{◌≡◌, ℕ, not, List, [], ◌∷◌, ◌++◌, map, Option, Some, None, Result, Ok}
use Rattle.std.specs.Prelude.{Err}
use Rattle.std.specs.List.{list_any}
use Rattle.std.specs.Str.{bytes_eq}
use Rattle.sv_num.specs.declared.faults.Place.{Place}
use Rattle.sv_lattice.specs.Maps.{MapRows}
use Rattle.sv_ast.specs.Tree.{ModuleTree, TextTree}
use Rattle.sv_ast.specs.Instances.{top_module}
use Rattle.sv_ast.specs.Parts.{most_levels}
use Rattle.sv_flat.specs.Design.{FlatDesign}
use Rattle.sv_elab_rules.specs.Walks.{WalkStep, Walk, Steps, done, ask, found, ◌>>=◌}
use Rattle.sv_elab_rules.specs.Rules.{step, twice, no_top}
use Rattle.sv_elab_rules.specs.Lattices.{PointOrder, lattice_walk, least_point}
use Rattle.sv_elab_rules.specs.LabelMaps.{maps_walk}
use Rattle.sv_elab_rules.specs.LabelSteps.{SharedTables}
use Rattle.sv_elab_rules.specs.InstanceSteps.{Built, site_walk}

-- no module has the name of an earlier one
unfoldable pub module_names : (earlier : List (List ℕ)) → List ModuleTree → Steps
module_names earlier [] = done tt
module_names earlier (m ∷ ms) = do
  _ ← ask (not (list_any (bytes_eq m.name) earlier)) (twice m.place m.name)
  module_names (earlier ++ m.name ∷ []) ms

-- the top's instance; the top counts as an instance
unfoldable pub top_walk : SharedTables → ModuleTree → Walk Built
top_walk tables m = site_walk most_levels tables
    (record { path = []; around = m.name ∷ []; master = m; set = [] })
    (record { signals = []; processes = []; instances = 1 })

abbrev pub tables_of : List ModuleTree → PointOrder → List (List ℕ × MapRows) → SharedTables
tables_of modules order maps = record {
  modules = modules;
  points = order.points;
  least = least_point order.table;
  map_names = map (λ (m : List ℕ × MapRows). m.0) maps;
  maps = map (λ (m : List ℕ × MapRows). m.1) maps;
}

abbrev pub design_of : PointOrder → SharedTables → Built → FlatDesign
design_of order tables built = record {
  signals = built.signals;
  processes = built.processes;
  lattice = order.table;
  points = order.points;
  maps = tables.maps;
  invariants = [];
}

-- the walk of a text, with the module asked for as its top
unfoldable pub walk_of : TextTree → (top : Option (List ℕ)) → Walk FlatDesign
walk_of text top = do
  order ← lattice_walk text.lattice
  maps ← maps_walk order.points [] text.maps
  _ ← module_names [] text.modules
  m ← found (top_module text.modules top) no_top
  let tables = tables_of text.modules order maps
  built ← top_walk tables m
  done (design_of order tables built)

-- the value that a result has, if it has one
abbrev pub value_in : {X : Type 0} → Result X WalkStep → Option X
value_in (Ok x) = Some x
value_in (Err s) = None

-- the flat design that a text stands for, where it breaks no rule of the walk
abbrev pub flat_of : TextTree → (top : Option (List ℕ)) → Option FlatDesign
flat_of text top = value_in (walk_of text top).end

-- the rule is the first one of the walk that the text breaks, at that place and with those names
abbrev pub BreaksRule : (rule : ℕ) → Place → (names : List (List ℕ)) → TextTree
    → (top : Option (List ℕ))
    → Type 0
BreaksRule rule place names text top = (walk_of text top).end ≡ Err (step rule place names)
