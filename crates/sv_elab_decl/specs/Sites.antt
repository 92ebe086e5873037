-- Instances and what they declare, as the walk has them.
use Rattle.std.specs.Prelude.{◌≡◌, ℕ, ◌+◌, ◌≤◌, List, [], ◌∷◌, ◌++◌, map, length}
use Rattle.std.specs.List.{list_any}
use Rattle.std.specs.Str.{bytes_eq}
use Rattle.sv_num.specs.declared.vectors.Bits.{Bits}
use Rattle.sv_lattice.specs.Maps.{MapRows}
use Rattle.sv_ast.specs.Scopes.{Number, Binding, parameter, signal}
use Rattle.sv_ast.specs.Tree.{ItemTree, parameter_item, declared, ModuleTree}
use Rattle.sv_ast.specs.Instances.{entry, all_items}
use Rattle.sv_ast.specs.Views.{module_tree}
use Rattle.sv_flat.specs.Views.{signal_form}
use Rattle.sv_elab_rules.specs.Names.{names_at, item_declares}
use Rattle.sv_elab_rules.specs.Declarations as walk
use Rattle.sv_elab_rules.specs.LabelSteps.{SharedTables}
use Rattle.sv_width.specs.declared.meanings.Meaning.{Meaning}
use Rattle.sv_width.specs.Scopes.{Known, number_of, binding_of, names_ahead}
use Rattle.sv_elab_decl.specs.declared.sites.TextTables.{TextTables}
use Rattle.sv_elab_decl.specs.declared.sites.Site.{Site}
use Rattle.sv_elab_decl.specs.declared.sites.Declared.{Declared}

-- what all instances of a text share
abbrev pub tables_of : TextTables → SharedTables
tables_of t = record {
  modules = map module_tree t.modules.now;
  points = t.points.now.keys;
  least = t.least.0;
  map_names = map (λ (m : List ℕ × MapRows). m.0) t.maps.now.entries;
  maps = map (λ (m : List ℕ × MapRows). m.1) t.maps.now.entries;
}

-- values by name, each as a number
abbrev pub settings_of : List (List ℕ × Bits) → List (List ℕ × Number)
settings_of values = map (λ (v : List ℕ × Bits). (v.0, number_of v.1)) values

-- an instance; the modules around it do not matter to its declarations
abbrev pub site_of : Site → walk.Site
site_of s = record {
  path = s.path.now;
  around = [];
  master = module_tree s.master.now;
  set = settings_of s.set.now.entries;
}

-- two instances that declare the same: they set each parameter to the same value
pub record SameSite (s t : walk.Site) : Type 0 where
  pub path : s.path ≡ t.path
  pub master : s.master ≡ t.master
  pub set : (n : List ℕ) → entry s.set n ≡ entry t.set n

-- what the names of a scope stand for, in the order of their declarations
abbrev pub bindings_in : Known → List (List ℕ × Binding)
bindings_in known = map (λ (m : List ℕ × Meaning). (m.0, binding_of m.1)) known.meanings

-- what an instance has declared so far
abbrev pub declared_of : Declared → walk.Declared
declared_of d = record { bindings = bindings_in d.scope; signals = map signal_form d.signals.items }

-- the declarations of a header: its parameters, and then its ports
abbrev pub header_items : ModuleTree → List ItemTree
header_items m = map parameter_item m.parameters ++ map declared m.ports

-- how many of the names are signals
abbrev pub signal_count : List (List ℕ × Binding) → ℕ
signal_count [] = 0
signal_count ((n, parameter v) ∷ bindings) = signal_count bindings
signal_count ((n, signal width signed) ∷ bindings) = signal_count bindings + 1

-- the names that the declarations of the module make signals are announced
abbrev pub AreAnnounced : ModuleTree → Known → Type 0
AreAnnounced m known = (n : List ℕ)
    → list_any (bytes_eq n) known.announced ≡ list_any (item_declares n) (all_items m)

-- the scope has the names of the walk at the next declaration; above the limit of signals their
-- numbers may differ
pub record IsAhead (base : ℕ) (m : ModuleTree) (d : Declared) : Type 0 where
  pub announced : AreAnnounced m d.scope
  pub few : base + length d.signals.items ≤ 4096

-- the scope has the names and numbers of the walk at the next declaration
pub record IsSoFar (base : ℕ) (m : ModuleTree) (d : Declared) : Type 0 where
  pub names : names_ahead d.scope ≡ names_at base m (bindings_in d.scope)
  pub counted : signal_count (bindings_in d.scope) ≡ length d.signals.items
  pub few : base + length d.signals.items ≤ 4096
