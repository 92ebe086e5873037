-- A text and its flat design side by side: signal by signal and process by process, in order, with
-- clocks and links to clocks among them. Each process does the same under both names (IEEE
-- 1364-2005, clauses 6.1, 9.2, 9.7, 9.9.2 and 12.3).
use Rattle.std.specs.Prelude.{◌≡◌, ℕ, zero, suc, ◌<◌, ◌≤◌, ◌^◌, Bool, true, false, List, [], map}
use Rattle.std.specs.Prelude.{flat_map, length, Contains, Option, Some, None, unwrap_or, option_map}
use Rattle.std.specs.Prelude.{option_to_list}
use Rattle.std.specs.List.{slice_get, filter_map, AllZip}
use Rattle.std.specs.Option.{option_map_or}
use Rattle.sv_system.specs.System.{Environment, Run}
use Rattle.sv_ast.specs.ClockPaths.{edge_of}
use Rattle.sv_ast.specs.Tree.{ItemTree, released, instance_item, ModuleTree, TextTree}
use Rattle.sv_ast.specs.Instances.{top_module}
use Rattle.sv_ast.specs.Parts.{Path, Part, part_with, within, child, most_levels, parts}
use Rattle.sv_ast.specs.Parts.{PartSignal, signal_path, signal_width, signals_of}
use Rattle.sv_ast.specs.Processes.{Process, clocked, item_processes, change_of}
use Rattle.sv_ast.specs.Processes.{updates_of as source_updates_of}
use Rattle.sv_flat.specs.Design.{SignalForm, ProcessKind, clocked as clocked_kind, ProcessForm}
use Rattle.sv_flat.specs.Design.{FlatDesign}
use Rattle.sv_flat.specs.Processes.{is_clocked}
use Rattle.sv_flat.specs.Runs.{run_alone, updates_of}

-- ---- processes

-- the processes that the walk makes of an item: those of the text, but none of a released value
abbrev pub item_made : (inside : Part → List Process) → List ModuleTree → Part → ItemTree
    → List Process
item_made inside modules p (released target e to) = []
item_made inside modules p item = item_processes inside modules p item

-- those of an instance and of all inside it, item by item, down to so many levels
unfoldable pub made_from : (levels : ℕ) → List ModuleTree → Part → List Process
made_from zero modules p = []
made_from (suc levels) modules p =
    flat_map (item_made (made_from levels modules) modules p) p.definition.items

-- the processes of a text under its top, but for those of released values
abbrev pub made_of : TextTree → (asked : Option (List ℕ)) → List Process
made_of text asked = option_map_or
    (λ (m : ModuleTree). made_from most_levels text.modules (part_with [] [] m))
    (top_module text.modules asked) []

-- ---- clocks

-- the signal after the `posedge` of an item, or for an instance those inside it
abbrev pub item_edges : (inside : Part → List Path) → List ModuleTree → Part → ItemTree → List Path
item_edges inside modules p (instance_item i) = option_map_or inside (child modules p i) []
item_edges inside modules p item = option_to_list (option_map (within p) (edge_of item))

-- those of an instance and of all inside it, in the order of the processes
unfoldable pub edges_from : (levels : ℕ) → List ModuleTree → Part → List Path
edges_from zero modules p = []
edges_from (suc levels) modules p =
    flat_map (item_edges (edges_from levels modules) modules p) p.definition.items

-- those of a text, one for each of its clocked processes, in order
abbrev pub edges_of : TextTree → (asked : Option (List ℕ)) → List Path
edges_of text asked = option_map_or
    (λ (m : ModuleTree). edges_from most_levels text.modules (part_with [] [] m))
    (top_module text.modules asked) []

-- the clock of a flat process that is clocked
abbrev pub kind_clock : ProcessKind → Option ℕ
kind_clock (clocked_kind k) = Some k
kind_clock _ = None

abbrev pub clock_of : ProcessForm → Option ℕ
clock_of f = kind_clock f.kind

-- ---- signals and their values

-- the signals of a text, in order: those of each instance before those of the instances inside it
abbrev pub text_signals : TextTree → (asked : Option (List ℕ)) → List PartSignal
text_signals text asked = flat_map signals_of (parts text asked)

-- the path of the signal with a number
abbrev pub path_at : List PartSignal → ℕ → Path
path_at signals k = unwrap_or (slice_get (map signal_path signals) k) []

-- two environments give each signal the same value, by its number and by its path, and the value
-- fits its length
pub record AreAlike (signals : List PartSignal) (e : Environment ℕ) (g : Environment Path) :
    Type 0 where
  pub same : (k : ℕ) (s : PartSignal) → slice_get signals k ≡ Some s → e k ≡ g (signal_path s)
  pub fits : (s : PartSignal) → Contains signals s → g (signal_path s) < 2 ^ signal_width s

-- ---- what processes do

-- whether a process of a text runs at the clock edge
abbrev pub runs_at_edge : Process → Bool
runs_at_edge (clocked p s) = true
runs_at_edge _ = false

-- a run by numbers does to every environment what a run by paths does, and both leave all but
-- signals as they are
pub record SameChange (signals : List PartSignal) (run : Run ℕ) (other : Run Path) : Type 0 where
  pub alike : (e : Environment ℕ) (g : Environment Path) → AreAlike signals e g
      → AreAlike signals (run e) (other g)
  pub first_within : (e : Environment ℕ) (k : ℕ) → length signals ≤ k → run e k ≡ e k
  pub second_within : (g : Environment Path) (x : Path)
      → (Contains (map signal_path signals) x → ⊥) → other g x ≡ g x

-- A flat process does what a process of the text does: it is clocked where the other is; if it is
-- not, it changes every environment alike, and if it is, it gives the same updates in the same
-- order.
pub record DoTheSame (signals : List PartSignal) (forms : List SignalForm) (q : Process)
    (f : ProcessForm) : Type 0 where
  pub clocked_alike : is_clocked f.kind ≡ runs_at_edge q
  pub changes : is_clocked f.kind ≡ false → (other : Run Path) × (change_of q ≡ Some other)
      × SameChange signals (run_alone forms f.body) other
  pub updates : is_clocked f.kind ≡ true → (e : Environment ℕ) (g : Environment Path)
      → AreAlike signals e g
      → map (λ u. (path_at signals u.0, u.1)) (updates_of forms f.body e) ≡ source_updates_of g q

-- the clocks of a text's clocked processes and those of the flat ones, in order: each number is
-- that of the signal at the path
abbrev pub ClocksBeside : TextTree → (asked : Option (List ℕ)) → FlatDesign → Type 0
ClocksBeside text asked design = AllZip
    (λ x k. slice_get (map signal_path (text_signals text asked)) k ≡ Some x)
    (edges_of text asked) (filter_map clock_of design.processes)

-- the processes of a text, but for those of released values, and those of its flat design
abbrev pub ProcessesBeside : TextTree → (asked : Option (List ℕ)) → FlatDesign → Type 0
ProcessesBeside text asked design =
    AllZip (DoTheSame (text_signals text asked) design.signals) (made_of text asked)
    design.processes
