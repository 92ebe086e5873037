-- What a source text means as a synchronous design: its cycle system, by the words of the source
-- alone. Signals go by their paths, points by their names.
use Rattle.std.specs.Prelude.{ℕ, Bool, false, not, ◌&&◌, List, map, filter, find, filter_map}
use Rattle.std.specs.Prelude.{flat_map, Option}
use Rattle.std.specs.List.{list_any}
use Rattle.std.specs.Option.{option_map_or}
use Rattle.std.specs.Str.{bytes_eq}
use Rattle.sv_system.specs.System.{System, Environment, last_update}
use Rattle.sv_ast.specs.Tree.{TextTree}
use Rattle.sv_ast.specs.Instances.{is_empty}
use Rattle.sv_ast.specs.Runs.{assigned}
use Rattle.sv_ast.specs.Reach.{holds}
use Rattle.sv_ast.specs.Parts.{Path, same_path, Part, parts, PartSignal, signal_path, signal_width}
use Rattle.sv_ast.specs.Parts.{signals_of, links_of}
use Rattle.sv_ast.specs.ClockPaths.{is_input_kind, clock_paths}
use Rattle.sv_ast.specs.Processes.{values_in, clocked_body, Process, processes, change_of}
use Rattle.sv_ast.specs.Processes.{updates_of, links_one_of}
use Rattle.sv_ast.specs.SourceLabels.{flows, least, label_point}

-- an input of the top module
abbrev pub is_top_input : PartSignal → Bool
is_top_input s = is_empty s.part.path && is_input_kind s.declaration.kind

-- a register: a signal that an item of its instance assigns at the clock edge
abbrev pub is_register : PartSignal → Bool
is_register s = list_any (λ body. holds bytes_eq (assigned body) s.declaration.name)
    (filter_map clocked_body s.part.definition.items)

-- a signal's label where all signals have the given values
abbrev pub label_in : TextTree → Environment Path → PartSignal → List ℕ
label_in text environment s = label_point text (values_in s.part environment) s.declaration.label

-- the signals of some instances in order, clocks left out
abbrev pub signals : (clocks : List Path) → List Part → List PartSignal
signals clocks ps =
    filter (λ s. not (holds same_path clocks (signal_path s))) (flat_map signals_of ps)

-- what is said of the signal at a path, or else what is given
abbrev pub at_path : {X : Type 0} → List PartSignal → (PartSignal → X) → (otherwise : X) → Path → X
at_path ss said otherwise path =
    option_map_or said (find (λ s. same_path path (signal_path s)) ss) otherwise

-- Later: the words of memories as signals, declared invariants as facts on environments, released
-- values in what looks alike.

-- the cycle system of some signals and processes
abbrev pub system_of : TextTree → List PartSignal → List Process → System Path (List ℕ)
system_of text ss ps = record {
  signals = map signal_path ss;
  is_input = at_path ss is_top_input false;
  is_register = at_path ss is_register false;
  width = at_path ss signal_width 0;
  processes = filter_map change_of ps;
  next = λ environment. λ path.
      last_update same_path path (environment path) (flat_map (updates_of environment) ps);
  label = λ path. λ environment. at_path ss (label_in text environment) (least text) path;
  flows = flows text;
}

-- the cycle system of a text with some clocks: they are no signals, and links to them no processes
abbrev pub system_with : (clocks : List Path) → TextTree → (asked : Option (List ℕ))
    → System Path (List ℕ)
system_with clocks text asked = system_of text (signals clocks (parts text asked))
    (filter (λ p. not (links_one_of clocks p)) (processes text asked))

-- the cycle system of a text, under the module asked for or its only top
unfoldable pub system : TextTree → (asked : Option (List ℕ)) → System Path (List ℕ)
system text asked = system_with
    (clock_paths (parts text asked) (flat_map (links_of text.modules) (parts text asked)))
    text asked
