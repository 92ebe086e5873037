-- Which signals are clocks: those after `posedge` (IEEE 1364-2005, clause 9.7.2), and those that
-- links join to them (this project's profile).
use Rattle.std.specs.Prelude.{ℕ, Bool, true, false, if◌then◌else◌, List, [], ◌∷◌, length}
use Rattle.std.specs.Prelude.{filter_map, flat_map, Contains, Option, Some, None, option_map}
use Rattle.std.specs.Option.{option_map_or}
use Rattle.sv_ast.specs.declared.declarations.DeclKind.{DeclKind}
use Rattle.sv_ast.specs.declared.declarations.DeclKind.TheVariants as kind
use Rattle.sv_ast.specs.Tree.{ItemTree, always_item}
use Rattle.sv_ast.specs.Reach.{Leads, reached}
use Rattle.sv_ast.specs.Parts.{Path, same_path, Part, within, PortLink, port_path, linked_path}

-- whether a port is an input
abbrev pub is_input_kind : DeclKind → Bool
is_input_kind kind.Input = true
is_input_kind _ = false

-- the signal after a `posedge`
abbrev pub edge_of : ItemTree → Option (List ℕ)
edge_of (always_item p (Some c) body) = Some c.name
edge_of _ = None

-- the signals after `posedge` in an instance
abbrev pub edges : Part → List Path
edges p = filter_map (λ i. option_map (within p) (edge_of i)) p.definition.items

-- What a link of a whole signal makes a clock: the signal, where the port is one, and an input
-- port, where the signal is one. In a pair the first makes the second a clock.
abbrev pub clock_pairs : PortLink → List (Path × Path)
clock_pairs l = option_map_or
    (λ outer. (port_path l, outer)
    ∷ (if is_input_kind l.port.kind then (outer, port_path l) ∷ [] else []))
    (linked_path l) []

-- a clock of some instances and links: it is a signal after `posedge`, or links make it a clock
-- from such a one on
abbrev pub IsClock : List Part → List PortLink → Path → Type 0
IsClock ps links p = (edge : Path) × Contains (flat_map edges ps) edge
    × Leads (flat_map clock_pairs links) edge p

-- the clocks as a list: those after `posedge`, and what links make clocks from them on
abbrev pub clock_paths : List Part → List PortLink → List Path
clock_paths ps links =
    reached same_path (flat_map clock_pairs links) (length (flat_map clock_pairs links))
    (flat_map edges ps)
