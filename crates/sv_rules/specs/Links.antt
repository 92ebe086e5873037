-- Private: how the code goes. Links of ports by whole names.
use Rattle.std.specs.Prelude.{◌<◌, ℕ, Bool, false, ◌==◌, ◌&&◌, List, Option, Some, None, option_map}
use Rattle.std.specs.List.{filter_map}
use Rattle.sv_flat.specs.Clocks.{link_in, link_out}
use Rattle.sv_flat.specs.Design.{ProcessForm}
use Rattle.sv_rules.specs.declared.links.Link.{Link}
use Rattle.sv_rules.specs.declared.links.Edges.{Edges}
use Rattle.sv_rules.specs.declared.links.Edges.TheVariants.{ToNames, ToInputs, ToNets}

-- the signal that is assigned and the signal that is read
abbrev pub link_form : Link → ℕ × ℕ
link_form link = (link.target.0, link.source.0)

abbrev pub link_of : Option Link → Option (ℕ × ℕ)
link_of link = option_map link_form link

-- a pair that may be there is this one
abbrev pub is_pair : Option (ℕ × ℕ) → ℕ → ℕ → Bool
is_pair None a b = false
is_pair (Some pair) a b = (pair.0 == a) && (pair.1 == b)

-- its numbers are below n
abbrev pub IsBelow : ℕ → Option (ℕ × ℕ) → Type 0
IsBelow n None = Unit {0}
IsBelow n (Some pair) = (pair.0 < n) × (pair.1 < n)

-- the other way
abbrev pub turned : ℕ × ℕ → ℕ × ℕ
turned pair = (pair.1, pair.0)

-- the links among some processes
abbrev pub links_in_of : List ProcessForm → List (ℕ × ℕ)
links_in_of ps = filter_map link_in ps

-- the edge that a process gives
abbrev pub edge_of : Edges → ProcessForm → Option (ℕ × ℕ)
edge_of ToNames p = link_in p
edge_of ToInputs p = option_map turned (link_in p)
edge_of ToNets p = option_map turned (link_out p)

-- the edges that some processes give
abbrev pub edges_of : Edges → List ProcessForm → List (ℕ × ℕ)
edges_of edges ps = filter_map (edge_of edges) ps
