-- The instances of a text as a list, in the order of the walk (IEEE 1364-2005, clause 12.1).
use Rattle.std.specs.Prelude.{ℕ, zero, suc, Bool, List, [], ◌∷◌, ◌++◌, map, filter_map, flat_map}
use Rattle.std.specs.Prelude.{Option, Some, None, option_map}
use Rattle.std.specs.Option.{option_map_or}
use Rattle.std.specs.Str.{bytes_eq}
use lib.Pointwise.{pointwise}
use Rattle.sv_ast.specs.Scopes.{Scope, Number, width_of}
use Rattle.sv_ast.specs.Tree.{ExpressionTree, DeclarationTree, InstanceTree, ItemTree, declared}
use Rattle.sv_ast.specs.Tree.{ModuleTree, TextTree}
use Rattle.sv_ast.specs.Instances.{module_named, top_module, instances, settings, scope_of}
use Rattle.sv_ast.specs.Instances.{port_named, linked_ports, whole_signal}

-- the names of the instances that lead to an instance, and for a signal its own name behind them
abbrev pub Path : Type 0
Path = List (List ℕ)

-- whether two paths are the same
abbrev pub same_path : Path → Path → Bool
same_path = pointwise bytes_eq

-- an instance: the module that it is one of, and what the module's names stand for in it
pub record Part : Type 0 where
  pub path : Path
  pub definition : ModuleTree
  pub scope : Scope

-- the instance of a module at a path, whose parameters are set so
abbrev pub part_with : Path → List (List ℕ × Number) → ModuleTree → Part
part_with path set m = record { path = path; definition = m; scope = scope_of set m }

-- the path of a name in an instance
abbrev pub within : Part → List ℕ → Path
within p n = p.path ++ n ∷ []

-- an instance that stands in a part; none where its module is unknown
abbrev pub child : List ModuleTree → Part → InstanceTree → Option Part
child modules p i = option_map
    (λ (m : ModuleTree). part_with (within p i.name) (settings p.scope m i.overrides) m)
    (module_named modules i.master)

-- the instances that stand in a part, in textual order
abbrev pub children : List ModuleTree → Part → List Part
children modules p = filter_map (child modules p) (instances p.definition)

-- an instance and all that stand in it, each before those inside it, down to so many levels
unfoldable pub parts_from : (levels : ℕ) → List ModuleTree → Part → List Part
parts_from zero modules p = []
parts_from (suc levels) modules p = p ∷ flat_map (parts_from levels modules) (children modules p)

-- one more than the instances that a text may have: a text that goes deeper is refused
abbrev pub most_levels : ℕ
most_levels = 1025

-- the instances of a text under its top
abbrev pub parts : TextTree → (asked : Option (List ℕ)) → List Part
parts text asked = option_map_or
    (λ (m : ModuleTree). parts_from most_levels text.modules (part_with [] [] m))
    (top_module text.modules asked) []

-- Signals.

-- a declared signal of an instance
pub record PartSignal : Type 0 where
  pub part : Part
  pub declaration : DeclarationTree

-- its path
abbrev pub signal_path : PartSignal → Path
signal_path s = within s.part s.declaration.name

-- its length in bits
abbrev pub signal_width : PartSignal → ℕ
signal_width s = width_of (s.part.scope s.declaration.name)

-- the signal that an item declares
abbrev pub declaration_of : ItemTree → Option DeclarationTree
declaration_of (declared d) = Some d
declaration_of _ = None

-- the ports, then the other declarations, in textual order
abbrev pub declarations : ModuleTree → List DeclarationTree
declarations m = m.ports ++ filter_map declaration_of m.items

-- the signals of an instance, in signal order
abbrev pub signals_of : Part → List PartSignal
signals_of p = map (λ d. record { part = p; declaration = d }) (declarations p.definition)

-- Links (clause 12.3).

-- an expression of an instance that is linked to a port of an instance inside it
pub record PortLink : Type 0 where
  pub outer : Part
  pub inner : Part
  pub port : DeclarationTree
  pub expression : ExpressionTree

-- the path of the port
abbrev pub port_path : PortLink → Path
port_path l = within l.inner l.port.name

-- the path of the signal that is linked as a whole
abbrev pub linked_path : PortLink → Option Path
linked_path l = option_map (within l.outer) (whole_signal l.outer.scope l.expression)

-- a link of a known port that is not empty
abbrev pub port_link : (outer inner : Part) → List ℕ × Option ExpressionTree → Option PortLink
port_link outer inner (n, None) = None
port_link outer inner (n, Some e) =
    option_map (λ d. record { outer = outer; inner = inner; port = d; expression = e })
    (port_named inner.definition n)

-- the links of an instance, in textual order
abbrev pub links_to : (outer inner : Part) → InstanceTree → List PortLink
links_to outer inner i = filter_map (port_link outer inner) (linked_ports inner.definition i.links)

-- the links of the instances that stand in a part
abbrev pub links_of : List ModuleTree → Part → List PortLink
links_of modules p =
    flat_map (λ i. option_map_or (λ inner. links_to p inner i) (child modules p i) [])
    (instances p.definition)
