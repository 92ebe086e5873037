-- The processes of a text (IEEE 1364-2005, clauses 6.1, 9.7.5, 9.9.2 and 12.3): each as what a run
-- of it does to the values of all signals, by their paths.
use Rattle.std.specs.Prelude.{ℕ, zero, suc, Bool, true, false, if◌then◌else◌, List, [], ◌∷◌, ◌++◌}
use Rattle.std.specs.Prelude.{map, flat_map, Option, Some, None, option_map, option_to_list}
use Rattle.std.specs.Option.{option_map_or}
use Rattle.std.specs.Str.{bytes_eq}
use Rattle.sv_num.specs.declared.faults.Place.{Place}
use Rattle.sv_system.specs.System.{Environment, put}
use Rattle.sv_ast.specs.Scopes.{width_of}
use Rattle.sv_ast.specs.Tree.{ExpressionTree, named, whole, StatementTree, assignment, ItemTree}
use Rattle.sv_ast.specs.Tree.{declared, continuous, released, always_item, instance_item}
use Rattle.sv_ast.specs.Tree.{ModuleTree, TextTree}
use Rattle.sv_ast.specs.Values.{assigned_value}
use Rattle.sv_ast.specs.Instances.{top_module, whole_signal}
use Rattle.sv_ast.specs.Reach.{holds}
use Rattle.sv_ast.specs.Runs.{Running, run}
use Rattle.sv_ast.specs.Parts.{Path, same_path, Part, part_with, within, child, most_levels}
use Rattle.sv_ast.specs.Parts.{PortLink, port_path, links_to}
use Rattle.sv_ast.specs.ClockPaths.{is_input_kind}

-- Between an instance and the whole design.

-- the values of an instance's signals by name
abbrev pub values_in : Part → Environment Path → Environment (List ℕ)
values_in p environment = λ n. environment (within p n)

-- the name of a path in an instance; the signals of other instances have none there
abbrev pub name_in : (instance : Path) → Path → Option (List ℕ)
name_in [] (n ∷ []) = Some n
name_in (i ∷ is) (n ∷ ns) = if bytes_eq i n then name_in is ns else None
name_in _ _ = None

-- the environment with the values of an instance's signals replaced
abbrev pub with_values : Part → Environment (List ℕ) → Environment Path → Environment Path
with_values p values environment = λ path.
    option_map_or values (name_in p.path path) (environment path)

-- a run of a statement in an instance, with no updates pending
abbrev pub run_in : Part → StatementTree → Environment Path → Running
run_in p s environment =
    run p.scope s (record { environment = values_in p environment; updates = [] })

-- the environment after the run
abbrev pub changed_by : Part → StatementTree → Environment Path → Environment Path
changed_by p s environment = with_values p (run_in p s environment).environment environment

-- the updates that the run leaves
abbrev pub updates_by : Part → StatementTree → Environment Path → List (Path × ℕ)
updates_by p s environment = map (λ u. (within p u.0, u.1)) (run_in p s environment).updates

-- Items: an `assign`, and a `wire` with a value, is a process with a single blocking assignment
-- (clause 6.1); an `always` runs its statement again and again (clause 9.9.2), here whenever what
-- it reads changes (clause 9.7.5) or at the clock edge.

-- `n = e;`
abbrev pub assigns : List ℕ → Place → ExpressionTree → StatementTree
assigns n place e =
    assignment (record { name = n; place = place; selection = whole } ∷ []) place true e

-- the statement that a combinational item runs
abbrev pub combinational_body : ItemTree → Option StatementTree
combinational_body (declared d) = option_map (assigns d.name d.place) d.value
combinational_body (continuous ts place e) = Some (assignment ts place true e)
combinational_body (released target e to) = Some (assigns target.name target.place e)
combinational_body (always_item place None body) = Some body
combinational_body _ = None

-- the statement that an item runs at the clock edge
abbrev pub clocked_body : ItemTree → Option StatementTree
clocked_body (always_item place (Some clock) body) = Some body
clocked_body _ = None

-- Links (clause 12.3).

-- the value that an expression of an instance has for a signal of so many bits
abbrev pub value_for : Part → Environment Path → (width : ℕ) → ExpressionTree → ℕ
value_for p environment width e = assigned_value p.scope (values_in p environment) width e

-- a link to an input port is an assignment of its expression, in the outer instance, to the port
abbrev pub link_in : PortLink → Environment Path → Environment Path
link_in l environment = put same_path (port_path l)
    (value_for l.outer environment (width_of (l.inner.scope l.port.name)) l.expression) environment

-- a link to an output port is an assignment of the port to the net of that name outside
abbrev pub link_out : PortLink → (net : List ℕ) → Environment Path → Environment Path
link_out l net environment = put same_path (within l.outer net)
    (value_for l.inner environment (width_of (l.outer.scope net)) (named l.port.name l.port.place))
    environment

-- what a run of a link does to an environment; an output that is linked to no name is refused
abbrev pub link_change : PortLink → Option (Environment Path → Environment Path)
link_change l =
    if is_input_kind l.port.kind
    then Some (link_in l)
    else option_map (link_out l) (whole_signal l.outer.scope l.expression)

-- All processes, in the order of the walk (this project's profile).

-- a process: a statement that an instance runs whenever what it reads changes, one that it runs at
-- the clock edge, or a link
pub data Process : Type 0 where
  combinational : Part → StatementTree → Process
  clocked : Part → StatementTree → Process
  linking : PortLink → Process

-- the processes that an item is: one or none
abbrev pub own_processes : Part → ItemTree → List Process
own_processes p item = map (combinational p) (option_to_list (combinational_body item))
    ++ map (clocked p) (option_to_list (clocked_body item))

-- what an item gives: the process that it is, or for an instance its links in textual order, then
-- what stands inside it
abbrev pub item_processes : (inside : Part → List Process) → List ModuleTree → Part → ItemTree
    → List Process
item_processes inside modules p (instance_item i) =
    option_map_or (λ q. map linking (links_to p q i) ++ inside q) (child modules p i) []
item_processes inside modules p item = own_processes p item

-- the processes of an instance and of all inside it, item by item, down to so many levels
unfoldable pub processes_from : (levels : ℕ) → List ModuleTree → Part → List Process
processes_from zero modules p = []
processes_from (suc levels) modules p =
    flat_map (item_processes (processes_from levels modules) modules p) p.definition.items

-- the processes of a text under its top
abbrev pub processes : TextTree → (asked : Option (List ℕ)) → List Process
processes text asked = option_map_or
    (λ (m : ModuleTree). processes_from most_levels text.modules (part_with [] [] m))
    (top_module text.modules asked) []

-- what a run of a process does to an environment at once
abbrev pub change_of : Process → Option (Environment Path → Environment Path)
change_of (combinational p s) = Some (changed_by p s)
change_of (clocked p s) = None
change_of (linking l) = link_change l

-- the updates that a process gives for the clock edge
abbrev pub updates_of : Environment Path → Process → List (Path × ℕ)
updates_of environment (clocked p s) = updates_by p s environment
updates_of environment _ = []

-- whether a process is a link to one of the given ports
abbrev pub links_one_of : (ports : List Path) → Process → Bool
links_one_of ports (linking l) = holds same_path ports (port_path l)
links_one_of ports _ = false
