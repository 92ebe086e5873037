-- The obligations of a design: what must hold of labels so that no level learns more than it may
-- (SecVerilog, ASPLOS 2015).
use Rattle.std.specs.Prelude.{ℕ, Bool, ◌||◌, not, if◌then◌else◌, List, [], ◌∷◌, ◌++◌, map}
use Rattle.std.specs.Prelude.{filter, flat_map, Option, Some, None}
use Rattle.sv_num.specs.declared.faults.Place.{Place}
use Rattle.sv_flat.specs.Design.{TypedTree, ProcessKind, ProcessForm, FlatDesign}
use Rattle.sv_flat.specs.Values.{signal_of}
use Rattle.sv_flat.specs.Processes.{is_clocked, signal_numbers, signals_that, drivers}
use Rattle.sv_flat.specs.Clocks.{is_port_in, is_port_out, processes_of}
use Rattle.sv_flat.specs.Selectors.{selectors_of, always_flows}
use Rattle.sv_obl.specs.declared.frames.Frame.{Frame}
use Rattle.sv_obl.specs.declared.frames.Frame.TheVariants.{Now, Next}
use Rattle.sv_obl.specs.Paths.{StepForm, Path, paths, path_names}

-- what an obligation asks
pub data GoalForm : Type 0 where
  -- the labels of the reads flow to the target's label in the frame
  flow : (target : ℕ) → Frame → GoalForm
  -- the expression is not 0 in the frame
  holds : TypedTree → Frame → GoalForm
  -- the label of the read, a selector of the signal's label, flows to that label
  selector : (signal : ℕ) → GoalForm

pub record Obligation : Type 0 where
  -- expressions that are not 0 in any cycle
  pub facts : List TypedTree
  -- the conditions under which the goal is asked
  pub path : List StepForm
  -- the place of the assignment that the path ends in, and none where the target is held
  pub right : Option Place
  -- in signal order
  pub reads : List ℕ
  pub goal : GoalForm

-- ---- targets

abbrev pub is_link : ProcessKind → Bool
is_link kind = is_port_in kind || is_port_out kind

-- the place of a link is that of its expression
abbrev pub place_of : ProcessForm → Path → Option Place
place_of process path = if is_link process.kind then Some process.place else path.place

-- a register's label is the one that it has in the next cycle, when its new value stands
abbrev pub frame_of : ProcessKind → Frame
frame_of kind = if is_clocked kind then Next else Now

abbrev pub path_obligation : (facts : List TypedTree) → FlatDesign → ProcessForm → (target : ℕ) →
    Path → Obligation
path_obligation facts design process s path = record {
  facts = facts;
  path = path.steps;
  right = place_of process path;
  reads = signals_that design (path_names design.signals path);
  goal = flow s (frame_of process.kind);
}

-- one for each path through the process that drives the target
abbrev pub target_obligations : (facts : List TypedTree) → FlatDesign → (target : ℕ) →
    List Obligation
target_obligations facts design s =
    flat_map (λ (p : ProcessForm).
    map (path_obligation facts design p s) (paths design.signals s p.kind p.body))
    (drivers (processes_of design) s)

-- ---- selectors

abbrev pub selector_obligation : (facts : List TypedTree) → (signal selector : ℕ) → Obligation
selector_obligation facts s t =
    record { facts = facts; path = []; right = None; reads = t ∷ []; goal = selector s }

-- one for each selector of the signal's label that does not always flow
abbrev pub selector_obligations : (facts : List TypedTree) → FlatDesign → (signal : ℕ) →
    List Obligation
selector_obligations facts design s =
    map (selector_obligation facts s)
    (filter (λ t. not (always_flows design s t)) (selectors_of (signal_of design.signals s).label))

-- ---- designs

-- Those of all targets in signal order, then those of selectors. One list of facts stands in every
-- obligation; a design without declared facts has the empty list.
abbrev pub obligations : (facts : List TypedTree) → FlatDesign → List Obligation
obligations facts design =
    flat_map (target_obligations facts design) (signal_numbers design)
    ++ flat_map (selector_obligations facts design) (signal_numbers design)
