-- Private: how the code goes. The plain forms of routes as they are walked.
use Rattle.std.specs.Prelude.{ℕ, ◌≡◌, ◌<◌, ◌≤◌, List, length, map, Result, Ok, Err}
use Rattle.std.specs.Global.{Vec}
use Rattle.sv_flat.specs.Views.{typed_tree}
use Rattle.sv_paths.specs.declared.faults.WalkFault.{WalkFault}
use Rattle.sv_paths.specs.declared.faults.WalkFault.TheVariants.{TooMany, OutOfMemory}
use Rattle.sv_paths.specs.declared.faults.OblFault.{OblFault}
use Rattle.sv_paths.specs.declared.faults.OblFault.TheVariants.{Paths, Large, Many}
use Rattle.sv_paths.specs.declared.faults.OblFault.TheVariants as fault
use Rattle.sv_paths.specs.declared.routes.StepRef.{StepRef}
use Rattle.sv_paths.specs.declared.routes.Route.{Route}
use Rattle.sv_obl.specs.Paths.{StepForm}
use Rattle.sv_obl.specs.Routes.{RouteForm}

abbrev pub step_ref_form : StepRef → StepForm
step_ref_form t = record { place = t.place; condition = typed_tree t.cond.now; truth = t.truth }

abbrev pub route_form : Route → RouteForm
route_form t = record {
  steps = map step_ref_form t.steps.items;
  names = t.names.keys;
  nodes = t.nodes;
  place = t.place;
  wants = t.wants;
}

abbrev pub route_forms : List Route → List RouteForm
route_forms routes = map route_form routes

-- a walk gives the routes where they are few enough, and else tells that they are too many
abbrev pub Walks : List RouteForm → Result (Vec Route) WalkFault → Type 0
Walks forms (Ok routes) = (route_forms routes.items ≡ forms) × (length forms ≤ 4096)
Walks forms (Err TooMany) = 4096 < length forms
Walks forms (Err OutOfMemory) = Unit {0}

-- the routes are these now, unless these are too many
abbrev pub Adds : List RouteForm → Vec Route → Result Unit WalkFault → Type 0
Adds forms routes (Ok done) = route_forms routes.items ≡ forms
Adds forms routes (Err TooMany) = 4096 < length forms
Adds forms routes (Err OutOfMemory) = Unit {0}

-- the paths of a target were found, where they are few enough
abbrev pub Finds : (target : ℕ) → List RouteForm → Result (Vec Route) OblFault → Type 0
Finds s forms (Ok routes) = (route_forms routes.items ≡ forms) × (length forms ≤ 4096)
Finds s forms (Err (Paths t)) = (t.0 ≡ s) × (4096 < length forms)
Finds s forms (Err (Large t)) = ⊥
Finds s forms (Err Many) = ⊥
Finds s forms (Err fault.OutOfMemory) = Unit {0}
