-- Private: how the code goes. What a path through a process in which no read is an earlier one
-- tells: its names, its obligation and the limits. Which paths a target has stands in `Paths` of
-- `sv_obl`.
use Rattle.std.specs.Prelude.{ℕ, ◌+◌, Bool, ◌&&◌, nat_lt, reverse, Option, Some, None}
use Rattle.std.specs.Prelude.{if◌then◌else◌, List, [], ◌∷◌, ◌++◌, length, flat_map}
use Rattle.std.specs.List.{list_any}
use Rattle.sv_flat.specs.Design.{ProcessForm}
use Rattle.sv_flat.specs.Processes.{is_clocked}
use Rattle.sv_flat.specs.Sets.{holds, those}
use Rattle.sv_paths.specs.Limits.{Excess, many_paths, large_path, many_obligations}
use Rattle.sv_obl.specs.Obligations.{Obligation, flow, is_link, frame_of}
use Rattle.sv_obl.specs.Paths.{StepForm}
use Rattle.sv_obl.specs.Routes.{RouteForm, names_in}

-- ---- what a route tells

-- All names on a route, in the order of its lists. At the beginning of a clocked block a target
-- that is wanted still is read.
abbrev pub names_on : (is_register : Bool) → (target : ℕ) → RouteForm → List ℕ
names_on is_register s route =
    flat_map (λ (step : StepForm). names_in [] step.condition) route.steps
    ++ route.names
    ++ (if is_register && route.wants then s ∷ [] else [])

-- the obligation of a route through a process, where there are so many signals
abbrev pub route_obligation : (count : ℕ) → ProcessForm → (target : ℕ) → RouteForm → Obligation
route_obligation count process s route = record {
  facts = [];
  path = reverse route.steps;
  right = if is_link process.kind then Some process.place else route.place;
  reads = those count (holds (names_on (is_clocked process.kind) s route));
  goal = flow s (frame_of process.kind);
}

-- ---- limits

-- over 65,536 nodes are put into the path
abbrev pub is_large : RouteForm → Bool
is_large route = nat_lt 65536 route.nodes

-- The limit that a target exceeds with its paths, after so many obligations, where it is told which
-- of them are large.
abbrev pub excess_by : {P : Type 0} → (large : P → Bool) → (target total : ℕ) → List P →
    Option Excess
excess_by large s total paths =
    if nat_lt 4096 (length paths) then Some (many_paths s)
    else if list_any large paths then Some (large_path s)
    else if nat_lt 65536 (total + length paths) then Some many_obligations
    else None
