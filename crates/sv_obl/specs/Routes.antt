-- Private: how the code goes. The paths through a process in which no read is an earlier one: no
-- condition and no right side wants a name, so a path wants its target or nothing. Which paths a
-- target has stands in `Paths`.
use Rattle.std.specs.Prelude.{ℕ, ◌+◌, ◌*◌, min, Bool, true, false, ◌&&◌, not}
use Rattle.std.specs.Prelude.{if◌then◌else◌, List, [], ◌∷◌, ◌++◌, length, map, flat_map, fold}
use Rattle.std.specs.Prelude.{slice_get, Option, None, is_none, option_map}
use Rattle.std.specs.BTreeSet.{insert_key}
use Rattle.std.specs.Ordering.{nat_cmp}
use Rattle.sv_num.specs.declared.faults.Place.{Place}
use Rattle.sv_flat.specs.Design.{SignalForm, TypedTree, typed, choice, PieceForm}
use Rattle.sv_flat.specs.Design.{FlatStatement, nothing, after, assign, branch}
use Rattle.sv_flat.specs.Assigned.{assigns}
use Rattle.sv_flat.specs.Readings.{ReadForm, reads}
use Rattle.sv_obl.specs.Nodes.{nodes_in}
use Rattle.sv_obl.specs.Paths.{StepForm, pieces_of, covers, later_place}

-- A path as far back as statements were taken: its conditions, the last in the text first, the
-- names in what was put for the target's name and the nodes of that, up to one over the limit, the
-- place of the last assignment to the target, and whether it is wanted still.
pub record RouteForm : Type 0 where
  pub steps : List StepForm
  pub names : List ℕ
  pub nodes : ℕ
  pub place : Option Place
  pub wants : Bool

abbrev pub open_route : RouteForm
open_route = record { steps = []; names = []; nodes = 0; place = None; wants = true }

-- the route with a condition before it
abbrev pub behind : StepForm → RouteForm → RouteForm
behind step route = record {
  steps = route.steps ++ step ∷ [];
  names = route.names;
  nodes = route.nodes;
  place = route.place;
  wants = route.wants;
}

-- no assignment was taken yet, and this one covers the target whole
abbrev pub is_all : List SignalForm → (target : ℕ) → List PieceForm → RouteForm → Bool
is_all signals s pieces route = is_none route.place && covers signals s pieces

-- how often a right side counts
abbrev pub times_put : List SignalForm → (target : ℕ) → List PieceForm → RouteForm → ℕ
times_put signals s pieces route =
    if is_all signals s pieces route then 0 else length (pieces_of s pieces)

-- the place of the first of the pieces that are bits of the target
abbrev pub first_place : (target : ℕ) → List PieceForm → Option Place
first_place s pieces =
    option_map (λ (piece : PieceForm). piece.place) (slice_get (pieces_of s pieces) 0)

-- the signals of reads
abbrev pub signals_of_reads : List ReadForm → List ℕ
signals_of_reads rs = map (λ (r : ReadForm). r.signal) rs

-- the names in an expression, in textual order
abbrev pub names_in : List SignalForm → TypedTree → List ℕ
names_in A t = signals_of_reads (reads A t)

-- ascending names with those of a right side, each once
abbrev pub with_names : List ℕ → (right : TypedTree) → List ℕ
with_names names right = fold (insert_key nat_cmp) names (names_in [] right)

-- nodes with those of a right side, as often as they count, up to one over the limit
abbrev pub with_nodes : (nodes count : ℕ) → (right : TypedTree) → ℕ
with_nodes nodes count right = min (nodes + count * nodes_in right) 65537

-- the route with a right side put in
abbrev pub with_put : List SignalForm → (target : ℕ) → List PieceForm → (right : TypedTree) →
    RouteForm → RouteForm
with_put signals s pieces right route = record {
  steps = route.steps;
  names = with_names route.names right;
  nodes = with_nodes route.nodes (times_put signals s pieces route) right;
  place = later_place (first_place s pieces) route.place;
  wants = not (covers signals s pieces);
}

-- those with each of its ways put in
abbrev pub with_ways : List SignalForm → (target : ℕ) → List PieceForm → (right : TypedTree) →
    RouteForm → List RouteForm
with_ways signals s pieces (typed width signed (choice place c a b)) route =
    map (behind (record { place = place; condition = c; truth = true }))
    (with_ways signals s pieces a route)
    ++ map (behind (record { place = place; condition = c; truth = false }))
    (with_ways signals s pieces b route)
with_ways signals s pieces right route = with_put signals s pieces right route ∷ []

-- a right side is split where it is put alone
abbrev pub with_right : List SignalForm → (target : ℕ) → List PieceForm → (right : TypedTree) →
    RouteForm → List RouteForm
with_right signals s pieces right route =
    if is_all signals s pieces route
    then with_ways signals s pieces right route
    else with_put signals s pieces right route ∷ []

-- the routes that a route becomes where a statement is taken before it
abbrev pub routes_before : List SignalForm → (target : ℕ) → FlatStatement → RouteForm →
    List RouteForm
routes_before signals s nothing route = route ∷ []
routes_before signals s (after first second) route =
    flat_map (routes_before signals s first) (routes_before signals s second route)
routes_before signals s (assign pieces place blocking right) route =
    if assigns (assign pieces place blocking right) s && route.wants
    then with_right signals s pieces right route
    else route ∷ []
routes_before signals s (branch place condition first second) route =
    if assigns (branch place condition first second) s && route.wants
    then map (behind (record { place = place; condition = condition; truth = true }))
    (routes_before signals s first route)
    ++ map (behind (record { place = place; condition = condition; truth = false }))
    (routes_before signals s second route)
    else route ∷ []
