-- Private: how the code goes. One path through a body with earlier reads, walked once more along
-- the arms that it took, with its conditions as expressions. Which paths a target has stands in
-- `Paths` of `sv_obl`.
use Rattle.std.specs.Prelude.{ℕ, ◌+◌, Bool, false, ◌==◌, nat_lt, if◌then◌else◌, List, [], ◌∷◌}
use Rattle.std.specs.Prelude.{◌++◌, length, map, reverse, Option, Some, None}
use Rattle.sv_flat.specs.Design.{SignalForm, TypedTree, typed, choice, PieceForm, FlatStatement}
use Rattle.sv_flat.specs.Design.{nothing, after, assign, branch, ProcessForm}
use Rattle.sv_obl.specs.Obligations.{Obligation, flow, is_link, frame_of}
use Rattle.sv_obl.specs.Paths.{StepForm, step_with}
use Rattle.sv_paths.specs.Trails.{TrailForm, open_trail, takes, marked_by, own_pieces}
use Rattle.sv_paths.specs.Trails.{with_right_put}
use Rattle.sv_paths.specs.Trails.{whole_from, with_value, with_parts}
use Rattle.sv_obl.specs.Wanted.{put_in, closed_tree}

-- A path on the way: its trail, whose choices are not kept, its conditions, the last in the text
-- first, and the arms that it takes from here on.
pub record WayForm : Type 0 where
  pub trail : TrailForm
  pub steps : List StepForm
  pub arms : List Bool

-- the arm that comes next, and those after it
abbrev pub next_arm : List Bool → Bool
next_arm [] = false
next_arm (arm ∷ arms) = arm

abbrev pub later_arms : List Bool → List Bool
later_arms [] = []
later_arms (arm ∷ arms) = arms

abbrev pub on_arm : WayForm → WayForm
on_arm way = record { trail = way.trail; steps = way.steps; arms = later_arms way.arms }

-- with a condition before it, where there are so many signals
abbrev pub with_step : (count : ℕ) → StepForm → WayForm → WayForm
with_step count step way = record {
  trail = marked_by count (record { truth = step.truth; place = step.place }) step.condition
      way.trail;
  steps = way.steps ++ step ∷ [];
  arms = way.arms;
}

-- with the way of a right side that is taken for the result's own name
abbrev pub along_ways : (count from : ℕ) → (right : TypedTree) → WayForm → WayForm
along_ways count from (typed width signed (choice place c a b)) way =
    with_step count
    (record { place = place; condition = c; truth = next_arm way.arms })
    (if next_arm way.arms then along_ways count from a (on_arm way)
    else along_ways count from b (on_arm way))
along_ways count from right way = record {
  trail = with_value count from right way.trail;
  steps = way.steps;
  arms = way.arms;
}

-- with what an assignment makes of the result's own name
abbrev pub along_own : (count times : ℕ) → (from : Option ℕ) → (right : TypedTree) → WayForm →
    WayForm
along_own count times (Some from) right way = along_ways count from right way
along_own count times None right way = record {
  trail = if times == 0 then way.trail else with_parts count times right way.trail;
  steps = way.steps;
  arms = way.arms;
}

-- with an assignment
abbrev pub along_assign : List SignalForm → (target : ℕ) → List PieceForm → (right : TypedTree) →
    WayForm → WayForm
along_assign signals s pieces right way =
    along_own (length signals) (own_pieces way.trail.own pieces)
    (whole_from signals way.trail.own pieces) right
    (record {
      trail = with_right_put signals s pieces right way.trail;
      steps = map (step_with (put_in signals pieces right)) way.steps;
      arms = way.arms;
    })

-- with a statement
abbrev pub along : List SignalForm → (target : ℕ) → FlatStatement → WayForm → WayForm
along signals s nothing way = way
along signals s (after first second) way = along signals s first (along signals s second way)
along signals s (assign pieces place blocking right) way =
    if takes (assign pieces place blocking right) way.trail
    then along_assign signals s pieces right way
    else way
along signals s (branch place condition first second) way =
    if takes (branch place condition first second) way.trail
    then with_step (length signals)
    (record { place = place; condition = condition; truth = next_arm way.arms })
    (if next_arm way.arms then along signals s first (on_arm way)
    else along signals s second (on_arm way))
    else way

-- at the end of the body
abbrev pub open_way : (target : ℕ) → (arms : List Bool) → WayForm
open_way s arms = record { trail = open_trail s; steps = []; arms = arms }

-- the conditions of a trail through the body, in textual order, at the beginning of the process
abbrev pub conditions_along : List SignalForm → (target : ℕ) → (body : FlatStatement) → TrailForm →
    List StepForm
conditions_along signals s body trail =
    reverse (map (step_with (closed_tree signals false))
    (along signals s body (open_way s trail.choices)).steps)

-- the obligation of a trail through a process that is not clocked
abbrev pub trail_obligation : List SignalForm → ProcessForm → (target : ℕ) →
    (body : FlatStatement) → TrailForm → Obligation
trail_obligation signals process s body trail = record {
  facts = [];
  path = conditions_along signals s body trail;
  right = if is_link process.kind then Some process.place else trail.place;
  reads = trail.names.settled;
  goal = flow s (frame_of process.kind);
}

-- over 65,536 nodes are put into the path
abbrev pub is_large_trail : TrailForm → Bool
is_large_trail trail = nat_lt 65536 trail.nodes
