-- The paths through a process that give a target its value, taken from the last statement back (the
-- path predicates of SecVerilog, ASPLOS 2015; statements by IEEE 1364-2005, clause 9).
use Rattle.std.specs.Prelude.{ℕ, ◌+◌, ◌*◌, sum, Bool, true, false, ◌==◌, ◌&&◌, ◌||◌, if◌then◌else◌}
use Rattle.std.specs.Prelude.{List, [], ◌∷◌, ◌++◌, length, map, filter, flat_map, slice_get, Option}
use Rattle.std.specs.Prelude.{Some, None, is_none, option_map}
use Rattle.std.specs.List.{list_any, range_with_len}
use Rattle.sv_num.specs.declared.faults.Place.{Place}
use Rattle.sv_flat.specs.Design.{SignalForm, TypedTree, typed, read, choice, held, PieceForm}
use Rattle.sv_flat.specs.Design.{FlatStatement, nothing, after, assign, branch, ProcessKind}
use Rattle.sv_flat.specs.Values.{signal_of}
use Rattle.sv_flat.specs.Soundness.{is_whole}
use Rattle.sv_flat.specs.Assigned.{assigns}
use Rattle.sv_flat.specs.Readings.{ReadForm, reads, no_bits, names_signal}
use Rattle.sv_flat.specs.Processes.{is_clocked, is_block}
use Rattle.sv_obl.specs.Nodes.{nodes_in}
use Rattle.sv_obl.specs.Wanted.{with_copies, copy_of, is_copy, original, wanted_name, marked}
use Rattle.sv_obl.specs.Wanted.{put_in, closed_tree}

-- a condition on the way, with the place of its `if`, arm or `?`, and whether it holds there
pub record StepForm : Type 0 where
  pub place : Place
  pub condition : TypedTree
  pub truth : Bool

-- A path as far back as statements were taken: its conditions in textual order, what the target's
-- value is made from, the place of the target's name in the last assignment to it, and the number
-- of nodes that were put in. Some names in conditions and result are wanted.
pub record Path : Type 0 where
  pub steps : List StepForm
  pub result : TypedTree
  pub place : Option Place
  pub nodes : ℕ

-- where no statement was taken yet, the result is the target's name, wanted
abbrev pub open_path : List SignalForm → (target : ℕ) → Path
open_path signals s =
    record {
      steps = [];
      result = wanted_name signals s (signal_of signals s).place;
      place = None;
      nodes = 0;
    }

-- the path with a condition before it
abbrev pub under : StepForm → Path → Path
under step path =
    record {
      steps = step ∷ path.steps;
      result = path.result;
      place = path.place;
      nodes = path.nodes;
    }

-- the expression with something done to it, in each condition and in the result
abbrev pub step_with : (TypedTree → TypedTree) → StepForm → StepForm
step_with f step = record { place = step.place; condition = f step.condition; truth = step.truth }

-- ---- right sides

-- one of the values that a right side may have, with the conditions under which it is that one
pub record Way : Type 0 where
  pub steps : List StepForm
  pub right : TypedTree

abbrev pub way_under : StepForm → Way → Way
way_under step way = record { steps = step ∷ way.steps; right = way.right }

-- `c ? a : b` has the ways of a, each with c before it, then those of b, each with c as false
-- before it (clause 5.1.13); any other right side has itself alone
abbrev pub ways : TypedTree → List Way
ways (typed width signed (choice place c a b)) =
    map (way_under (record { place = place; condition = c; truth = true })) (ways a)
    ++ map (way_under (record { place = place; condition = c; truth = false })) (ways b)
ways right = record { steps = []; right = right } ∷ []

-- ---- assignments

-- the pieces of an assignment that are bits of a signal
abbrev pub pieces_of : (signal : ℕ) → List PieceForm → List PieceForm
pieces_of s pieces = filter (λ (piece : PieceForm). piece.signal == s) pieces

-- one of the pieces is the whole signal
abbrev pub covers : List SignalForm → (signal : ℕ) → List PieceForm → Bool
covers signals s pieces = list_any (is_whole signals) (pieces_of s pieces)

-- the name that an expression is by itself, read as it is or as other signals are
abbrev pub name_itself : TypedTree → Option ℕ
name_itself (typed width signed (read s place)) = Some s
name_itself (typed width signed (held s e)) = name_itself e
name_itself _ = None

-- the name is wanted, and the pieces cover its signal whole
abbrev pub covers_name : List SignalForm → List PieceForm → Option ℕ → Bool
covers_name signals pieces (Some t) =
    is_copy signals t && covers signals (original signals t) pieces
covers_name signals pieces None = false

-- a right side is split where the result is the wanted name by itself that it covers whole
abbrev pub ways_taken : List SignalForm → List PieceForm → (right : TypedTree) → Path → List Way
ways_taken signals pieces right path =
    if covers_name signals pieces (name_itself path.result)
    then ways right
    else record { steps = []; right = right } ∷ []

-- of two places that of the later assignment
abbrev pub later_place : (earlier later : Option Place) → Option Place
later_place earlier None = earlier
later_place earlier (Some place) = Some place

-- how many pieces are put into an expression: those of each wanted name in it
abbrev pub puts_in : List SignalForm → List PieceForm → TypedTree → ℕ
puts_in signals pieces e =
    sum (map (λ (r : ReadForm).
    if is_copy signals r.signal
    then length (pieces_of (original signals r.signal) pieces) else 0)
    (reads (with_copies signals) e))

-- how many are put into a path; a right side that covers the target whole is not counted where
-- nothing was put for the target yet
abbrev pub puts_into : List SignalForm → (target : ℕ) → List PieceForm → Path → ℕ
puts_into signals s pieces path =
    sum (map (λ (step : StepForm). puts_in signals pieces step.condition) path.steps)
    + (if is_none path.place && covers signals s pieces
    then 0
    else puts_in signals pieces path.result)

-- The path with a right side put in for the names that it wants: in the result one way of it. Each
-- time it is put, all its nodes count, as it stands in the text.
abbrev pub with_way : List SignalForm → (target : ℕ) → List PieceForm → (right : TypedTree) → Path →
    Way → Path
with_way signals s pieces right path way = record {
  steps = way.steps ++ map (step_with (put_in signals pieces right)) path.steps;
  result = put_in signals pieces way.right path.result;
  place =
      later_place (option_map (λ (piece : PieceForm).
      piece.place) (slice_get (pieces_of s pieces) 0)) path.place;
  nodes = path.nodes + puts_into signals s pieces path * nodes_in right;
}

-- ---- statements

-- a signal, or a copy of one, is named on the path
abbrev pub path_names : List SignalForm → Path → ℕ → Bool
path_names signals path t =
    list_any (λ (step : StepForm). names_signal signals step.condition t) path.steps
    || names_signal signals path.result t

-- the statement assigns a signal that the path wants
abbrev pub is_taken : List SignalForm → FlatStatement → Path → Bool
is_taken signals statement path =
    list_any (λ s. assigns statement s && path_names (with_copies signals) path (copy_of signals s))
    (range_with_len 0 (length signals))

-- The paths that a path becomes where a statement is taken before it. A statement that assigns
-- nothing wanted changes nothing.
abbrev pub before : List SignalForm → (target : ℕ) → FlatStatement → Path → List Path
before signals s nothing path = path ∷ []
before signals s (after first second) path =
    flat_map (before signals s first) (before signals s second path)
before signals s (assign pieces place blocking right) path =
    if is_taken signals (assign pieces place blocking right) path
    then map (with_way signals s pieces right path) (ways_taken signals pieces right path)
    else path ∷ []
before signals s (branch place condition first second) path =
    if is_taken signals (branch place condition first second) path
    then map (under (record { place = place; condition = condition; truth = true }))
    (before signals s first path)
    ++ map (under (record { place = place; condition = condition; truth = false }))
    (before signals s second path)
    else path ∷ []

-- ---- processes

-- at the beginning of the process no name is wanted any more
abbrev pub closed : List SignalForm → (is_register : Bool) → Path → Path
closed signals is_register path = record {
  steps = map (step_with (closed_tree signals is_register)) path.steps;
  result = closed_tree signals is_register path.result;
  place = path.place;
  nodes = path.nodes;
}

-- all paths of a target through a process
abbrev pub paths : List SignalForm → (target : ℕ) → ProcessKind → (body : FlatStatement) → List Path
paths signals s kind body =
    map (closed signals (is_clocked kind))
    (before signals s (marked signals (is_block kind) body no_bits) (open_path signals s))
