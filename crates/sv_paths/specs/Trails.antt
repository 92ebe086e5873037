-- Private: how the code goes. Paths through a body with earlier reads, where several names are
-- wanted at once: of conditions and of the result stands here what is asked of them later, and no
-- expression. Which paths a target has stands in `Paths` of `sv_obl`.
use Rattle.std.specs.Prelude.{ℕ, ◌+◌, ◌-◌, min, Bool, true, false, ◌==◌, ◌&&◌, nat_lt}
use Rattle.std.specs.Prelude.{if◌then◌else◌, List, [], ◌∷◌, ◌++◌, length, map, filter, flat_map}
use Rattle.std.specs.Prelude.{fold}
use Rattle.std.specs.Prelude.{slice_get, Option, Some, None, is_none, is_some, option_map}
use Rattle.std.specs.Prelude.{option_to_list, unwrap_or}
use Rattle.std.specs.BTreeMap.{insert_entry, is_at}
use Rattle.std.specs.BTreeSet.{insert_key}
use Rattle.std.specs.List.{list_any}
use Rattle.std.specs.Map.{lookup, remove_entry}
use Rattle.std.specs.Ordering.{nat_cmp}
use Rattle.sv_num.specs.declared.faults.Place.{Place}
use Rattle.sv_flat.specs.Design.{SignalForm, TypedTree, typed, read, choice, held, PieceForm}
use Rattle.sv_flat.specs.Design.{FlatStatement, nothing, after, assign, branch}
use Rattle.sv_flat.specs.Soundness.{is_whole}
use Rattle.sv_flat.specs.Assigned.{assigns}
use Rattle.sv_paths.specs.declared.list_lines.StepMark.{StepMark}
use Rattle.sv_obl.specs.Paths.{pieces_of, covers, later_place}
use Rattle.sv_obl.specs.Routes.{names_in, first_place, with_nodes}

-- ---- names

-- The names on a path: those that are not wanted, in ascending order, and how often each signal is
-- wanted, up to one over the limit.
pub record NamesForm : Type 0 where
  pub settled : List ℕ
  pub wanted : List (ℕ × ℕ)

abbrev pub no_names : NamesForm
no_names = record { settled = []; wanted = [] }

abbrev pub times_wanted : NamesForm → (signal : ℕ) → ℕ
times_wanted names s = unwrap_or (lookup (is_at (nat_cmp s)) names.wanted) 0

-- where a signal is wanted so many times more
abbrev pub with_wanted : (times : ℕ) → NamesForm → (signal : ℕ) → NamesForm
with_wanted times names s = record {
  settled = names.settled;
  wanted = insert_entry nat_cmp names.wanted s (min (times_wanted names s + times) 65537);
}

-- with a name of one of so many signals, or of the copy of one so many times
abbrev pub with_name : (count times : ℕ) → NamesForm → (name : ℕ) → NamesForm
with_name count times names t =
    if nat_lt t count
    then record { settled = insert_key nat_cmp names.settled t; wanted = names.wanted }
    else with_wanted times names (t - count)

abbrev pub with_each : (count times : ℕ) → NamesForm → List ℕ → NamesForm
with_each count times names ts = fold (with_name count times) names ts

-- the same where a value with these names is put so many times, perhaps not once
abbrev pub with_put_names : (count times : ℕ) → NamesForm → List ℕ → NamesForm
with_put_names count times names ts =
    if times == 0 then names else with_each count times names ts

-- no name of a signal is wanted any more that a piece covers
abbrev pub without_piece : List SignalForm → NamesForm → PieceForm → NamesForm
without_piece signals names piece =
    if is_whole signals piece
    then record {
      settled = names.settled;
      wanted = remove_entry (is_at (nat_cmp piece.signal)) names.wanted;
    }
    else names

abbrev pub without_covered : List SignalForm → NamesForm → List PieceForm → NamesForm
without_covered signals names pieces = fold (without_piece signals) names pieces

-- how many pieces are put for these names, up to one over the limit
abbrev pub with_times : NamesForm → ℕ → PieceForm → ℕ
with_times names n piece = min (n + times_wanted names piece.signal) 65537

abbrev pub times_put : NamesForm → List PieceForm → ℕ
times_put names pieces = fold (with_times names) 0 pieces

-- ---- trails

-- A path as far back as statements were taken: its conditions by their places and truths, the last
-- in the text first; the arms that it took, in the order in which they were met; the names in its
-- conditions and its result, and which signal's wanted name the result is by itself, if it is one,
-- which is then not among the names; the nodes that were put in, up to one over the limit; and the
-- place of the last assignment to the target.
pub record TrailForm : Type 0 where
  pub marks : List StepMark
  pub choices : List Bool
  pub names : NamesForm
  pub own : Option ℕ
  pub nodes : ℕ
  pub place : Option Place

abbrev pub open_trail : (target : ℕ) → TrailForm
open_trail s = record {
  marks = [];
  choices = [];
  names = no_names;
  own = Some s;
  nodes = 0;
  place = None;
}

-- the signals that are wanted
abbrev pub wanted_signals : TrailForm → List ℕ
wanted_signals trail =
    option_to_list trail.own ++ map (λ (e : ℕ × ℕ). e.0) trail.names.wanted

-- the statement assigns a signal that is wanted
abbrev pub takes : FlatStatement → TrailForm → Bool
takes statement trail = list_any (assigns statement) (wanted_signals trail)

-- an arm is taken
abbrev pub chosen : (truth : Bool) → TrailForm → TrailForm
chosen truth trail = record {
  marks = trail.marks;
  choices = trail.choices ++ truth ∷ [];
  names = trail.names;
  own = trail.own;
  nodes = trail.nodes;
  place = trail.place;
}

-- the trail with a condition before it, where there are so many signals
abbrev pub marked_by : (count : ℕ) → StepMark → (condition : TypedTree) → TrailForm → TrailForm
marked_by count mark condition trail = record {
  marks = trail.marks ++ mark ∷ [];
  choices = trail.choices;
  names = with_each count 1 trail.names (names_in [] condition);
  own = trail.own;
  nodes = trail.nodes;
  place = trail.place;
}

-- how many pieces are bits of the result's own name, up to one over the limit
abbrev pub own_pieces : Option ℕ → List PieceForm → ℕ
own_pieces None pieces = 0
own_pieces (Some t) pieces = min (length (pieces_of t pieces)) 65537

-- how often a right side counts that is put for it
abbrev pub own_times : List SignalForm → (target : ℕ) → List PieceForm → TrailForm → ℕ
own_times signals s pieces trail =
    if is_none trail.place && covers signals s pieces
    then 0 else own_pieces trail.own pieces

-- the trail with a right side put for all wanted names but the result's own
abbrev pub with_right_put : List SignalForm → (target : ℕ) → List PieceForm →
    (right : TypedTree) → TrailForm → TrailForm
with_right_put signals s pieces right trail =
    let times = times_put trail.names pieces in
    record {
      marks = trail.marks;
      choices = trail.choices;
      names = with_put_names (length signals) times
          (without_covered signals trail.names pieces) (names_in [] right);
      own = trail.own;
      nodes = with_nodes trail.nodes (times + own_times signals s pieces trail) right;
      place = later_place (first_place s pieces) trail.place;
    }

-- the first of the pieces that is the whole of the result's own name: from which bit of the value
-- on
abbrev pub whole_from : List SignalForm → Option ℕ → List PieceForm → Option ℕ
whole_from signals None pieces = None
whole_from signals (Some t) pieces =
    option_map (λ (piece : PieceForm). piece.from)
    (slice_get (filter (is_whole signals) (pieces_of t pieces)) 0)

-- the signal whose wanted name an expression is by itself, where there are so many signals
abbrev pub own_name : (count : ℕ) → TypedTree → Option ℕ
own_name count (typed width signed (read t place)) =
    if nat_lt t count then None else Some (t - count)
own_name count (typed width signed (held t e)) = own_name count e
own_name count _ = None

-- the trail with a value, from one of its bits on, put for the result's own name
abbrev pub with_value : (count from : ℕ) → TypedTree → TrailForm → TrailForm
with_value count from value trail =
    let own = if from == 0 then own_name count value else None in
    record {
      marks = trail.marks;
      choices = trail.choices;
      names =
          if is_some own then trail.names
          else with_each count 1 trail.names (names_in [] value);
      own = own;
      nodes = trail.nodes;
      place = trail.place;
    }

-- those with each way of a right side put for it
abbrev pub with_own_ways : (count from : ℕ) → (right : TypedTree) → TrailForm → List TrailForm
with_own_ways count from (typed width signed (choice place c a b)) trail =
    map (marked_by count (record { truth = true; place = place }) c)
    (with_own_ways count from a (chosen true trail))
    ++ map (marked_by count (record { truth = false; place = place }) c)
    (with_own_ways count from b (chosen false trail))
with_own_ways count from right trail = with_value count from right trail ∷ []

-- the names with that of the result, which is wanted still
abbrev pub with_own : Option ℕ → NamesForm → NamesForm
with_own None names = names
with_own (Some t) names = with_wanted 1 names t

-- the trail with pieces put for some bits of the result's own name
abbrev pub with_parts : (count times : ℕ) → (right : TypedTree) → TrailForm → TrailForm
with_parts count times right trail = record {
  marks = trail.marks;
  choices = trail.choices;
  names = with_put_names count times (with_own trail.own trail.names) (names_in [] right);
  own = None;
  nodes = trail.nodes;
  place = trail.place;
}

-- what an assignment makes of the result's own name, where it is put for all others
abbrev pub with_own_put : (count times : ℕ) → (from : Option ℕ) → (right : TypedTree) →
    TrailForm → List TrailForm
with_own_put count times (Some from) right trail = with_own_ways count from right trail
with_own_put count times None right trail =
    (if times == 0 then trail else with_parts count times right trail) ∷ []

-- the trails that a trail becomes where an assignment is taken before it
abbrev pub with_assign : List SignalForm → (target : ℕ) → List PieceForm → (right : TypedTree) →
    TrailForm → List TrailForm
with_assign signals s pieces right trail =
    with_own_put (length signals) (own_pieces trail.own pieces)
    (whole_from signals trail.own pieces) right
    (with_right_put signals s pieces right trail)

-- the trails that a trail becomes where a statement is taken before it
abbrev pub trails_before : List SignalForm → (target : ℕ) → FlatStatement → TrailForm →
    List TrailForm
trails_before signals s nothing trail = trail ∷ []
trails_before signals s (after first second) trail =
    flat_map (trails_before signals s first) (trails_before signals s second trail)
trails_before signals s (assign pieces place blocking right) trail =
    if takes (assign pieces place blocking right) trail
    then with_assign signals s pieces right trail
    else trail ∷ []
trails_before signals s (branch place condition first second) trail =
    if takes (branch place condition first second) trail
    then map (marked_by (length signals) (record { truth = true; place = place }) condition)
    (trails_before signals s first (chosen true trail))
    ++ map (marked_by (length signals) (record { truth = false; place = place }) condition)
    (trails_before signals s second (chosen false trail))
    else trail ∷ []
