-- The walk of the lattice of labels (SecVerilog, ASPLOS 2015): its points, its pairs, and whether
-- they are a lattice.
use Rattle.std.specs.Prelude.{ℕ, ◌-◌, ◌^◌, Bool, not, ◌&&◌, ◌||◌, ◌==◌, nat_lt, nat_le, List, []}
use Rattle.std.specs.Prelude.{◌∷◌, ◌++◌, length, map, flat_map, fold, position, slice_index}
use Rattle.std.specs.Prelude.{slice_index_or, bit_and, bit_or, Option, Some, None, unwrap_or}
use Rattle.std.specs.Prelude.{if◌then◌else◌, codes}
use Rattle.std.specs.List.{list_any}
use Rattle.std.specs.Int.{bit_at}
use Rattle.std.specs.Str.{bytes_eq}
use Rattle.sv_num.specs.declared.faults.Place.{Place}
use Rattle.sv_lattice.specs.Tables.{flow_test}
use Rattle.sv_ast.specs.Tree.{PlacedName, PairTree, LatticeTree}
use Rattle.sv_elab_rules.specs.Walks.{WalkStep, Walk, Steps, done, ask, each, ◌>>=◌}
use Rattle.sv_elab_rules.specs.Rules.{lattice_size, lattice_name, circle, no_join, no_meet}
use Rattle.sv_elab_rules.specs.CaseChains.{numbers_below}

-- the names of the points, by number, and for each point the set of the points that it flows to, as
-- a number
pub record PointOrder : Type 0 where
  pub points : List (List ℕ)
  pub table : List ℕ

-- the number of a point
abbrev pub point_number : List (List ℕ) → List ℕ → Option ℕ
point_number points n = position (bytes_eq n) points

abbrev pub is_point : List (List ℕ) → List ℕ → Bool
is_point points n = list_any (bytes_eq n) points

-- Names of points are asked in textual order.

-- a step with its answer
pub record Question : Type 0 where
  pub holds : Bool
  pub step : WalkStep

-- whether a place stands before another one
abbrev pub stands_before : Place → Place → Bool
stands_before a b = nat_lt a.line b.line || a.line == b.line && nat_lt a.column b.column

-- a question among others in textual order
abbrev pub placed : Question → List Question → List Question
placed q [] = q ∷ []
placed q (r ∷ rs) = if stands_before r.step.place q.step.place then r ∷ placed q rs else q ∷ r ∷ rs

abbrev pub in_textual_order : List Question → List Question
in_textual_order [] = []
in_textual_order (q ∷ qs) = placed q (in_textual_order qs)

-- no point is declared twice
abbrev pub point_questions : (earlier : List (List ℕ)) → List PlacedName → List Question
point_questions earlier [] = []
point_questions earlier (p ∷ ps) =
    (record { holds = not (is_point earlier p.name); step = lattice_name p.place p.name })
    ∷ point_questions (p.name ∷ earlier) ps

-- both points of a pair are declared
abbrev pub pair_questions : (points : List (List ℕ)) → List PairTree → List Question
pair_questions points [] = []
pair_questions points (pair ∷ pairs) =
    (record {
      holds = is_point points pair.lower.name;
      step = lattice_name pair.lower.place pair.lower.name;
    })
    ∷ (record {
      holds = is_point points pair.upper.name;
      step = lattice_name pair.upper.place pair.upper.name;
    })
    ∷ pair_questions points pairs

unfoldable pub answered : Question → Steps
answered q = ask q.holds q.step

-- The table of the flows.

-- whether a set has a point: bit a of its number is that of the point a
abbrev pub contains : (set point : ℕ) → Bool
contains set a = bit_at set a == 1

-- the table after a pair more: what flows to the first point flows to all that the second one flows
-- to
abbrev pub with_pair : List ℕ → ℕ × ℕ → List ℕ
with_pair table (a, b) =
    map (λ row. if contains row a then bit_or row (slice_index table b) else row) table

abbrev pub with_pairs : List ℕ → List (ℕ × ℕ) → List ℕ
with_pairs table [] = table
with_pairs table (pair ∷ pairs) = with_pairs (with_pair table pair) pairs

-- the table of so many points in which each flows to itself and along the pairs
abbrev pub table_of : ℕ → List (ℕ × ℕ) → List ℕ
table_of n pairs = with_pairs (map (λ a. 2 ^ a) (numbers_below n)) pairs

-- the set of the points that flow to a point
abbrev pub flowing_to : List ℕ → ℕ → ℕ
flowing_to table b =
    fold (λ set a. if flow_test table a b then bit_or set (2 ^ a)
    else set) 0 (numbers_below (length table))

-- the table of the flows the other way round
abbrev pub turned : List ℕ → List ℕ
turned table = map (flowing_to table) (numbers_below (length table))

-- two points are the same, or do not flow to each other
abbrev pub are_apart : List ℕ → ℕ → ℕ → Bool
are_apart table a b = a == b || not (flow_test table a b && flow_test table b a)

-- one of the points of a set flows to all of them
abbrev pub has_least : List ℕ → (set : ℕ) → Bool
has_least table set =
    list_any (λ c. contains set c && bit_and (slice_index table c) set == set)
    (numbers_below (length table))

-- two points have a least upper point
abbrev pub have_join : List ℕ → ℕ → ℕ → Bool
have_join table a b = has_least table (bit_and (slice_index table a) (slice_index table b))

-- the pairs of numbers below a limit, in order of both
abbrev pub pairs_below : ℕ → List (ℕ × ℕ)
pairs_below n = flat_map (λ a. map (λ b. (a, b)) (numbers_below n)) (numbers_below n)

-- each two points are asked whether the test holds of them
unfoldable pub pair_steps : (test : ℕ → ℕ → Bool) → (broken : (a b : List ℕ) → WalkStep)
    → (points : List (List ℕ)) → Steps
pair_steps test broken points = each
    (λ (pair : ℕ × ℕ). ask (test pair.0 pair.1)
    (broken (slice_index_or points pair.0 []) (slice_index_or points pair.1 [])))
    (pairs_below (length points))

-- the points are a lattice
unfoldable pub order_steps : Place → (points : List (List ℕ)) → (table opposite : List ℕ) → Steps
order_steps p points table opposite = do
  _ ← pair_steps (are_apart table) (circle p) points
  _ ← pair_steps (have_join table) (no_join p) points
  pair_steps (have_join opposite) (no_meet p) points

-- the names of the declared points
abbrev pub point_names : LatticeTree → List (List ℕ)
point_names t = map (λ (p : PlacedName). p.name) t.points

-- the numbers of a pair's points
abbrev pub numbered_pair : List (List ℕ) → PairTree → ℕ × ℕ
numbered_pair points pair = (
  unwrap_or (point_number points pair.lower.name) 0,
  unwrap_or
      (point_number points pair.upper.name) 0,
)

-- the order of declared points
abbrev pub declared_order : LatticeTree → PointOrder
declared_order t =
    let points = point_names t in
    record {
      points = points;
      table = table_of (length points) (map (numbered_pair points) t.pairs);
    }

-- a text without a lattice has the points L and H, and L flows to H
abbrev pub two_points : PointOrder
two_points = record { points = codes "L" ∷ codes "H" ∷ []; table = table_of 2 ((0, 1) ∷ []) }

unfoldable pub checked_order : Place → PointOrder → Walk PointOrder
checked_order p order = do
  _ ← order_steps p order.points order.table (turned order.table)
  done order

unfoldable pub lattice_walk : Option LatticeTree → Walk PointOrder
lattice_walk None = done two_points
lattice_walk (Some t) = do
  _ ← ask (nat_le 1 (length t.points) && nat_le (length t.points) 32) (lattice_size t.place)
  _ ← each answered (in_textual_order
      (point_questions [] t.points ++ pair_questions (point_names t) t.pairs))
  checked_order t.place (declared_order t)

-- the number of the point that flows to every point
abbrev pub least_point : List ℕ → ℕ
least_point table = unwrap_or (position (λ row. row == 2 ^ length table - 1) table) 0
