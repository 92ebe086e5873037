-- Lattices, label maps and labels of small texts.
use Prim.Native.String.{String}
use Rattle.std.proofs.Common.{◌≡◌, ℕ, Bool, true, false, List, [], ◌∷◌, Option, Some, None, map}
use Rattle.std.proofs.Common.{◌⊎◌, inl, inr, ⊎_elim, refl, subst, arith}
use Rattle.std.specs.Prelude.{codes, Contains}
use Rattle.std.proofs.lemmas.Bool.{false≢true}
use Rattle.sv_system.proofs.Lists.{Contains-head, Contains-later, Contains-cases, Contains-nil}
use Rattle.sv_ast.specs.Tree.{LabelTree, point_label, table_label, KeyTree, MapTree, TextTree}
use Rattle.sv_ast.specs.Reach.{Leads, here, step}
use Rattle.sv_ast.specs.SourceLabels.{points, pairs, Flows, flows, least, IsJoin, IsMeet}
use Rattle.sv_ast.specs.SourceLabels.{PointsAreLattice, is_key, row_at, map_named, label_point}
use Rattle.sv_ast.proofs.Reaching.{HasKnownPoints, flows_by_pairs}
use Rattle.sv_ast.proofs.SmallTrees.{somewhere, bits, lattice_with, key, map_with, row, values_are}
use Rattle.sv_ast.proofs.SmallTrees.{names}

-- labelmap Dom [0:0] 0: L; default: H; endlabelmap
abbrev domains : MapTree
domains = map_with "Dom" None (row (key 0) None "L" ∷ []) (Some "H")

-- labelmap Two [0:0] [0:0] 0, 0: L; default: H; endlabelmap
abbrev two : MapTree
two = map_with "Two" (bits 1) (row (key 0) (Some (key 0)) "L" ∷ []) (Some "H")

-- a text without a lattice
abbrev plain : TextTree
plain = record { lattice = None; maps = domains ∷ two ∷ []; modules = [] }

abbrev with_lattice : List String → List (String × String) → TextTree
with_lattice ps qs = record { lattice = Some (lattice_with ps qs); maps = []; modules = [] }

abbrev flow : TextTree → String → String → Bool
flow text a b = flows text (codes a) (codes b)

abbrev all_flows : TextTree → List (String × String) → List Bool
all_flows text qs = map (λ (q : String × String). flow text q.0 q.1) qs

pub points_without_a_lattice : points plain ≡ names "L H"
points_without_a_lattice = refl

pub high_does_not_flow_to_low :
    all_flows plain (("L", "H") ∷ ("H", "L") ∷ ("H", "H") ∷ []) ≡ true ∷ false ∷ true ∷ []
high_does_not_flow_to_low = refl

pub low_is_least : least plain ≡ codes "L"
low_is_least = refl

-- The points L and H are a lattice.

-- each point is one of the two
low_or_high : (a : List ℕ) → Contains (points plain) a → (codes "L" ≡ a) ⊎ (codes "H" ≡ a)
low_or_high a at = ⊎_elim inl
    (λ later. ⊎_elim inr (λ none.
    absurd (Contains-nil a none)) (Contains-cases (codes "H") [] a later))
    (Contains-cases (codes "L") (codes "H" ∷ []) a at)

-- what holds of L and of H holds of every point
of_both : (P : List ℕ → Type 0) → P (codes "L") → P (codes "H") → (a : List ℕ) →
    Contains (points plain) a → P a
of_both P low high a at = ⊎_elim (λ e. subst P e low) (λ e. subst P e high) (low_or_high a at)

-- both are points
low_point : Contains (points plain) (codes "L")
low_point = Contains-head (codes "L") (codes "H" ∷ [])

high_point : Contains (points plain) (codes "H")
high_point = Contains-later (codes "L") (codes "H" ∷ []) (codes "H") (Contains-head (codes "H") [])

-- the declared pair ends at a point
ends_are_points : HasKnownPoints plain
ends_are_points a b at = ⊎_elim
    (λ e. subst (λ (p : List ℕ × List ℕ). Contains (points plain) p.1) e high_point)
    (λ none. absurd (Contains-nil (a, b) none))
    (Contains-cases (codes "L", codes "H") [] (a, b) at)

-- a point is a join where it is the least of those that both flow to
joined : {a b c : List ℕ} → Contains (points plain) c → Flows plain a c → Flows plain b c
    → ((d : List ℕ) → Flows plain a d → Flows plain b d → Flows plain c d) → IsJoin plain a b c
joined at first second others =
    record {
      is_point = at;
      above_first = first;
      above_second = second;
      below_others = λ d dt. others d;
    }

-- and a meet where it is the greatest of those that flow to both
met : {a b c : List ℕ} → Contains (points plain) c → Flows plain c a → Flows plain c b
    → ((d : List ℕ) → Flows plain d a → Flows plain d b → Flows plain d c) → IsMeet plain a b c
met at first second others =
    record {
      is_point = at;
      below_first = first;
      below_second = second;
      above_others = λ d dt. others d;
    }

low_to_high : Flows plain (codes "L") (codes "H")
low_to_high = step (0, omega arith, refl) here

-- the test of flows decides it
not_high_to_low : Flows plain (codes "H") (codes "L") → ⊥
not_high_to_low way =
    false≢true ((flows_by_pairs plain ends_are_points (codes "H") (codes "L")).1 way)

pub low_and_high_are_a_lattice : PointsAreLattice plain
low_and_high_are_a_lattice = record {
  apart = λ a b at bt. of_both (λ x. Flows plain x b → Flows plain b x → x ≡ b)
      (of_both (λ y. Flows plain (codes "L") y → Flows plain y (codes "L") → codes "L" ≡ y)
      (λ there back. refl) (λ there back. absurd (not_high_to_low back)) b bt)
      (of_both (λ y. Flows plain (codes "H") y → Flows plain y (codes "H") → codes "H" ≡ y)
      (λ there back. absurd (not_high_to_low there)) (λ there back. refl) b bt) a at;
  joins = λ a b at bt. of_both (λ x. (c : List ℕ) × IsJoin plain x b c)
      (of_both (λ y. (c : List ℕ) × IsJoin plain (codes "L") y c)
      (codes "L", joined low_point here here (λ d first second. first))
      (codes "H", joined high_point low_to_high here (λ d first second. second)) b bt)
      (of_both (λ y. (c : List ℕ) × IsJoin plain (codes "H") y c)
      (codes "H", joined high_point here low_to_high (λ d first second. first))
      (codes "H", joined high_point here here (λ d first second. first)) b bt) a at;
  meets = λ a b at bt. of_both (λ x. (c : List ℕ) × IsMeet plain x b c)
      (of_both (λ y. (c : List ℕ) × IsMeet plain (codes "L") y c)
      (codes "L", met low_point here here (λ d first second. first))
      (codes "L", met low_point here low_to_high (λ d first second. first)) b bt)
      (of_both (λ y. (c : List ℕ) × IsMeet plain (codes "H") y c)
      (codes "L", met low_point low_to_high here (λ d first second. second))
      (codes "H", met high_point here here (λ d first second. first)) b bt) a at;
}

-- lattice point P, Q, R, T; P <= Q; P <= R; Q <= T; R <= T; endlattice
abbrev diamond : TextTree
diamond =
    with_lattice ("P" ∷ "Q" ∷ "R" ∷ "T" ∷ [])
    (("P", "Q") ∷ ("P", "R") ∷ ("Q", "T") ∷ ("R", "T") ∷ [])

-- two pairs lead on, and none beside or downwards
pub flows_upwards :
    all_flows diamond (("P", "T") ∷ ("Q", "R") ∷ ("T", "Q") ∷ []) ≡ true ∷ false ∷ false ∷ []
flows_upwards = refl

pub the_least_of_four : least diamond ≡ codes "P"
the_least_of_four = refl

pub two_steps : Leads (pairs diamond) (codes "P") (codes "T")
two_steps = step (0, omega arith, refl) (step (2, omega arith, refl) here)

-- the longest way through four points, whose pairs stand in the other order
abbrev chain : TextTree
chain = with_lattice ("D" ∷ "C" ∷ "B" ∷ "A" ∷ []) (("C", "D") ∷ ("B", "C") ∷ ("A", "B") ∷ [])

pub three_pairs_lead_on : flow chain "A" "D" ≡ true
three_pairs_lead_on = refl

pub the_least_stands_last : least chain ≡ codes "A"
the_least_stands_last = refl

pub one_point_is_least : least (with_lattice ("A" ∷ []) []) ≡ codes "A"
one_point_is_least = refl

-- a 1 of one bit as a key
abbrev a_bit : (signed : Bool) → KeyTree
a_bit signed =
    record {
      value = record { width = 1; signed = signed; value = 1; sized = true };
      place = somewhere;
    }

-- a key is read by its own signedness: 1'sb1 is -1
pub by_signedness : map (λ signed. is_key (a_bit signed) 1) (true ∷ false ∷ []) ≡ false ∷ true ∷ []
by_signedness = refl

pub another_key : is_key (key 2) 1 ≡ false
another_key = refl

pub row_of_a_key : row_at domains 0 None ≡ Some (codes "L")
row_of_a_key = refl

pub all_other_keys : row_at domains 1 None ≡ Some (codes "H")
all_other_keys = refl

pub no_row : row_at (map_with "Hole" None (row (key 0) None "L" ∷ []) None) 1 None ≡ None
no_row = refl

pub rows_of_pairs : map (λ (v : ℕ × ℕ).
    row_at two v.0 (Some v.1)) ((0, 0) ∷ (0, 1) ∷ (1, 0) ∷ (1, 1) ∷ [])
    ≡ Some (codes "L") ∷ Some (codes "H") ∷ Some (codes "H") ∷ Some (codes "H") ∷ []
rows_of_pairs = refl

pub a_second_value_for_one_range : row_at domains 0 (Some 0) ≡ Some (codes "H")
a_second_value_for_one_range = refl

pub the_map_of_a_name : map_named plain (codes "Two") ≡ Some two
the_map_of_a_name = refl

pub no_map_of_a_name : map_named plain (codes "Par") ≡ None
no_map_of_a_name = refl

pub without_a_label : label_point diamond (values_are []) None ≡ codes "P"
without_a_label = refl

pub a_declared_point : label_point plain (values_are []) (Some (point_label (codes "H") somewhere))
    ≡ codes "H"
a_declared_point = refl

abbrev by_turn : Option LabelTree
by_turn = Some (table_label (codes "Dom") (codes "turn") None somewhere)

pub the_row_of_turn : label_point plain (values_are (("turn", 0) ∷ [])) by_turn ≡ codes "L"
the_row_of_turn = refl

pub the_other_row_of_turn : label_point plain (values_are (("turn", 1) ∷ [])) by_turn ≡ codes "H"
the_other_row_of_turn = refl

-- {Two(p, q)}
abbrev by_both : Option LabelTree
by_both = Some (table_label (codes "Two") (codes "p") (Some (codes "q")) somewhere)

pub a_pair_of_zeros : label_point plain (values_are []) by_both ≡ codes "L"
a_pair_of_zeros = refl

pub the_second_selector_counts : label_point plain (values_are (("q", 1) ∷ [])) by_both ≡ codes "H"
the_second_selector_counts = refl

pub the_first_selector_counts : label_point plain (values_are (("p", 1) ∷ [])) by_both ≡ codes "H"
the_first_selector_counts = refl
