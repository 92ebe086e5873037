-- A longest order with as many signals as are combinational has all of them; and without a circle
-- the longest order has all.
use Rattle.std.proofs.Common.{◌≡◌, ℕ, ◌≤◌, Bool, true, false, cond, not, List}
use Rattle.std.proofs.Common.{[], ◌∷◌, ◌==◌, suc, length, map, ⊎_elim, refl, sym, ap, subst, ◌∙◌}
use Rattle.std.proofs.Common.{arith}
use Rattle.std.specs.Prelude.{IsTrue, IsFalse, Contains, filter, count_by, nat_eq}
use Rattle.std.specs.List.{list_all, range_with_len, IsDistinct, AllByRecursion}
use Rattle.std.specs.Set.{is_member}
use Rattle.std.proofs.lemmas.Bool.{false≢true, eqb-true, eq-eqb}
use Rattle.std.proofs.lemmas.Cmp.{nat_eq_equiv}
use Rattle.std.proofs.lemmas.List.FromFn.{fill_by_all}
use Rattle.std.proofs.lemmas.List.Sums.{length-filter}
use Rattle.std.proofs.lemmas.Map.Made.{length-le_from_is_member}
use Rattle.sv_system.proofs.Lists.{Contains-head, Contains-later, Contains-cases}
use Rattle.sv_flat.specs.Design.{FlatDesign}
use Rattle.sv_flat.specs.Loops.{reads_only_before, is_read_order, all_differ}
use Rattle.sv_flat.specs.Processes.{signals_that}
use Rattle.sv_flat.specs.Reads.{is_combinational}
use Rattle.sv_flat.specs.Sets.{holds}
use Rattle.sv_flat.proofs.Depths.{first_of, second_of, is_below}
use Rattle.sv_flat.proofs.LeastSets.{either_way, in_those, some_from, from_some}
use Rattle.sv_flat.proofs.SameRuns.{none_found}
use Rattle.sv_flat.proofs.AdmittedFacts.{and_true, negated_true}
use Rattle.sv_graph.specs.Marks.{IsTable}
use Rattle.sv_design.specs.Orders.{IsLongestOrder, IsWholeOrder}

-- ---- lists without repetitions

apart_from : (a : ℕ) (xs : List ℕ) → IsFalse (holds xs a) →
    AllByRecursion (λ y. nat_eq a y ≡ false) xs
apart_from a [] h = tt
apart_from a (x ∷ xs) h = (
  none_found (nat_eq a x) (λ e.
      absurd (false≢true (sym h
      ∙ some_from (λ b. b == a) (x ∷ xs) x (Contains-head x xs)
      (eq-eqb x a (sym (eqb-true a x e)))))),
  apart_from a xs (none_found (holds xs a) (λ later.
      let found = from_some (λ b. b == a) xs later in
      absurd (false≢true (sym h
      ∙ some_from (λ b. b == a) (x ∷ xs) found.0 (Contains-later x xs found.0 found.1) found.2)))),
)

distinct : (xs : List ℕ) → IsTrue (all_differ xs) → IsDistinct nat_eq xs
unfolding IsDistinct
distinct [] h = tt
distinct (a ∷ xs) h = (
  apart_from a xs (negated_true (holds xs a) (first_of (not (holds xs a)) (all_differ xs) h)),
  distinct xs (second_of (not (holds xs a)) (all_differ xs) h),
)

member_at : (xs : List ℕ) (q : ℕ) → IsTrue (is_member nat_eq xs q) → Contains xs q
member_at xs q h =
    let found = from_some (nat_eq q) xs h in
    subst (Contains xs) (sym (eqb-true q found.0 found.2)) found.1

member_from : (xs : List ℕ) (q : ℕ) → Contains xs q → IsTrue (is_member nat_eq xs q)
member_from xs q at = some_from (nat_eq q) xs q at (eq-eqb q q refl)

-- numbers, none twice, that all stand in a list, are at most as many
at_most : (xs ys : List ℕ) → IsTrue (all_differ xs) → ((k : ℕ) → Contains xs k → Contains ys k) →
    length xs ≤ length ys
at_most xs ys differ inside = length-le_from_is_member nat_eq_equiv xs ys (distinct xs differ)
    (λ q h. member_from ys q (inside q (member_at xs q h)))

every : (test : ℕ → Bool) (xs : List ℕ) → ((k : ℕ) → Contains xs k → IsTrue (test k)) →
    IsTrue (list_all test xs)
every test [] all = refl
every test (x ∷ xs) all = and_true (test x) (list_all test xs) (all x (Contains-head x xs))
    (every test xs (λ k at. all k (Contains-later x xs k at)))

kept_step : (b : Bool) (x : ℕ) (bs : List Bool) (xs : List ℕ) → length bs ≡ length xs →
    length (cond b (b ∷ bs) bs) ≡ length (cond b (x ∷ xs) xs)
kept_step true x bs xs same = ap suc same
kept_step false x bs xs same = same

-- how many of the answers of a test are yes
kept_mapped : (test : ℕ → Bool) (xs : List ℕ) →
    length (filter (λ (b : Bool). b) (map test xs)) ≡ length (filter test xs)
kept_mapped test [] = refl
kept_mapped test (x ∷ xs) =
    kept_step (test x) x (filter (λ (b : Bool). b) (map test xs)) (filter test xs)
    (kept_mapped test xs)

-- ---- orders

module _ (design : FlatDesign) where
  abbrev all_combinational : List ℕ
  all_combinational = signals_that design (is_combinational design)

  -- how many signals a table has
  table_count : (combs : List Bool)
      → IsTable (length design.signals) combs (is_combinational design)
      → count_by (λ (b : Bool). b) combs ≡ length all_combinational
  table_count combs (size, has) =
      let n = length design.signals in
      ap (count_by (λ (b : Bool). b))
      (fill_by_all (is_combinational design) combs n false size has)
      ∙ sym (length-filter (λ (b : Bool). b) (map (is_combinational design) (range_with_len 0 n)))
      ∙ kept_mapped (is_combinational design) (range_with_len 0 n)

  among_all : (s : ℕ) → IsTrue (is_combinational design s) → Contains all_combinational s
  among_all s comb =
      in_those (length design.signals) (is_combinational design) s (is_below design s comb) comb

  pub whole_of_longest : (order : List ℕ) → IsLongestOrder design order
      → IsTrue (is_read_order design order) → IsWholeOrder design order
  whole_of_longest order longest is = record {
    is_order = is;
    combinational = longest.combinational;
    differ = longest.differ;
  }

  pub whole_by_count : (order : List ℕ) (combs : List Bool) → IsLongestOrder design order
      → IsTable (length design.signals) combs (is_combinational design)
      → count_by (λ (b : Bool). b) combs ≤ length order → IsWholeOrder design order
  whole_by_count order combs longest table many =
      whole_of_longest order longest
      (and_true (list_all (holds order) all_combinational) (reads_only_before design [] order)
      (every (holds order) all_combinational (λ s at. ⊎_elim
      (λ has. has)
      (λ out.
      let count = table_count combs table in
      let more = at_most (s ∷ order) all_combinational
      (and_true (not (holds order s)) (all_differ order) (negated_is (holds order s) out)
      longest.differ)
      (λ k inside. ⊎_elim
      (λ e. subst (Contains all_combinational) e at)
      (λ later. among_all k (longest.combinational k later))
      (Contains-cases s order k inside)) in
      absurd (omega arith))
      (either_way (holds order s))))
      longest.before)
    where
      negated_is : (b : Bool) → IsFalse b → IsTrue (not b)
      negated_is true h = absurd (false≢true (sym h))
      negated_is false h = refl
