-- What the walk asks of the lattice of a text makes its points a lattice.
use Rattle.std.proofs.Common.{◌≡◌, ℕ, ◌<◌, Bool, true, List, [], ◌∷◌, map, length}
use Rattle.std.proofs.Common.{Option, Some, None, refl, sym, ap, subst, ◌∙◌, arith}
use Rattle.std.specs.Prelude.{◌==◌, ◌&&◌, nat_le, slice_index, bit_and, Ok}
use Rattle.std.specs.List.{list_all}
use Rattle.std.proofs.lemmas.Bool.{and_from, and_parts, eqb-true, leb-true}
use Rattle.std.proofs.lemmas.List.{length-map}
use Rattle.sv_system.proofs.Lists.{Contains-map}
use Rattle.sv_lattice.specs.Flows.{EachPair, HasJoin, HasMeet, IsPointCount}
use Rattle.sv_lattice.specs.Tables.{flow_test, FlowsTo, IsTableOf, IsLatticeTable}
use Rattle.sv_lattice.proofs.OrderLemmas.{same_meets, table_preorder}
use Rattle.sv_ast.specs.Tree.{PlacedName, LatticeTree, TextTree}
use Rattle.sv_ast.specs.SourceLabels.{points, pairs}
use Rattle.sv_flat.proofs.Depths.{from_all}
use Rattle.sv_flat.proofs.LeastSets.{range_has}
use Rattle.sv_elab_rules.specs.Walks.{WalkStep, ask, each}
use Rattle.sv_elab_rules.specs.Rules.{circle, no_join, no_meet}
use Rattle.sv_elab_rules.specs.CaseChains.{numbers_below}
use Rattle.sv_elab_rules.specs.Lattices.{PointOrder, contains, are_apart, have_join, turned}
use Rattle.sv_elab_rules.specs.Lattices.{pairs_below, pair_steps, order_steps}
use Rattle.sv_elab_rules.specs.Lattices.{declared_order}
use Rattle.sv_elab_rules.specs.Lattices.{two_points, lattice_walk}
use Rattle.sv_elab_rules.proofs.WalkLemmas.{parts_done, asked_true}
use Rattle.sv_lattice.proofs.BoundLemmas.{and_test}
use Rattle.sv_elab_laws.proofs.LatticeTests.{some_below, apart_test, turned_length}
use Rattle.sv_elab_laws.proofs.LatticeTests.{turned_test}
use Rattle.sv_elab_laws.proofs.PartsDeclared.{same_ok}
use Rattle.sv_flat.proofs.Members.{to_flat_map}
use Rattle.sv_elab_laws.proofs.JoinedLattice.{IsOrderFrom, order_of, exact_table, lattice_asked}

-- ---- questions that are passed

passed_all : {X : Type 0} (test : X → Bool) (broken : X → WalkStep) (xs : List X)
    → (each (λ x. ask (test x) (broken x)) xs).end ≡ Ok tt
    → list_all test xs ≡ true
unfolding each
passed_all test broken [] h = refl
passed_all test broken (x ∷ xs) h =
    let first = parts_done (ask (test x) (broken x)) (λ _.
    each (λ y. ask (test y) (broken y)) xs) tt h in
    and_from (test x) (list_all test xs) (asked_true (test x) (broken x) first.1)
    (passed_all test broken xs first.2)

-- each pair of numbers below the limit passes the test
abbrev PairsPass : (ℕ → ℕ → Bool) → ℕ → Type 0
PairsPass test n = list_all (λ (pair : ℕ × ℕ). test pair.0 pair.1) (pairs_below n) ≡ true

steps_passed : (test : ℕ → ℕ → Bool) (broken : (a b : List ℕ) → WalkStep) (ps : List (List ℕ))
    → (pair_steps test broken ps).end ≡ Ok tt
    → PairsPass test (length ps)
unfolding pair_steps
steps_passed test broken ps h =
    passed_all (λ (pair : ℕ × ℕ). test pair.0 pair.1) _ (pairs_below (length ps)) h

pair_passes : (test : ℕ → ℕ → Bool) (n : ℕ) → PairsPass test n →
    EachPair n (λ a b. test a b ≡ true)
pair_passes test n h a b a_in b_in =
    from_all (λ (pair : ℕ × ℕ). test pair.0 pair.1) (pairs_below n) (a, b) h
    (to_flat_map (λ c. map (λ d. (c, d)) (numbers_below n)) (numbers_below n) a (a, b)
    (range_has n a a_in)
    (Contains-map (λ d. (a, d)) (numbers_below n) b (range_has n b b_in)))

-- ---- what is asked of the points of a text

record IsAsked (order : PointOrder) : Type 0 where
  pub count : IsPointCount (length order.points)
  pub aparts : PairsPass (are_apart order.table) (length order.points)
  pub joins : PairsPass (have_join order.table) (length order.points)
  pub meets : PairsPass (have_join (turned order.table)) (length order.points)

all_asked : (l : Option LatticeTree) (order : PointOrder) → (lattice_walk l).end ≡ Ok order →
    IsAsked order
unfolding lattice_walk order_steps
all_asked None order h =
    subst IsAsked (same_ok two_points order h) (record {
      count = (omega arith, omega arith);
      aparts = refl;
      joins = refl;
      meets = refl;
    })
all_asked (Some t) order h =
    let own = declared_order t in
    let asked = lattice_asked t order h in
    let aparts = parts_done (pair_steps (are_apart own.table) (circle t.place) own.points) _ tt
    asked.ordered in
    let joins = parts_done (pair_steps (have_join own.table) (no_join t.place) own.points) _ tt
    aparts.2 in
    let count = and_parts (nat_le 1 (length t.points)) (nat_le (length t.points) 32)
    asked.counted in
    subst IsAsked asked.is (record {
      count =
          subst IsPointCount (sym (length-map t.points (λ (p : PlacedName). p.name)))
          (leb-true 1 (length t.points) count.0, leb-true (length t.points) 32 count.1);
      aparts = steps_passed (are_apart own.table) (circle t.place) own.points aparts.1;
      joins = steps_passed (have_join own.table) (no_join t.place) own.points joins.1;
      meets = steps_passed (have_join (turned own.table)) (no_meet t.place) own.points joins.2;
    })

-- ---- least upper points

-- of any table: the points of its rows need no bound
join_found : (table : List ℕ) (a b : ℕ) → have_join table a b ≡ true →
    HasJoin (length table) (FlowsTo table) a b
join_found table a b h =
    let set = bit_and (slice_index table a) (slice_index table b) in
    let found = some_below (λ c. contains set c && bit_and (slice_index table c) set == set) 0
    (length table) h in
    let c = found.0 in
    let parts = and_parts (contains set c) (bit_and (slice_index table c) set == set) found.3 in
    let both = and_parts (flow_test table a c) (flow_test table b c)
    (sym (and_test (slice_index table a) (slice_index table b) c) ∙ parts.0) in (
      c,
      record {
        is_point = let below = found.2 in omega arith;
        above_first = both.0;
        above_second = both.1;
        least = λ d d_in f g.
            let inside : contains set d ≡ true =
            and_test (slice_index table a) (slice_index table b) d
            ∙ and_from (flow_test table a d) (flow_test table b d) f g in
            (and_parts (flow_test table c d) (contains set d)
            (sym (and_test (slice_index table c) set d)
            ∙ ap (λ s. contains s d) (eqb-true (bit_and (slice_index table c) set) set parts.1)
            ∙ inside)).0;
      },
    )

meet_found : (table : List ℕ) (a b : ℕ) → a < length table → b < length table
    → have_join (turned table) a b ≡ true
    → HasMeet (length table) (FlowsTo table) a b
meet_found table a b a_in b_in h =
    (same_meets (length table) table (turned table) (turned_test table) a b a_in b_in).0
    (subst (λ n. HasJoin n (FlowsTo (turned table)) a b) (turned_length table)
    (join_found (turned table) a b h))

-- ---- the table

pub walked_lattice : (text : TextTree) (order : PointOrder)
    → (lattice_walk text.lattice).end ≡ Ok order
    → IsLatticeTable order.table
walked_lattice text order h =
    let from : IsOrderFrom (points text) (pairs text) order = order_of text order h in
    let exact = exact_table text order from in
    let asked = all_asked text.lattice order h in
    let table = order.table in
    let size : length order.points ≡ length table = sym exact.size in
    let own = subst (λ n. IsTableOf n from.numbers table) size exact in
    let passes = λ (test : ℕ → ℕ → Bool) (all : PairsPass test (length order.points)).
    pair_passes test (length table) (subst (PairsPass test) size all) in
    record {
      count = subst IsPointCount size asked.count;
      within = own.within;
      preorder = table_preorder (length table) from.numbers table own;
      lattice = record {
        apart = λ a b p q. (apart_test table a b).0 (passes (are_apart table) asked.aparts a b p q);
        joins = λ a b p q. join_found table a b (passes (have_join table) asked.joins a b p q);
        meets = λ a b p q.
            meet_found table a b p q (passes (have_join (turned table)) asked.meets a b p q);
      };
    }
