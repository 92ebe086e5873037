-- Where the walk of a lattice ends, by what its declared pairs say.
use Rattle.std.proofs.Common.{◌≡◌, ℕ, zero, suc, ◌+◌, ◌^◌, ◌<◌, ◌≤◌, ◌↔◌, true, List, [], length}
use Rattle.std.proofs.Common.{fold, get_or, refl, sym, ap, ◌∙◌, subst, arith}
use Rattle.std.specs.Prelude.{Ok, Err, slice_index_or, bit_or}
use Rattle.std.specs.Cmp.{both_ways}
use Rattle.std.specs.List.{All, range_with_len}
use Rattle.std.proofs.lemmas.Bool.{cond_both}
use Rattle.std.proofs.lemmas.List.{same_lists, get_or_default}
use Rattle.std.proofs.lemmas.List.FromFn.{get_or-map-range_with_len}
use Rattle.std.proofs.lemmas.Nat.{or_lt, pow_below}
use Rattle.sv_num.specs.declared.faults.Place.{Place}
use Rattle.sv_lattice.specs.Flows.{Flows, EachPair, IsKnown, IsPointCount, IsFaultOf}
use Rattle.sv_lattice.specs.Flows.{IsFirstUnknown, IsApart, HasJoin, HasMeet, IsLattice}
use Rattle.sv_lattice.specs.Flows.{IsFirstWithout}
use Rattle.sv_lattice.specs.Tables.{flow_test, FlowsTo, IsWithin, IsTableOf}
use Rattle.sv_lattice.specs.declared.points.LatticeFault.TheVariants.{Size, Unknown, Circle, NoJoin}
use Rattle.sv_lattice.specs.declared.points.LatticeFault.TheVariants.{NoMeet}
use Rattle.sv_lattice.proofs.BoundLemmas.{turned_round, apart_along, join_along, meet_along}
use Rattle.sv_lattice.proofs.OrderLemmas.{same_meets}
use Rattle.sv_elab_rules.specs.Walks.{WalkStep, Steps, Walk, done, ◌>>=◌}
use Rattle.sv_elab_rules.specs.Rules.{circle, no_join, no_meet}
use Rattle.sv_elab_rules.specs.Lattices.{PointOrder, are_apart, have_join, flowing_to, turned}
use Rattle.sv_elab_rules.specs.Lattices.{table_of}
use Rattle.sv_elab_rules.specs.Lattices.{pair_steps, order_steps, checked_order}
use Rattle.sv_elab_rules.proofs.LatticeLemmas.{table_is_exact}
use Rattle.sv_elab_rules.proofs.WalkLemmas.{end_after, end_broken}
use Rattle.sv_elab.proofs.PairSteps.{pairs_done, pairs_broken}
use Rattle.sv_elab_laws.proofs.LatticeTests.{same_sets, gather, apart_test, join_test, turned_length}
use Rattle.sv_elab_laws.proofs.LatticeTests.{turned_test}

-- two tables of the same pairs are the same
pub one_table : (n : ℕ) (pairs : List (ℕ × ℕ)) (t u : List ℕ) → IsTableOf n pairs t →
    IsTableOf n pairs u → t ≡ u
one_table n pairs t u of_t of_u = same_lists t u (of_t.size ∙ sym of_u.size) rows
  where
    row : (k : ℕ) → k < n → get_or t k 0 ≡ get_or u k 0
    row k p = same_sets n (get_or t k 0) (get_or u k 0) (of_t.within k p) (of_u.within k p)
        (λ d q. both_ways (flow_test t k d) (flow_test u k d)
        (λ h. (of_u.exact k d p q).1 ((of_t.exact k d p q).0 h))
        (λ h. (of_t.exact k d p q).1 ((of_u.exact k d p q).0 h)))

    rows : (k : ℕ) (d : ℕ) → k < length t → get_or t k d ≡ get_or u k d
    rows k d p =
        get_or_default t k d 0 p ∙ row k (subst (λ m. k < m) of_t.size p)
        ∙ sym (get_or_default u k d 0 (subst (λ m. k < m) (of_t.size ∙ sym of_u.size) p))

gathered_low : (table : List ℕ) (b n a m set : ℕ) → a + m ≤ n → set < 2 ^ n
    → fold (gather table b) set (range_with_len a m) < 2 ^ n
gathered_low table b n a zero set p q = q
gathered_low table b n a (suc m) set p q =
    gathered_low table b n (a + 1) m (gather table b set a) (omega arith)
    (cond_both (flow_test table a b) (bit_or set (2 ^ a)) set (λ x. x < 2 ^ n)
    (λ e. or_lt n set (2 ^ a) q (pow_below a n (omega arith))) (λ e. q))

-- each row of the turned table has points alone
turned_within : (table : List ℕ) → IsWithin (length (turned table)) (turned table)
turned_within table k p =
    let lt : k < length table = subst (λ n. k < n) (turned_length table) p in
    subst (λ n. get_or (turned table) k 0 < 2 ^ n) (sym (turned_length table))
    (subst (λ row. row < 2 ^ length table)
    (sym (get_or-map-range_with_len (flowing_to table) 0 (length table) k k 0 lt (omega arith)))
    (gathered_low table k (length table) 0 (length table) 0 (omega arith)
    (omega (arith, pow_below 0 (length table) (omega arith)))))

-- the name of a point
abbrev pub named : List (List ℕ) → ℕ → List ℕ
named points k = slice_index_or points k []

iff_then : {A B C : Type 0} → A ↔ B → B ↔ C → A ↔ C
iff_then (f, g) (h, k) = (λ x. h (f x), λ x. g (k x))

-- ---- the tests, by the pairs

module _ (table : List ℕ) (pairs : List (ℕ × ℕ))
    (of_pairs : IsTableOf (length table) pairs table) where
  apart_pairs : EachPair (length table) (λ a b.
      (are_apart table a b ≡ true) ↔ IsApart (Flows pairs) a b)
  apart_pairs a b p q = iff_then (apart_test table a b) (
    apart_along (length table) (FlowsTo table) (Flows pairs) of_pairs.exact a b p q,
    apart_along (length table) (Flows pairs) (FlowsTo table) (turned_round of_pairs.exact) a b p q,
  )

  join_pairs : EachPair (length table) (λ a b.
      (have_join table a b ≡ true) ↔ HasJoin (length table) (Flows pairs) a b)
  join_pairs a b p q = iff_then (join_test table of_pairs.within a b p q) (
    join_along (length table) (FlowsTo table) (Flows pairs) of_pairs.exact a b p q,
    join_along (length table) (Flows pairs) (FlowsTo table) (turned_round of_pairs.exact) a b p q,
  )

  turned_pairs : EachPair (length table) (λ a b.
      (have_join (turned table) a b ≡ true) ↔ HasJoin (length table) (FlowsTo (turned table)) a b)
  turned_pairs =
      subst (λ n. EachPair n (λ a b.
      (have_join (turned table) a b ≡ true) ↔
      HasJoin n (FlowsTo (turned table)) a b)) (turned_length table)
      (λ a b p q. join_test (turned table) (turned_within table) a b p q)

  meet_pairs : EachPair (length table) (λ a b.
      (have_join (turned table) a b ≡ true) ↔ HasMeet (length table) (Flows pairs) a b)
  meet_pairs a b p q =
      iff_then (turned_pairs a b p q)
      (iff_then (same_meets (length table) table (turned table) (turned_test table) a b p q) (
        meet_along (length table) (FlowsTo table) (Flows pairs) of_pairs.exact a b p q,
        meet_along (length table) (Flows pairs) (FlowsTo table) (turned_round of_pairs.exact)
            a b p q,
      ))

-- ---- the end of the walk

module _ (p : Place) (points : List (List ℕ)) (pairs : List (ℕ × ℕ)) (table : List ℕ)
    (size : length table ≡ length points) (of_pairs : IsTableOf (length table) pairs table) where
  abbrev pub order : PointOrder
  order = record { points = points; table = table }

  apart_same : EachPair (length points) (λ a b.
      (are_apart table a b ≡ true) ↔ IsApart (Flows pairs) a b)
  apart_same =
      subst (λ n. EachPair n (λ a b. (are_apart table a b ≡ true) ↔ IsApart (Flows pairs) a b)) size
      (apart_pairs table pairs of_pairs)

  join_same : EachPair (length points) (λ a b.
      (have_join table a b ≡ true) ↔ HasJoin (length points) (Flows pairs) a b)
  join_same =
      subst (λ n. EachPair n (λ a b. (have_join table a b ≡ true) ↔ HasJoin n (Flows pairs) a b))
      size
      (join_pairs table pairs of_pairs)

  meet_same : EachPair (length points) (λ a b.
      (have_join (turned table) a b ≡ true) ↔ HasMeet (length points) (Flows pairs) a b)
  meet_same =
      subst (λ n. EachPair n (λ a b.
      (have_join (turned table) a b ≡ true) ↔ HasMeet n (Flows pairs) a b)) size
      (meet_pairs table pairs of_pairs)

  aparts : Steps
  aparts = pair_steps (are_apart table) (circle p) points

  joins : Steps
  joins = pair_steps (have_join table) (no_join p) points

  meets : Steps
  meets = pair_steps (have_join (turned table)) (no_meet p) points

  three : checked_order p order ≡ ((aparts >>= λ _. joins >>= λ _. meets) >>= λ _. done order)
  unfolding checked_order order_steps aparts joins meets
  three = refl

  apart_done : EachPair (length points) (IsApart (Flows pairs)) → aparts.end ≡ Ok tt
  unfolding aparts
  apart_done = pairs_done (are_apart table) (circle p) points (IsApart (Flows pairs)) apart_same

  joins_done : EachPair (length points) (HasJoin (length points) (Flows pairs)) → joins.end ≡ Ok tt
  unfolding joins
  joins_done =
      pairs_done (have_join table) (no_join p) points (HasJoin (length points) (Flows pairs))
      join_same

  meets_done : EachPair (length points) (HasMeet (length points) (Flows pairs)) → meets.end ≡ Ok tt
  unfolding meets
  meets_done =
      pairs_done (have_join (turned table)) (no_meet p) points
      (HasMeet (length points) (Flows pairs)) meet_same

  -- the three, one after another
  stop : (s : WalkStep) → (aparts >>= λ _. joins >>= λ _. meets).end ≡ Err s →
      (checked_order p order).end ≡ Err s
  stop s h =
      ap (λ (w : Walk PointOrder). w.end) three
      ∙ end_broken (aparts >>= λ _. joins >>= λ _. meets) (λ _. done order) s h

  pub lattice_done : IsLattice (length points) (Flows pairs) →
      (checked_order p order).end ≡ Ok order
  lattice_done lattice =
      ap (λ (w : Walk PointOrder). w.end) three
      ∙ end_after (aparts >>= λ _. joins >>= λ _. meets) (λ _. done order) tt
      (end_after aparts (λ _. joins >>= λ _. meets) tt (apart_done lattice.apart)
      ∙ end_after joins (λ _. meets) tt (joins_done lattice.joins) ∙ meets_done lattice.meets)

  pub circle_broken : (a b : ℕ) → IsFirstWithout (length points) (IsApart (Flows pairs)) a b
      → (checked_order p order).end ≡ Err (circle p (named points a) (named points b))
  unfolding aparts
  circle_broken a b first =
      stop _ (end_broken aparts (λ _. joins >>= λ _. meets) _
      (pairs_broken (are_apart table) (circle p) points (IsApart (Flows pairs)) apart_same a
      b first))

  pub join_broken : (a b : ℕ) → EachPair (length points) (IsApart (Flows pairs))
      → IsFirstWithout (length points) (HasJoin (length points) (Flows pairs)) a b
      → (checked_order p order).end ≡ Err (no_join p (named points a) (named points b))
  unfolding joins
  join_broken a b apart first =
      stop _ (end_after aparts (λ _. joins >>= λ _. meets) tt (apart_done apart)
      ∙ end_broken joins (λ _. meets) _
      (pairs_broken (have_join table) (no_join p) points (HasJoin (length points) (Flows pairs))
      join_same a b first))

  pub meet_broken : (a b : ℕ) → EachPair (length points) (IsApart (Flows pairs))
      → EachPair (length points) (HasJoin (length points) (Flows pairs))
      → IsFirstWithout (length points) (HasMeet (length points) (Flows pairs)) a b
      → (checked_order p order).end ≡ Err (no_meet p (named points a) (named points b))
  unfolding meets
  meet_broken a b apart joined first =
      stop _ (end_after aparts (λ _. joins >>= λ _. meets) tt (apart_done apart)
      ∙ end_after joins (λ _. meets) tt (joins_done joined)
      ∙ pairs_broken (have_join (turned table)) (no_meet p) points
      (HasMeet (length points) (Flows pairs)) meet_same a b first)

-- ---- likewise for the table of the walk, by what building the lattice says

module _ (p : Place) (points : List (List ℕ)) (pairs : List (ℕ × ℕ))
    (known : All (IsKnown (length points)) pairs) where
  abbrev pub walked : Walk PointOrder
  walked = checked_order p (record { points = points; table = table_of (length points) pairs })

  exact : IsTableOf (length points) pairs (table_of (length points) pairs)
  exact = table_is_exact (length points) pairs known

  own_exact : IsTableOf (length (table_of (length points) pairs)) pairs
      (table_of (length points) pairs)
  own_exact = subst (λ m. IsTableOf m pairs (table_of (length points) pairs)) (sym exact.size) exact

  pub found_end : (n : ℕ) (table : List ℕ) → n ≡ length points → IsLattice n (Flows pairs)
      → IsTableOf n pairs table
      → walked.end ≡ Ok (record { points = points; table = table })
  found_end n table same lattice of_pairs =
      lattice_done p points pairs (table_of (length points) pairs) exact.size own_exact
      (subst (λ m. IsLattice m (Flows pairs)) same lattice)
      ∙ ap (λ t. Ok (record { points = points; table = t }))
      (one_table (length points) pairs (table_of (length points) pairs) table exact
      (subst (λ m. IsTableOf m pairs table) same of_pairs))

  pub circle_end : (n a b : ℕ) → n ≡ length points → IsFaultOf n pairs (Circle a b)
      → walked.end ≡ Err (circle p (named points a) (named points b))
  circle_end n a b same fault =
      circle_broken p points pairs (table_of (length points) pairs) exact.size own_exact a b
      (subst (λ m. IsFirstWithout m (IsApart (Flows pairs)) a b) same fault.1)

  pub join_end : (n a b : ℕ) → n ≡ length points → IsFaultOf n pairs (NoJoin a b)
      → walked.end ≡ Err (no_join p (named points a) (named points b))
  join_end n a b same fault =
      join_broken p points pairs (table_of (length points) pairs) exact.size own_exact a b
      (subst (λ m. EachPair m (IsApart (Flows pairs))) same fault.1)
      (subst (λ m. IsFirstWithout m (HasJoin m (Flows pairs)) a b) same fault.2)

  pub meet_end : (n a b : ℕ) → n ≡ length points → IsFaultOf n pairs (NoMeet a b)
      → walked.end ≡ Err (no_meet p (named points a) (named points b))
  meet_end n a b same fault =
      meet_broken p points pairs (table_of (length points) pairs) exact.size own_exact a b
      (subst (λ m. EachPair m (IsApart (Flows pairs))) same fault.1)
      (subst (λ m. EachPair m (HasJoin m (Flows pairs))) same fault.2)
      (subst (λ m. IsFirstWithout m (HasMeet m (Flows pairs)) a b) same fault.3)

  pub never_size : (n : ℕ) → n ≡ length points → IsPointCount (length points) →
      IsFaultOf n pairs Size → ⊥
  never_size n same count fault = fault (subst IsPointCount (sym same) count)

  pub never_unknown : (n i : ℕ) → n ≡ length points → IsFaultOf n pairs (Unknown i) → ⊥
  never_unknown n i same fault =
      let first : IsFirstUnknown n pairs i = fault.1 in
      first.unknown (0, 0)
      (subst (λ m. IsKnown m (slice_index_or pairs i (0, 0))) (sym same)
      (known i (0, 0) first.is_pair))
