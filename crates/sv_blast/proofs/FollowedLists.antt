-- The signals that a table has, as a list and among others: those of a set, and those of pieces.
use Rattle.std.proofs.Common.{◌≡◌, ℕ, zero, suc, ◌+◌, ◌<◌, ◌≤◌, ◌&&◌, ◌||◌, ◌==◌, Bool, true, false}
use Rattle.std.proofs.Common.{cond, nat_lt, ltb-true, List, [], ◌∷◌, length, filter, nat_cmp, Less}
use Rattle.std.proofs.Common.{Equal, Greater, ⊎_elim, refl, sym, ap, ap₂, subst, ◌∙◌, arith}
use Rattle.std.specs.Prelude.{Contains, IsTrue, IsFalse}
use Rattle.std.specs.BTreeSet.{BTreeSet, contains, IsOrdered}
use Rattle.std.specs.List.{AllByRecursion, list_any, range_with_len}
use Rattle.std.specs.List.Sorted.{IsStrictlySortedBy}
use Rattle.std.specs.Ordering.{is_lt}
use Rattle.std.proofs.lemmas.Bool.{false≢true, eqb-true, eq-eqb, or_left}
use mathlib.Core.Path.{fun_ext}
use Rattle.sv_num.specs.declared.faults.Place.{Place}
use Rattle.sv_system.proofs.Lists.{Contains-head, Contains-later, Contains-nil, Contains-cases}
use Rattle.sv_flat.specs.Design.{TypedTree, PieceForm, FlatStatement, assign}
use Rattle.sv_flat.specs.Assigned.{assigns}
use Rattle.sv_flat.specs.Sets.{holds}
use Rattle.sv_flat.proofs.LeastSets.{either_way, some_from, from_some, holds-from_Contains}
use Rattle.sv_flat.proofs.LeastSets.{Contains-from_holds, in_those, those_pass}
use Rattle.sv_flat.proofs.SameRuns.{none_found}
use Rattle.sv_graph.specs.Marks.{is_marked, followed_in}
use Rattle.sv_graph.proofs.BitFacts.{same_answer}
use Rattle.sv_graph.proofs.Differing.{filter_same}
use Rattle.sv_design.proofs.ReaderFacts.{marked_within}
use Rattle.sv_obl.proofs.MarkedFacts.{set_holds}
use Rattle.sv_obl.proofs.PathLists.{cond_false}
use Rattle.sv_encoding.specs.Bodies.{assigns_some}
use Rattle.sv_blast.proofs.FollowedSteps.{none_pass, range_above}

-- ---- ascending lists

less_is : (b c : Bool) → cond b Less (cond c Equal Greater) ≡ Less → IsTrue b
less_is true c e = refl
less_is false true e = absurd (false≢true (ap is_lt e))
less_is false false e = absurd (false≢true (ap is_lt e))

later_is : (k y : ℕ) → nat_cmp k y ≡ Less → k < y
later_is k y e = ltb-true k y (less_is (nat_lt k y) (k == y) e)

later_are : (k : ℕ) (ks : List ℕ) → AllByRecursion (λ y. nat_cmp k y ≡ Less) ks → (y : ℕ) →
    Contains ks y → k < y
later_are k [] all y at = absurd (Contains-nil y at)
later_are k (x ∷ ks) all y at = ⊎_elim
    (λ e. subst (λ z. k < z) e (later_is k x all.0))
    (λ rest. later_are k ks all.1 y rest)
    (Contains-cases x ks y at)

filter_none : (test : ℕ → Bool) (xs : List ℕ) → ((x : ℕ) → Contains xs x → IsFalse (test x)) →
    filter test xs ≡ []
filter_none test xs none = none_pass test xs (none_found (list_any test xs) (λ some.
    let found = from_some test xs some in
    false≢true (sym (none found.0 found.1) ∙ found.2)))

and_none : (a b : Bool) → IsFalse b → IsFalse (a && b)
and_none true b none = none
and_none false b none = refl

and_some : (a b : Bool) → IsTrue b → (a && b) ≡ a
and_some true b some = some
and_some false b some = refl

module _ (test : ℕ → Bool) where
  abbrev among : List ℕ → ℕ → Bool
  among ks t = test t && holds ks t

  -- of numbers that ascend, those that pass a test are the same as of the numbers in order
  sorted_is : (ks : List ℕ) (a n : ℕ) → IsStrictlySortedBy nat_cmp ks →
      ((k : ℕ) → Contains ks k → a ≤ k) →
      ((k : ℕ) → Contains ks k → IsTrue (test k) → k < a + n) →
      filter test ks ≡ filter (among ks) (range_with_len a n)
  unfolding IsStrictlySortedBy
  sorted_is ks a zero sorted from below =
      filter_none test ks (λ k at. none_found (test k) (λ passes.
      let low = from k at in let high = below k at passes in absurd (omega (arith, low, high))))
  sorted_is [] a (suc n) sorted from below =
      sym (filter_none (among []) (range_with_len a (suc n)) (λ k at. and_none (test k) false refl))
  sorted_is (k ∷ ks) a (suc n) sorted from below = ⊎_elim
      (λ same. let e = eqb-true k a same in
      here e (sorted_is ks (a + 1) n sorted.1
      (λ y at. let high = after_k y at in omega (arith, high, e))
      (λ y at passes. let high = below y (Contains-later k ks y at) passes in
      omega (arith, high))))
      (λ other. let low = from k (Contains-head k ks) in
      let differ : k ≡ a → ⊥ = (λ e. false≢true (sym other ∙ eq-eqb k a e)) in
      let above : a < k = omega (arith, low, differ) in
      later above (sorted_is (k ∷ ks) (a + 1) n sorted
      (λ y at. ⊎_elim
      (λ e. omega (arith, above, e))
      (λ behind. let high = after_k y behind in omega (arith, above, high))
      (Contains-cases k ks y at))
      (λ y at passes. let high = below y at passes in omega (arith, high))))
      (either_way (k == a))
    where
      after_k : (y : ℕ) → Contains ks y → k < y
      after_k y at = later_are k ks sorted.0 y at

      more : List ℕ
      more = filter (among (k ∷ ks)) (range_with_len (a + 1) n)

      here : k ≡ a → filter test ks ≡ filter (among ks) (range_with_len (a + 1) n) →
          filter test (k ∷ ks) ≡ filter (among (k ∷ ks)) (a ∷ range_with_len (a + 1) n)
      here e rest =
          ap₂ (λ x xs. cond (test x) (x ∷ xs) xs) e
          (rest ∙ filter_same (among ks) (among (k ∷ ks)) (range_with_len (a + 1) n) (λ y at.
          let high = range_above (a + 1) n y at in
          ap (λ c. test y && (c || holds ks y))
          (sym (none_found (k == y) (λ found.
          let same = eqb-true k y found in absurd (omega (arith, high, same, e)))))))
          ∙ ap (λ c. cond c (a ∷ more) more)
          (sym (and_some (test a) (holds (k ∷ ks) a)
          (or_left (k == a) (holds ks a) (eq-eqb k a e))))

      later : a < k →
          filter test (k ∷ ks) ≡ filter (among (k ∷ ks)) (range_with_len (a + 1) n) →
          filter test (k ∷ ks) ≡ filter (among (k ∷ ks)) (a ∷ range_with_len (a + 1) n)
      later above rest =
          rest
          ∙ sym (cond_false (among (k ∷ ks) a) (a ∷ more) more
          (and_none (test a) (holds (k ∷ ks) a) (none_found (holds (k ∷ ks) a) (λ held. ⊎_elim
          (λ e. absurd (omega (arith, above, e)))
          (λ behind. let high = after_k a behind in absurd (omega (arith, above, high)))
          (Contains-cases k ks a (Contains-from_holds (k ∷ ks) a held))))))

filter_twice : (f g : ℕ → Bool) (xs : List ℕ) →
    filter (λ t. f t && g t) xs ≡ filter g (filter f xs)
filter_twice f g [] = refl
filter_twice f g (x ∷ xs) = by (f x) (filter_twice f g xs)
  where
    by : (c : Bool) → filter (λ t. f t && g t) xs ≡ filter g (filter f xs) →
        cond (c && g x) (x ∷ filter (λ t. f t && g t) xs) (filter (λ t. f t && g t) xs)
        ≡ filter g (cond c (x ∷ filter f xs) (filter f xs))
    by true e = ap (λ ys. cond (g x) (x ∷ ys) ys) e
    by false e = e

-- ---- sets

module _ (table : List Bool) where
  pub holds_marked : (s : ℕ) → holds (followed_in table) s ≡ is_marked table s
  holds_marked s = same_answer (holds (followed_in table) s) (is_marked table s)
      (λ held. those_pass (length table) (is_marked table) s
      (Contains-from_holds (followed_in table) s held))
      (λ marked. holds-from_Contains (followed_in table) s
      (in_those (length table) (is_marked table) s (marked_within table s marked) marked))

  module _ (targets : BTreeSet ℕ) (b : FlatStatement)
      (tells : (s : ℕ) → contains nat_cmp targets s ≡ assigns b s) where
    -- the followed ones among the targets of a statement
    pub assigned_is : IsOrdered nat_cmp targets →
        filter (is_marked table) targets.keys ≡ filter (assigns b) (followed_in table)
    assigned_is ordered =
        sorted_is (is_marked table) targets.keys 0 (length table) ordered
        (λ k at. omega arith)
        (λ k at marked. let low = marked_within table k marked in omega (arith, low))
        ∙ ap (λ (test : ℕ → Bool). filter (λ t. is_marked table t && test t)
        (range_with_len 0 (length table)))
        (fun_ext (λ s. sym (set_holds targets s) ∙ tells s))
        ∙ filter_twice (is_marked table) (assigns b) (range_with_len 0 (length table))

    -- whether there is one
    pub some_assigned : list_any (is_marked table) targets.keys ≡ assigns_some (followed_in table) b
    some_assigned = same_answer (list_any (is_marked table) targets.keys)
        (list_any (assigns b) (followed_in table))
        (λ some. let found = from_some (is_marked table) targets.keys some in
        some_from (assigns b) (followed_in table) found.0
        (in_those (length table) (is_marked table) found.0 (marked_within table found.0 found.2)
        found.2)
        (sym (tells found.0) ∙ set_holds targets found.0
        ∙ holds-from_Contains targets.keys found.0 found.1))
        (λ some. let found = from_some (assigns b) (followed_in table) some in
        some_from (is_marked table) targets.keys found.0
        (Contains-from_holds targets.keys found.0
        (sym (set_holds targets found.0) ∙ tells found.0 ∙ found.2))
        (those_pass (length table) (is_marked table) found.0 found.1))

  -- whether one of some pieces is of a followed signal
  pub some_piece : (pieces : List PieceForm) (place : Place) (blocking : Bool) (right : TypedTree) →
      list_any (λ (piece : PieceForm). is_marked table piece.signal) pieces
      ≡ assigns_some (followed_in table) (assign pieces place blocking right)
  some_piece pieces place blocking right =
      same_answer (list_any (λ (piece : PieceForm). is_marked table piece.signal) pieces)
      (list_any (assigns (assign pieces place blocking right)) (followed_in table))
      (λ some. let found = from_some (λ (piece : PieceForm). is_marked table piece.signal) pieces
      some in
      let s = (found.0).signal in
      some_from (assigns (assign pieces place blocking right)) (followed_in table) s
      (in_those (length table) (is_marked table) s (marked_within table s found.2) found.2)
      (some_from (λ (piece : PieceForm). piece.signal == s) pieces found.0 found.1
      (eq-eqb s s refl)))
      (λ some. let found = from_some (assigns (assign pieces place blocking right))
      (followed_in table) some in
      let piece = from_some (λ (q : PieceForm). q.signal == found.0) pieces found.2 in
      some_from (λ (q : PieceForm). is_marked table q.signal) pieces piece.0 piece.1
      (subst (λ s. IsTrue (is_marked table s)) (sym (eqb-true (piece.0).signal found.0 piece.2))
      (those_pass (length table) (is_marked table) found.0 found.1)))
