-- What the tests of the walk say of a lattice's table.
use Rattle.std.proofs.Common.{◌≡◌, ℕ, zero, suc, ◌+◌, ◌^◌, ◌<◌, ◌≤◌, ◌⊎◌, inl, inr, ◌↔◌, Bool}
use Rattle.std.proofs.Common.{true, false, not, ◌&&◌, ◌||◌, ◌==◌, List, length, fold, get_or, refl}
use Rattle.std.proofs.Common.{sym, ap, ◌∙◌, subst, arith}
use Rattle.std.specs.Prelude.{bit_and, bit_or, nat_lt, if◌then◌else◌}
use Rattle.std.specs.Cmp.{both_ways}
use Rattle.std.specs.Int.{bit_at}
use Rattle.std.specs.List.{range_with_len, list_any}
use Rattle.std.proofs.lemmas.Bool.{cases_eq, and_parts, and_from, or_left, or_right, or_cases}
use Rattle.std.proofs.lemmas.Bool.{eqb-true, eq-eqb, lt-ltb, ltb-true, false_from_ne_true, and_left}
use Rattle.std.proofs.lemmas.Bool.{and_right}
use Rattle.std.proofs.lemmas.List.FromFn.{length-map-range_with_len, get_or-map-range_with_len}
use Rattle.std.proofs.lemmas.Nat.{and_le_r, and_le_l}
use Rattle.std.proofs.lemmas.Nat.Bits.{bit_at-lt, bit_at-zero, bit_at-pow_same}
use Rattle.std.proofs.lemmas.Nat.Bits.{bit_at-pow_other, same_from_bits_below}
use Rattle.sv_lattice.specs.Flows.{EachPair, IsApart, HasJoin}
use Rattle.sv_lattice.specs.Tables.{flow_test, FlowsTo, IsWithin}
use Rattle.sv_lattice.proofs.BoundLemmas.{and_test, same_bit}
use Rattle.sv_lattice.proofs.TableLemmas.{or_test}
use Rattle.sv_elab_rules.specs.Lattices.{contains, are_apart, have_join, flowing_to, turned}

-- ---- bits of sets

-- numbers below a power with the same tests are the same
pub same_sets : (n x y : ℕ) → x < 2 ^ n → y < 2 ^ n →
    ((d : ℕ) → d < n → contains x d ≡ contains y d) → x ≡ y
same_sets n x y p q same =
    same_from_bits_below n x y p q (λ d h.
    same_bit (bit_at x d) (bit_at y d) (bit_at-lt x d) (bit_at-lt y d) (same d h))

-- each member of the first set is one of the second
abbrev pub Within : ℕ → ℕ → ℕ → Type 0
Within n set row = (d : ℕ) → d < n → contains set d ≡ true → contains row d ≡ true

within_test : (n set row : ℕ) → set < 2 ^ n → Within n set row → (bit_and row set == set) ≡ true
within_test n set row low within =
    eq-eqb (bit_and row set) set
    (same_sets n (bit_and row set) set (omega (arith, and_le_r row set)) low
    (λ d h. and_test row set d ∙ by (contains set d) (contains row d) (within d h)))
  where
    by : (s r : Bool) → (s ≡ true → r ≡ true) → (r && s) ≡ s
    by true r h = rw (h refl) refl
    by false true h = refl
    by false false h = refl

test_within : (n set row : ℕ) → (bit_and row set == set) ≡ true → Within n set row
test_within n set row h d p in_set =
    let same : bit_and row set ≡ set = eqb-true (bit_and row set) set h in
    (and_parts (contains row d) (contains set d) (sym (and_test row set d)
    ∙ ap (λ s. contains s d) same ∙ in_set)).0

-- ---- some number below a limit

any_below : (test : ℕ → Bool) (c m k : ℕ) → c ≤ k → k < c + m → test k ≡ true →
    list_any test (range_with_len c m) ≡ true
any_below test c zero k p q h = absurd (omega arith)
any_below test c (suc m) k p q h =
    by (cases_eq c k) (λ lt. any_below test (c + 1) m k lt (omega arith) h)
  where
    by : (c ≡ k) ⊎ (c ≡ k → ⊥) → (c + 1 ≤ k → list_any test (range_with_len (c + 1) m) ≡ true)
        → list_any test (range_with_len c (suc m)) ≡ true
    by (inl e) rest =
        or_left (test c) (list_any test (range_with_len (c + 1) m))
        (subst (λ j. test j ≡ true) (sym e) h)
    by (inr ne) rest =
        or_right (test c) (list_any test (range_with_len (c + 1) m)) (rest (omega arith))

pub some_below : (test : ℕ → Bool) (c m : ℕ) → list_any test (range_with_len c m) ≡ true
    → (k : ℕ) × (c ≤ k) × (k < c + m) × (test k ≡ true)
some_below test c zero h = absurd (cc h)
some_below test c (suc m) h =
    by (or_cases (test c) (list_any test (range_with_len (c + 1) m)) h) (λ r.
    some_below test (c + 1) m r)
  where
    by : (test c ≡ true) ⊎ (list_any test (range_with_len (c + 1) m) ≡ true)
        → (list_any test (range_with_len (c + 1) m) ≡ true
        → (k : ℕ) × (c + 1 ≤ k) × (k < c + 1 + m) × (test k ≡ true))
        → (k : ℕ) × (c ≤ k) × (k < c + suc m) × (test k ≡ true)
    by (inl e) rest = (c, omega arith, omega arith, e)
    by (inr e) rest = let (k, p, q, t) = rest e in (k, omega arith, omega arith, t)

-- ---- the tests

pub apart_test : (table : List ℕ) (a b : ℕ) → (are_apart table a b ≡ true) ↔
    IsApart (FlowsTo table) a b
apart_test table a b = (forth, back)
  where
    forth : are_apart table a b ≡ true → IsApart (FlowsTo table) a b
    forth h f g = by (or_cases (a == b) (not (flow_test table a b && flow_test table b a)) h)
      where
        by : ((a == b) ≡ true) ⊎ (not (flow_test table a b && flow_test table b a) ≡ true) → a ≡ b
        by (inl e) = eqb-true a b e
        by (inr e) = absurd (cc (subst (λ t. not (t && flow_test table b a) ≡ true) f e, g))

    back : IsApart (FlowsTo table) a b → are_apart table a b ≡ true
    back h = by (flow_test table a b) refl (flow_test table b a) refl
      where
        by : (t : Bool) → flow_test table a b ≡ t → (u : Bool) → flow_test table b a ≡ u →
            (a == b || not (t && u)) ≡ true
        by true e true f = or_left (a == b) false (eq-eqb a b (h e f))
        by true e false f = or_right (a == b) true refl
        by false e u f = or_right (a == b) true refl

module _ (table : List ℕ) (within : IsWithin (length table) table) (a b : ℕ)
    (a_in : a < length table) (b_in : b < length table) where
  uppers : ℕ
  uppers = bit_and (get_or table a 0) (get_or table b 0)

  pub join_test : (have_join table a b ≡ true) ↔ HasJoin (length table) (FlowsTo table) a b
  unfolding uppers
  join_test = (forth, back)
    where
      above : (d : ℕ) → contains uppers d ≡ (flow_test table a d && flow_test table b d)
      above d = and_test (get_or table a 0) (get_or table b 0) d

      forth : have_join table a b ≡ true → HasJoin (length table) (FlowsTo table) a b
      forth h =
          let (c, p, q, t) = some_below (λ c.
          contains uppers c && bit_and (get_or table c 0) uppers
          == uppers) 0 (length table) h in
          let parts : (contains uppers c ≡ true)
          × ((bit_and (get_or table c 0) uppers == uppers) ≡ true) = and_parts
          (contains uppers c) (bit_and (get_or table c 0) uppers == uppers) t in
          let both : FlowsTo table a c × FlowsTo table b c =
          and_parts (flow_test table a c) (flow_test table b c) (sym (above c) ∙ parts.0) in (
            c,
            record {
              is_point = omega arith;
              above_first = both.0;
              above_second = both.1;
              least = λ d r f g. test_within (length table) uppers (get_or table c 0) parts.1 d r
                  (above d ∙ and_from (flow_test table a d) (flow_test table b d) f g);
            },
          )

      back : HasJoin (length table) (FlowsTo table) a b → have_join table a b ≡ true
      back (c, join) =
          any_below (λ c. contains uppers c && bit_and (get_or table c 0) uppers == uppers) 0
          (length table) c (omega arith) (omega (arith, join.is_point))
          (and_from (contains uppers c) (bit_and (get_or table c 0) uppers == uppers)
          (above c ∙ and_from (flow_test table a c) (flow_test table b c) join.above_first
          join.above_second)
          (within_test (length table) uppers (get_or table c 0)
          (omega (arith, and_le_l (get_or table a 0) (get_or table b 0), within a a_in))
          (λ d p u. let both : FlowsTo table a d
          × FlowsTo table b d = and_parts (flow_test table a d) (flow_test table b d)
          (sym (above d) ∙ u) in
          join.least d p both.0 both.1)))

-- ---- the table the other way round

-- the set has the points below a that flow to b, and no others
abbrev pub Gathered : List ℕ → ℕ → ℕ → ℕ → Type 0
Gathered table b a set = (k : ℕ) → contains set k ≡ (nat_lt k a && flow_test table k b)

abbrev pub gather : List ℕ → ℕ → ℕ → ℕ → ℕ
gather table b set a = if flow_test table a b then bit_or set (2 ^ a) else set

lt_more : (k a : ℕ) → (k ≡ a → ⊥) → nat_lt k (a + 1) ≡ nat_lt k a
lt_more k a ne = both_ways (nat_lt k (a + 1)) (nat_lt k a)
    (λ h. lt-ltb k a (let lt : k < a + 1 = ltb-true k (a + 1) h in omega arith))
    (λ h. lt-ltb k (a + 1) (let lt : k < a = ltb-true k a h in omega arith))

or_none : (t : Bool) → (t || false) ≡ t
or_none true = refl
or_none false = refl

gathered_more : (table : List ℕ) (b a set : ℕ) → Gathered table b a set →
    Gathered table b (a + 1) (gather table b set a)
gathered_more table b a set so_far k = by (flow_test table a b) refl (cases_eq k a)
  where
    by : (t : Bool) → flow_test table a b ≡ t → (k ≡ a) ⊎ (k ≡ a → ⊥)
        → contains (if t then bit_or set (2 ^ a) else set) k ≡
        (nat_lt k (a + 1) && flow_test table k b)
    by true e (inl is) =
        let own : contains (2 ^ a) k ≡ true =
        subst (λ j. contains (2 ^ a) j ≡ true) (sym is)
        (eq-eqb (bit_at (2 ^ a) a) 1 (bit_at-pow_same a)) in
        or_test set (2 ^ a) k ∙ or_right (contains set k) (contains (2 ^ a) k) own
        ∙ sym (and_from (nat_lt k (a + 1)) (flow_test table k b) (lt-ltb k (a + 1) (omega arith))
        (subst (λ j. flow_test table j b ≡ true) (sym is) e))
    by true e (inr ne) =
        or_test set (2 ^ a) k
        ∙ ap (λ t. contains set k || t) (ap (λ n. n == 1) (bit_at-pow_other a k ne))
        ∙ or_none (contains set k) ∙ so_far k
        ∙ ap (λ t. t && flow_test table k b) (sym (lt_more k a ne))
    by false e (inl is) =
        so_far k ∙ and_left (nat_lt k a) (flow_test table k b)
        (false_from_ne_true (nat_lt k a) (λ h. let lt : k < a = ltb-true k a h in omega arith))
        ∙ sym (and_right (nat_lt k (a + 1)) (flow_test table k b)
        (subst (λ j. flow_test table j b ≡ false) (sym is) e))
    by false e (inr ne) = so_far k ∙ ap (λ t. t && flow_test table k b) (sym (lt_more k a ne))

gathered_all : (table : List ℕ) (b a m set : ℕ) → Gathered table b a set
    → Gathered table b (a + m) (fold (gather table b) set (range_with_len a m))
gathered_all table b a zero set so_far =
    let e : a ≡ a + 0 = omega arith in subst (λ n. Gathered table b n set) e so_far
gathered_all table b a (suc m) set so_far =
    let e : a + 1 + m ≡ a + suc m = omega arith in
    subst (λ n. Gathered table b n
    (fold (gather table b) (gather table b set a) (range_with_len (a + 1) m))) e
    (gathered_all table b (a + 1) m (gather table b set a) (gathered_more table b a set so_far))

column_test : (table : List ℕ) (b k : ℕ) → k < length table →
    contains (flowing_to table b) k ≡ flow_test table k b
column_test table b k p =
    let e : 0 + length table ≡ length table = omega arith in
    subst (λ n. Gathered table b n (flowing_to table b)) e
    (gathered_all table b 0 (length table) 0 none) k
    ∙ ap (λ t. t && flow_test table k b) (lt-ltb k (length table) p)
  where
    none : Gathered table b 0 0
    none j =
        ap (λ n. n == 1) (bit_at-zero j)
        ∙ sym (and_left (nat_lt j 0) (flow_test table j b)
        (false_from_ne_true (nat_lt j 0) (λ h. let lt : j < 0 = ltb-true j 0 h in omega arith)))

pub turned_length : (table : List ℕ) → length (turned table) ≡ length table
turned_length table = length-map-range_with_len (flowing_to table) 0 (length table)

pub turned_test : (table : List ℕ) →
    EachPair (length table) (λ a b. flow_test (turned table) a b ≡ flow_test table b a)
turned_test table a b p q =
    ap (λ row. contains row b)
    (get_or-map-range_with_len (flowing_to table) 0 (length table) a a 0 p (omega arith))
    ∙ column_test table a b q
