-- What the table's bits say after each change.
use Rattle.std.proofs.Common.{◌≡◌, ℕ, zero, suc, ◌+◌, ◌*◌, ◌%◌, ◌^◌, ◌<◌, max, ◌⊎◌, inl, inr, Bool}
use Rattle.std.proofs.Common.{true, false, cond, ◌||◌, ◌&&◌, ◌==◌, List, [], ◌∷◌, ◌++◌, length}
use Rattle.std.proofs.Common.{get_or, refl, sym, ap, ◌∙◌, subst, arith}
use Rattle.std.specs.Int.{bit_at}
use Rattle.std.specs.Prelude.{bit_or}
use Rattle.std.proofs.lemmas.Nat.{pow_below, or_lt, one_shl}
use Rattle.std.proofs.lemmas.Nat.Bits.{bit_at_or, bit_at-lt, bit_at-pow_same, bit_at-pow_other}
use Rattle.std.proofs.lemmas.Nat.Bits.{bit_at_above}
use Rattle.std.proofs.lemmas.Bool.{cases_eq, cond_both, eqb-true, eq-eqb, or_cases, or_left}
use Rattle.std.proofs.lemmas.Bool.{or_right, and_parts, and_from}
use Rattle.sv_lattice.specs.Flows.{Flows, EachPair}
use Rattle.sv_lattice.specs.Tables.{flow_test, FlowsTo, IsWithin, IsTableOf}
use Rattle.sv_lattice.proofs.FlowLemmas.{flows_alone, flows_on, flows_over, flows_back, FlowsOver}

-- where an operation on numbers does on each two bits what an operation on tests does, it does so
-- on any two numbers below 2
pub on_bits : (number : ℕ → ℕ → ℕ) (test : Bool → Bool → Bool)
    → (number 0 0 == 1) ≡ test false false → (number 0 1 == 1) ≡ test false true
    → (number 1 0 == 1) ≡ test true false → (number 1 1 == 1) ≡ test true true
    → (x y : ℕ) → x < 2 → y < 2 → (number x y == 1) ≡ test (x == 1) (y == 1)
on_bits number test neither second first both zero zero p q = neither
on_bits number test neither second first both zero (suc zero) p q = second
on_bits number test neither second first both (suc zero) zero p q = first
on_bits number test neither second first both (suc zero) (suc zero) p q = both
on_bits number test neither second first both (suc (suc x)) y p q = absurd (omega arith)
on_bits number test neither second first both zero (suc (suc y)) p q = absurd (omega arith)
on_bits number test neither second first both (suc zero) (suc (suc y)) p q = absurd (omega arith)

pub or_test : (r s b : ℕ) → (bit_at (bit_or r s) b == 1) ≡ (bit_at r b == 1 || bit_at s b == 1)
or_test r s b =
    ap (λ n. n == 1) (bit_at_or r s b)
    ∙ on_bits max ◌||◌ refl refl refl refl (bit_at r b) (bit_at s b) (bit_at-lt r b) (bit_at-lt s b)

-- ---- the table of no pair

-- the bit of a power of two is set at its exponent alone
pow_bit : (a b : ℕ) → (bit_at (2 ^ a) b == 1) ≡ true → (b ≡ a) ⊎ (b ≡ a → ⊥) → a ≡ b
pow_bit a b h (inl e) = sym e
pow_bit a b h (inr ne) =
    let one : bit_at (2 ^ a) b ≡ 1 = eqb-true (bit_at (2 ^ a) b) 1 h in
    absurd (omega (arith, bit_at-pow_other a b ne))

pow_bit_own : (a b : ℕ) → a ≡ b → (bit_at (2 ^ a) b == 1) ≡ true
pow_bit_own a b e =
    eq-eqb (bit_at (2 ^ a) b) 1 (subst (λ k. bit_at (2 ^ a) k ≡ 1) e (bit_at-pow_same a))

pub alone_table : (n : ℕ) (table : List ℕ) → length table ≡ n →
    ((k : ℕ) → k < n → get_or table k 0 ≡ 2 ^ k) → IsTableOf n [] table
alone_table n table size rows = record {
  size = size;
  within = λ k h. let row : get_or table k 0 ≡ 2 ^ k = rows k h in omega (arith, pow_below k n h);
  exact = λ a b p q. (forth a b p, back a b p);
}
  where
    forth : (a b : ℕ) → a < n → FlowsTo table a b → Flows [] a b
    forth a b p h =
        ([], pow_bit a b (subst (λ row. (bit_at row b == 1) ≡ true) (rows a p) h) (cases_eq b a))

    back : (a b : ℕ) → a < n → Flows [] a b → FlowsTo table a b
    back a b p f =
        subst (λ row. (bit_at row b == 1) ≡ true) (sym (rows a p))
        (pow_bit_own a b (flows_alone a b f))

-- ---- one pair more

-- a row after the points of `gained` came to each row with the point `from`
abbrev pub gains : ℕ → ℕ → ℕ → ℕ
gains gained from row = cond (bit_at row from == 1) (bit_or row gained) row

or_false : (t : Bool) → t ≡ (t || false)
or_false true = refl
or_false false = refl

gains_at : (t : Bool) (gained row b : ℕ) →
    (bit_at (cond t (bit_or row gained) row) b == 1) ≡
    (bit_at row b == 1 || (t && bit_at gained b == 1))
gains_at true gained row b = or_test row gained b
gains_at false gained row b = or_false (bit_at row b == 1)

pub gains_test : (gained from row b : ℕ) →
    (bit_at (gains gained from row) b == 1) ≡
    (bit_at row b == 1 || (bit_at row from == 1 && bit_at gained b == 1))
gains_test gained from row b = gains_at (bit_at row from == 1) gained row b

pub gains_lt : (n gained from row : ℕ) → row < 2 ^ n → gained < 2 ^ n →
    gains gained from row < 2 ^ n
gains_lt n gained from row p q =
    cond_both (bit_at row from == 1) (bit_or row gained) row (λ x. x < 2 ^ n) (λ e.
    or_lt n row gained p q) (λ e. p)

-- what the rows say after a new flow from x to y
abbrev pub Adds : ℕ → ℕ → List ℕ → List ℕ → ℕ → ℕ → Type 0
Adds x y old new a b =
    flow_test new a b ≡ (flow_test old a b || (flow_test old a x && flow_test old y b))

module _ (n : ℕ) (pairs : List (ℕ × ℕ)) (x y : ℕ) (old : List ℕ) (x_in : x < n) (y_in : y < n)
    (of_pairs : IsTableOf n pairs old) where
  over_old : (a b : ℕ) → a < n → b < n → FlowsOver pairs x y a b →
      (flow_test old a b || (flow_test old a x && flow_test old y b)) ≡ true
  over_old a b p q (inl f) =
      or_left (flow_test old a b) (flow_test old a x && flow_test old y b)
      ((of_pairs.exact a b p q).1 f)
  over_old a b p q (inr f) =
      or_right (flow_test old a b) (flow_test old a x && flow_test old y b)
      (and_from (flow_test old a x) (flow_test old y b) ((of_pairs.exact a x p x_in).1 f.0)
      ((of_pairs.exact y b y_in q).1 f.1))

  old_over : (a b : ℕ) → a < n → b < n → (flow_test old a b ≡ true)
      ⊎ ((flow_test old a x && flow_test old y b) ≡ true) → FlowsOver pairs x y a b
  old_over a b p q (inl h) = inl ((of_pairs.exact a b p q).0 h)
  old_over a b p q (inr h) =
      let parts : (flow_test old a x ≡ true) × (flow_test old y b ≡ true) =
      and_parts (flow_test old a x) (flow_test old y b) h in
      inr ((of_pairs.exact a x p x_in).0 parts.0, (of_pairs.exact y b y_in q).0 parts.1)

  pub added_table : (new : List ℕ) → length new ≡ n → IsWithin n new →
      EachPair n (Adds x y old new) → IsTableOf n (pairs ++ (x, y) ∷ []) new
  added_table new size within adds = record {
    size = size;
    within = within;
    exact = λ a b p q. (
      λ h. flows_back pairs x y a b
          (old_over a b p q (or_cases (flow_test old a b) (flow_test old a x && flow_test old y b)
          (sym (adds a b p q) ∙ h))),
      λ f. adds a b p q ∙ over_old a b p q (flows_over pairs x y a b f),
    );
  }

  -- a pair that the table has already adds nothing
  known_link : FlowsTo old x y → (a b : ℕ) → FlowsOver pairs x y a b → Flows pairs a b
  known_link h a b (inl f) = f
  known_link h a b (inr f) =
      flows_on pairs a x b f.0 (flows_on pairs x y b ((of_pairs.exact x y x_in y_in).0 h) f.1)

  pub known_table : FlowsTo old x y → IsTableOf n (pairs ++ (x, y) ∷ []) old
  known_table h = record {
    size = of_pairs.size;
    within = of_pairs.within;
    exact = λ a b p q. (
      λ t. flows_back pairs x y a b (inl ((of_pairs.exact a b p q).0 t)),
      λ f. (of_pairs.exact a b p q).1 (known_link h a b (flows_over pairs x y a b f)),
    );
  }

-- ---- one column

-- the row has the points below a that flow to the given one, and no others
pub record ColumnBelow (table : List ℕ) (point row a : ℕ) : Type 0 where
  pub within : row < 2 ^ a
  pub done : (k : ℕ) → k < a → (bit_at row k == 1) ≡ flow_test table k point

-- the bit of a power of two at another place is not set
pow_other : (a b : ℕ) → (b ≡ a → ⊥) → (bit_at (2 ^ a) b == 1) ≡ false
pow_other a b ne = ap (λ n. n == 1) (bit_at-pow_other a b ne)

module _ (table : List ℕ) (point row a : ℕ) (so_far : ColumnBelow table point row a) where
  more_below : flow_test table a point ≡ true → (k : ℕ) → k < a + 1 → (k ≡ a) ⊎ (k ≡ a → ⊥) →
      (bit_at (bit_or row (2 ^ a)) k == 1) ≡ flow_test table k point
  more_below h k p (inl e) =
      subst (λ j. (bit_at (bit_or row (2 ^ a)) j == 1) ≡ flow_test table j point) (sym e)
      (or_test row (2 ^ a) a
      ∙ or_right (bit_at row a == 1) (bit_at (2 ^ a) a == 1) (pow_bit_own a a refl) ∙ sym h)
  more_below h k p (inr ne) =
      or_test row (2 ^ a) k ∙ ap (λ t. bit_at row k == 1 || t) (pow_other a k ne)
      ∙ sym (or_false (bit_at row k == 1)) ∙ so_far.done k (omega arith)

  pub column_more : (new : ℕ) → new ≡ bit_or row (1 * 2 ^ a % 2 ^ 32) → a < 32 →
      flow_test table a point ≡ true → ColumnBelow table point new (a + 1)
  column_more new e small h =
      let new_is : new ≡ bit_or row (2 ^ a) = e ∙ ap (bit_or row) (one_shl a 32 small) in
      let low : 2 ^ a < 2 ^ (a + 1) = pow_below a (a + 1) (omega arith) in
      let old_low : row < 2 ^ (a + 1) = omega (arith, so_far.within) in
      subst (λ r. ColumnBelow table point r (a + 1)) (sym new_is)
      (record {
        within = or_lt (a + 1) row (2 ^ a) old_low low;
        done = λ k p. more_below h k p (cases_eq k a);
      })

  same_below : flow_test table a point ≡ false → (k : ℕ) → k < a + 1 → (k ≡ a) ⊎ (k ≡ a → ⊥) →
      (bit_at row k == 1) ≡ flow_test table k point
  same_below h k p (inl e) =
      subst (λ j. (bit_at row j == 1) ≡ flow_test table j point) (sym e)
      (ap (λ n. n == 1) (bit_at_above row a a so_far.within (omega arith)) ∙ sym h)
  same_below h k p (inr ne) = so_far.done k (omega arith)

  pub column_same : (new : ℕ) → new ≡ row → flow_test table a point ≡ false →
      ColumnBelow table point new (a + 1)
  column_same new e h =
      let low : 2 ^ a < 2 ^ (a + 1) = pow_below a (a + 1) (omega arith) in
      subst (λ r. ColumnBelow table point r (a + 1)) (sym e)
      (record {
        within = omega (arith, so_far.within);
        done = λ k p. same_below h k p (cases_eq k a);
      })
