-- Numbers put one by one into an ascending list.
use Rattle.std.proofs.Common.{◌≡◌, ℕ, zero, suc, ◌+◌, ◌<◌, ◌≤◌, Bool, true, false, cond, ◌||◌, ◌==◌}
use Rattle.std.proofs.Common.{List, [], ◌∷◌, filter, fold, nat_cmp, Less, Equal}
use Rattle.std.proofs.Common.{Greater, ⊎_elim, refl, sym, ap, ap₂, ◌∙◌, arith}
use Rattle.std.proofs.Common.{All, eq-eqb, ne_eqb, lt-ltb, le-ltb}
use Rattle.std.specs.BTreeSet.{insert_key}
use Rattle.std.specs.List.{range_with_len}
use Rattle.std.proofs.lemmas.Bool.{cases_eq}
use Rattle.std.proofs.lemmas.List.Elements.{All-head, All-tail}
use Rattle.std.specs.Ordering.{match_ordering}
use Rattle.sv_flat.specs.Sets.{holds, those}

pub filter_alike : (f g : ℕ → Bool) → ((t : ℕ) → f t ≡ g t) → (xs : List ℕ) →
    filter f xs ≡ filter g xs
filter_alike f g same [] = refl
filter_alike f g same (x ∷ xs) =
    ap₂ (λ b ys. cond b (x ∷ ys) ys) (same x) (filter_alike f g same xs)

pub filter_none : (xs : List ℕ) → filter (λ (t : ℕ). false) xs ≡ []
filter_none [] = refl
filter_none (x ∷ xs) = filter_none xs

pub compare_less : (k a : ℕ) → k < a → nat_cmp k a ≡ Less
compare_less k a h = ap (λ b. cond b Less (cond (k == a) Equal Greater)) (lt-ltb k a h)

pub compare_equal : (k a : ℕ) → k ≡ a → nat_cmp k a ≡ Equal
compare_equal k a h =
    ap₂ (λ b c. cond b Less (cond c Equal Greater)) (le-ltb k a (omega arith)) (eq-eqb k a h)

pub compare_greater : (k a : ℕ) → a < k → nat_cmp k a ≡ Greater
compare_greater k a h =
    ap₂ (λ b c. cond b Less (cond c Equal Greater)) (le-ltb k a (omega arith))
    (ne_eqb k a (λ e. absurd (omega arith)))

module _ (k : ℕ) (test : ℕ → Bool) where
  abbrev with_k : ℕ → Bool
  with_k t = test t || (k == t)

  above : (a n : ℕ) → k < a
      → insert_key nat_cmp (filter test (range_with_len a n)) k
      ≡ k ∷ filter test (range_with_len a n)
  above a zero h = refl
  above a (suc n) h = by_test (test a) (above (a + 1) n (omega arith))
    where
      by_test : (c : Bool)
          → insert_key nat_cmp (filter test (range_with_len (a + 1) n)) k
          ≡ k ∷ filter test (range_with_len (a + 1) n)
          → insert_key nat_cmp (cond c (a ∷ filter test (range_with_len (a + 1) n))
          (filter test (range_with_len (a + 1) n))) k
          ≡ k ∷ cond c (a ∷ filter test (range_with_len (a + 1) n))
          (filter test (range_with_len (a + 1) n))
      by_test true rest =
          let xs = filter test (range_with_len (a + 1) n) in
          ap (λ o. match_ordering o (k ∷ a ∷ xs) (a ∷ xs) (a ∷ insert_key nat_cmp xs k))
          (compare_less k a h)
      by_test false rest = rest

  none_there : (a n : ℕ) → k < a
      → filter with_k (range_with_len a n) ≡ filter test (range_with_len a n)
  none_there a zero h = refl
  none_there a (suc n) h = ap₂ (λ b xs. cond (test a || b) (a ∷ xs) xs)
      (ne_eqb k a (λ e. absurd (omega arith))) (none_there (a + 1) n (omega arith))
      ∙ ap (λ b. cond b (a ∷ filter test (range_with_len (a + 1) n))
      (filter test (range_with_len (a + 1) n))) (or_none (test a))
    where
      or_none : (b : Bool) → (b || false) ≡ b
      or_none true = refl
      or_none false = refl

  pub put_in_range : (a n : ℕ) → a ≤ k → k < a + n
      → insert_key nat_cmp (filter test (range_with_len a n)) k
      ≡ filter with_k (range_with_len a n)
  put_in_range a zero low high = absurd (omega arith)
  put_in_range a (suc n) low high = ⊎_elim
      (λ same. here same (test a) refl)
      (λ other. later (λ less. put_in_range (a + 1) n (omega arith) (omega arith))
      (omega arith) (test a) refl)
      (cases_eq k a)
    where
      rest : List ℕ
      rest = filter test (range_with_len (a + 1) n)

      here : k ≡ a → (c : Bool) → test a ≡ c
          → insert_key nat_cmp (cond c (a ∷ filter test (range_with_len (a + 1) n))
          (filter test (range_with_len (a + 1) n))) k
          ≡ cond (test a || (k == a)) (a ∷ filter with_k (range_with_len (a + 1) n))
          (filter with_k (range_with_len (a + 1) n))
      here same true is =
          let xs = filter test (range_with_len (a + 1) n) in
          ap (λ o. match_ordering o (k ∷ a ∷ xs) (a ∷ xs) (a ∷ insert_key nat_cmp xs k))
          (compare_equal k a same)
          ∙ sym (ap₂ (λ b ys. cond (b || (k == a)) (a ∷ ys) ys) is
          (none_there (a + 1) n (omega arith)))
      here same false is =
          let xs = filter test (range_with_len (a + 1) n) in
          above (a + 1) n (omega arith)
          ∙ ap (λ x. x ∷ xs) same
          ∙ ap (λ ys. a ∷ ys) (sym (none_there (a + 1) n (omega arith)))
          ∙ sym (ap₂ (λ b c. cond (b || c) (a ∷ filter with_k (range_with_len (a + 1) n))
          (filter with_k (range_with_len (a + 1) n))) is (eq-eqb k a same))

      later : (a < k → insert_key nat_cmp (filter test (range_with_len (a + 1) n)) k
          ≡ filter with_k (range_with_len (a + 1) n))
          → a < k → (c : Bool) → test a ≡ c
          → insert_key nat_cmp (cond c (a ∷ filter test (range_with_len (a + 1) n))
          (filter test (range_with_len (a + 1) n))) k
          ≡ cond (test a || (k == a)) (a ∷ filter with_k (range_with_len (a + 1) n))
          (filter with_k (range_with_len (a + 1) n))
      later step less true is =
          let xs = filter test (range_with_len (a + 1) n) in
          ap (λ o. match_ordering o (k ∷ a ∷ xs) (a ∷ xs) (a ∷ insert_key nat_cmp xs k))
          (compare_greater k a less)
          ∙ ap (λ ys. a ∷ ys) (step less)
          ∙ sym (ap (λ b. cond (b || (k == a)) (a ∷ filter with_k (range_with_len (a + 1) n))
          (filter with_k (range_with_len (a + 1) n))) is)
      later step less false is =
          step less
          ∙ sym (ap₂ (λ b c. cond (b || c) (a ∷ filter with_k (range_with_len (a + 1) n))
          (filter with_k (range_with_len (a + 1) n))) is
          (ne_eqb k a (λ e. absurd (omega arith))))

all_put : (n : ℕ) (names : List ℕ) (test : ℕ → Bool) → All (λ t. t < n) names
    → fold (insert_key nat_cmp) (those n test) names ≡ those n (λ t. test t || holds names t)
all_put n [] test below = filter_alike test (λ t. test t || false) (λ t. or_none (test t))
    (range_with_len 0 n)
  where
    or_none : (b : Bool) → b ≡ (b || false)
    or_none true = refl
    or_none false = refl
all_put n (x ∷ names) test below =
    let first : x < n = All-head (λ (t : ℕ). t < n) x names below in
    ap (λ xs. fold (insert_key nat_cmp) xs names)
    (put_in_range x test 0 n (omega arith) (omega arith))
    ∙ all_put n names (λ t. test t || (x == t)) (All-tail (λ (t : ℕ). t < n) x names below)
    ∙ filter_alike (λ t. (test t || (x == t)) || holds names t)
    (λ t. test t || ((x == t) || holds names t)) (λ t. or_moved (test t) (x == t) (holds names t))
    (range_with_len 0 n)
  where
    or_moved : (a b c : Bool) → ((a || b) || c) ≡ (a || (b || c))
    or_moved true b c = refl
    or_moved false b c = refl

-- put into the empty list, they are those among the numbers below n that are among them
pub numbers_put : (n : ℕ) (names : List ℕ) → All (λ t. t < n) names
    → fold (insert_key nat_cmp) [] names ≡ those n (holds names)
numbers_put n names below =
    ap (λ xs. fold (insert_key nat_cmp) xs names) (sym (filter_none (range_with_len 0 n)))
    ∙ all_put n names (λ (t : ℕ). false) below
