-- Sums over lists and over the numbers below one.
use Rattle.std.proofs.Common.{◌≡◌, ℕ, zero, suc, ◌+◌, ◌<◌, ◌≤◌, Bool, true, false, cond, ◌||◌}
use Rattle.std.proofs.Common.{◌&&◌, ◌==◌, List, [], ◌∷◌, length, map, filter, refl, sym, ap}
use Rattle.std.proofs.Common.{min, ap₂, ◌∙◌, ⊎_elim, arith, subst, eq-or-lt_of_le}
use Rattle.std.specs.Prelude.{sum, Contains, IsTrue, IsFalse}
use Rattle.std.specs.List.{range_with_len}
use Rattle.std.proofs.lemmas.Bool.{false≢true, eqb-true, eq-eqb, ne_eqb}
use Rattle.std.proofs.lemmas.List.FromFn.{sum_by-map-range_with_len_more}
use Rattle.sv_system.proofs.Lists.{Contains-head, Contains-later, Contains-nil, Contains-cases}
use Rattle.sv_flat.specs.Sets.{holds}
use Rattle.sv_flat.proofs.LeastSets.{holds-from_Contains}
use Rattle.sv_encoding.specs.GivenMeanings.{EachOnce}
use Rattle.sv_encoding.specs.Sizes.{gate_chain_size}
use Rattle.sv_encoding_laws.proofs.GateCounts.{mapped_more}
use Rattle.sv_encoding_laws.proofs.Places.{once_rest, once_head}

-- ---- sums up to a most

-- one more
pub capped_more : (sum one whole total more result : ℕ) → total ≡ min sum 4194305
    → more ≡ min one 4194305 → result ≡ min (total + more) 4194305 → whole ≡ sum + one
    → result ≡ min whole 4194305
capped_more sum one whole total more result so_far here added is = omega arith

-- none more
pub capped_same : (sum one whole total : ℕ) → total ≡ min sum 4194305 → one ≡ 0
    → whole ≡ sum + one → total ≡ min whole 4194305
capped_same sum one whole total so_far none is = omega arith

-- the frames: variable 1 and both cycles
pub capped_frames : (here later a b result : ℕ) → a ≡ min here 4194305 → b ≡ min later 4194305
    → result ≡ min (min (1 + a) 4194305 + b) 4194305
    → result ≡ min (1 + here + later) 4194305
capped_frames here later a b result one two is = omega arith

-- the parts of an encoding behind its frames, each as far as one over the most
pub capped_parts : (frames conditions labels goal a c d e result : ℕ) → a ≡ min frames 4194305
    → c ≡ min conditions 4194305 → d ≡ min labels 4194305 → e ≡ min goal 4194305
    → result ≡ min (a + min (min (c + d) 4194305 + e) 4194305) 4194305
    → result ≡ min (frames + conditions + labels + goal) 4194305
capped_parts frames conditions labels goal a c d e result one three four five is =
    omega arith

-- a chain of gates
pub capped_chain : (n : ℕ) →
    min (gate_chain_size (min n 4194305)) 4194305 ≡ min (gate_chain_size n) 4194305
capped_chain n = omega arith

-- none at all
pub capped_none : (n : ℕ) → (min n 4194305 == 0) ≡ (n == 0)
capped_none zero = refl
capped_none (suc n) =
    ne_eqb (min (suc n) 4194305) 0 (λ none. omega (arith, none))
    ∙ sym (ne_eqb (suc n) 0 (λ none. omega (arith, none)))

-- few enough
pub capped_few : (told size : ℕ) → told ≡ min size 4194305 → told ≤ 4194304 → size ≤ 4194304
capped_few told size is few = omega arith

-- ---- ranges

-- one number more
pub below_more : (f : ℕ → ℕ) (n : ℕ) →
    sum (map f (range_with_len 0 (n + 1))) ≡ sum (map f (range_with_len 0 n)) + f n
below_more f n = sum_by-map-range_with_len_more (λ k. k) f 0 n n (omega arith)

-- functions that are equal on the range have equal sums
pub range_same : (f g : ℕ → ℕ) (a n : ℕ) → ((k : ℕ) → a ≤ k → k < a + n → f k ≡ g k) →
    sum (map f (range_with_len a n)) ≡ sum (map g (range_with_len a n))
range_same f g a zero same = refl
range_same f g a (suc n) same =
    mapped_more f a (range_with_len (a + 1) n)
    ∙ ap₂ ◌+◌ (same a (omega arith) (omega arith))
    (range_same f g (a + 1) n (λ k low high. same k (omega arith) (omega arith)))
    ∙ sym (mapped_more g a (range_with_len (a + 1) n))

-- no number of a range passes
none_in_range : (test : ℕ → Bool) (a n : ℕ) →
    ((k : ℕ) → a ≤ k → k < a + n → IsFalse (test k)) → filter test (range_with_len a n) ≡ []
none_in_range test a zero none = refl
none_in_range test a (suc n) none =
    ap (λ c. cond c (a ∷ filter test (range_with_len (a + 1) n))
    (filter test (range_with_len (a + 1) n))) (none a (omega arith) (omega arith))
    ∙ none_in_range test (a + 1) n (λ k low high. none k (omega arith) (omega arith))

-- one number alone of a range passes
pub one_in_range : (test : ℕ → Bool) (s a n : ℕ) → a ≤ s → s < a + n → IsTrue (test s) →
    ((k : ℕ) → a ≤ k → k < a + n → IsTrue (test k) → k ≡ s) →
    filter test (range_with_len a n) ≡ s ∷ []
one_in_range test s a zero low high passes only = absurd (omega arith)
one_in_range test s a (suc n) low high passes only = ⊎_elim
    (λ same.
    ap (λ c. cond c (a ∷ rest) rest) (ap test same ∙ passes)
    ∙ ap₂ (λ k ks. k ∷ ks) same
    (none_in_range test (a + 1) n (λ k l h. fails k (omega arith) (omega arith)
    (λ e. let k_is : k ≡ s = e in omega (arith, k_is, same)) (test k) refl)))
    (λ less.
    ap (λ c. cond c (a ∷ rest) rest) (fails a (omega arith) (omega arith)
    (λ e. let a_is : a ≡ s = e in omega (arith, a_is)) (test a) refl)
    ∙ one_in_range test s (a + 1) n (omega arith) (omega arith) passes
    (λ k l h t. only k (omega arith) (omega arith) t))
    (eq-or-lt_of_le low)
  where
    rest : List ℕ
    rest = filter test (range_with_len (a + 1) n)

    fails : (k : ℕ) → a ≤ k → k < a + suc n → (k ≡ s → ⊥) → (d : Bool) → test k ≡ d →
        test k ≡ false
    fails k l h other true e = absurd (other (only k l h e))
    fails k l h other false e = e

-- ---- filters

-- a filter leaves out what adds nothing
pub kept_sum : (f : ℕ → ℕ) (test : ℕ → Bool) → ((k : ℕ) → test k ≡ false → f k ≡ 0) →
    (xs : List ℕ) → sum (map f (filter test xs)) ≡ sum (map f xs)
kept_sum f test none [] = refl
kept_sum f test none (x ∷ xs) =
    by (test x) refl (kept_sum f test none xs) ∙ sym (mapped_more f x xs)
  where
    by : (c : Bool) → test x ≡ c → sum (map f (filter test xs)) ≡ sum (map f xs) →
        sum (map f (cond c (x ∷ filter test xs) (filter test xs))) ≡ f x + sum (map f xs)
    by true is rest = mapped_more f x (filter test xs) ∙ ap (λ n. f x + n) rest
    by false is rest = omega (arith, rest, none x is)

-- a sum over what passes
pub passing_sum : (f : ℕ → ℕ) (test : ℕ → Bool) (xs : List ℕ) →
    sum (map f (filter test xs)) ≡ sum (map (λ k. cond (test k) (f k) 0) xs)
passing_sum f test [] = refl
passing_sum f test (x ∷ xs) =
    by (test x) (passing_sum f test xs) ∙ sym (mapped_more (λ k. cond (test k) (f k) 0) x xs)
  where
    by : (c : Bool) →
        sum (map f (filter test xs)) ≡ sum (map (λ k. cond (test k) (f k) 0) xs) →
        sum (map f (cond c (x ∷ filter test xs) (filter test xs)))
        ≡ cond c (f x) 0 + sum (map (λ k. cond (test k) (f k) 0) xs)
    by true rest = mapped_more f x (filter test xs) ∙ ap (λ n. f x + n) rest
    by false rest = omega (arith, rest)

-- how many pass two tests
pub passing_both : (first second : ℕ → Bool) (xs : List ℕ) →
    length (filter second (filter first xs))
    ≡ sum (map (λ k. cond (first k && second k) 1 0) xs)
passing_both first second [] = refl
passing_both first second (x ∷ xs) =
    by (first x) (second x) refl (passing_both first second xs)
    ∙ sym (mapped_more (λ k. cond (first k && second k) 1 0) x xs)
  where
    kept : List ℕ
    kept = filter first xs

    by : (c d : Bool) → second x ≡ d →
        length (filter second kept) ≡ sum (map (λ k. cond (first k && second k) 1 0) xs) →
        length (filter second (cond c (x ∷ kept) kept))
        ≡ cond (c && d) 1 0 + sum (map (λ k. cond (first k && second k) 1 0) xs)
    by true true is rest =
        ap (λ e. length (cond e (x ∷ filter second kept) (filter second kept))) is
        ∙ omega (arith, rest)
    by true false is rest =
        ap (λ e. length (cond e (x ∷ filter second kept) (filter second kept))) is
        ∙ omega (arith, rest)
    by false d is rest = omega (arith, rest)

-- ---- lists with the same members

module _ (f : ℕ → ℕ) (c : ℕ) (rest : List ℕ) (out : IsFalse (holds rest c)) where
  abbrev Both : List ℕ → List ℕ
  Both xs = filter (holds (c ∷ rest)) xs

  abbrev Rest : List ℕ → List ℕ
  Rest xs = filter (holds rest) xs

  other_head : (x : ℕ) → (c ≡ x → ⊥) → holds (c ∷ rest) x ≡ holds rest x
  other_head x other = by (c == x) refl
    where
      by : (b : Bool) → (c == x) ≡ b → (b || holds rest x) ≡ holds rest x
      by true is = absurd (other (eqb-true c x is))
      by false is = refl

  -- a list without the number
  not_there : (xs : List ℕ) → (Contains xs c → ⊥) → Both xs ≡ Rest xs
  not_there [] none = refl
  not_there (x ∷ xs) none =
      ap₂ (λ b ys. cond b (x ∷ ys) ys)
      (other_head x (λ same. none (subst (Contains (x ∷ xs)) (sym same) (Contains-head x xs))))
      (not_there xs (λ at. none (Contains-later x xs c at)))

  -- a list with the number once
  there_once : (xs : List ℕ) → EachOnce xs → Contains xs c →
      sum (map f (Both xs)) ≡ f c + sum (map f (Rest xs))
  there_once [] once at = absurd (Contains-nil c at)
  there_once (x ∷ xs) once at = ⊎_elim
      (λ same. here same)
      (λ later. further later (there_once xs (once_rest x xs once) later))
      (Contains-cases x xs c at)
    where
      here : x ≡ c → sum (map f (Both (x ∷ xs))) ≡ f c + sum (map f (Rest (x ∷ xs)))
      here same =
          let gone : Contains xs c → ⊥ = λ later.
          false≢true (sym (once_head x xs once)
          ∙ holds-from_Contains xs x (subst (Contains xs) (sym same) later)) in
          ap (λ b. sum (map f (cond b (x ∷ Both xs) (Both xs))))
          (ap (λ b. b || holds rest x) (eq-eqb c x (sym same)))
          ∙ mapped_more f x (Both xs)
          ∙ ap₂ (λ k ys. f k + sum (map f ys)) same (not_there xs gone)
          ∙ ap (λ b. f c + sum (map f (cond b (x ∷ Rest xs) (Rest xs))))
          (sym (ap (holds rest) same ∙ out))

      further : Contains xs c → sum (map f (Both xs)) ≡ f c + sum (map f (Rest xs)) →
          sum (map f (Both (x ∷ xs))) ≡ f c + sum (map f (Rest (x ∷ xs)))
      further later rest_is =
          let other : c ≡ x → ⊥ = λ same.
          false≢true (sym (once_head x xs once)
          ∙ holds-from_Contains xs x (subst (Contains xs) same later)) in
          ap (λ b. sum (map f (cond b (x ∷ Both xs) (Both xs)))) (other_head x other)
          ∙ by (holds rest x) rest_is
        where
          by : (b : Bool) → sum (map f (Both xs)) ≡ f c + sum (map f (Rest xs)) →
              sum (map f (cond b (x ∷ Both xs) (Both xs)))
              ≡ f c + sum (map f (cond b (x ∷ Rest xs) (Rest xs)))
          by true e =
              mapped_more f x (Both xs)
              ∙ omega (arith, e, mapped_more f x (Rest xs))
          by false e = e

none_held : (xs : List ℕ) → filter (holds []) xs ≡ []
none_held [] = refl
none_held (x ∷ xs) = none_held xs

-- Of a list with each number once, and of another one: what the first has of the second, in the
-- first's order, sums up to what the second has of the first, in the second's.
pub turned_sum : (f : ℕ → ℕ) (listed : List ℕ) → EachOnce listed → (test : ℕ → Bool) →
    ((k : ℕ) → IsTrue (test k) → Contains listed k) →
    ((k : ℕ) → Contains listed k → IsTrue (test k)) →
    (set : List ℕ) → EachOnce set →
    sum (map f (filter (holds set) listed)) ≡ sum (map f (filter test set))
turned_sum f listed once test has only [] set_once = ap (λ xs. sum (map f xs)) (none_held listed)
turned_sum f listed once test has only (c ∷ set) set_once =
    by (test c) refl (turned_sum f listed once test has only set (once_rest c set set_once))
  where
    out : IsFalse (holds set c)
    out = once_head c set set_once

    by : (b : Bool) → test c ≡ b →
        sum (map f (filter (holds set) listed)) ≡ sum (map f (filter test set)) →
        sum (map f (filter (holds (c ∷ set)) listed))
        ≡ sum (map f (cond b (c ∷ filter test set) (filter test set)))
    by true is rest =
        there_once f c set out listed once (has c is)
        ∙ ap (λ n. f c + n) rest
        ∙ sym (mapped_more f c (filter test set))
    by false is rest =
        ap (λ xs. sum (map f xs)) (not_there f c set out listed
        (λ at. false≢true (sym is ∙ only c at)))
        ∙ rest
