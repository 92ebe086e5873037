-- How often a number stands in a list.
use Rattle.std.proofs.Common.{◌≡◌, ℕ, ◌+◌, Bool, true, false, cond, ◌||◌, ◌==◌, not, min}
use Rattle.std.proofs.Common.{List, [], ◌∷◌, ◌++◌, refl, sym, ap, ap₂, ◌∙◌, arith, zero-add, ne_eqb}
use Rattle.sv_flat.specs.Sets.{holds}

-- one where a test passes, and a count but where it does
abbrev pub one_at : Bool → ℕ
one_at b = cond b 1 0

abbrev pub unless : Bool → ℕ → ℕ
unless b k = cond b 0 k

pub either_same : (b : Bool) (k : ℕ) → cond b k k ≡ k
either_same true k = refl
either_same false k = refl

-- how often it stands there, each time counted so many times
abbrev pub weigh : (times : ℕ) → List ℕ → ℕ → ℕ
weigh times [] x = 0
weigh times (y ∷ ys) x = cond (y == x) times 0 + weigh times ys x

abbrev pub count : List ℕ → ℕ → ℕ
count xs x = weigh 1 xs x

pub weigh_append : (k : ℕ) (xs ys : List ℕ) (x : ℕ) →
    weigh k (xs ++ ys) x ≡ weigh k xs x + weigh k ys x
weigh_append k [] ys x = sym (zero-add (weigh k ys x))
weigh_append k (y ∷ xs) ys x =
    ap (λ m. cond (y == x) k 0 + m) (weigh_append k xs ys x) ∙ omega arith

pub weigh_none : (xs : List ℕ) (x : ℕ) → weigh 0 xs x ≡ 0
weigh_none [] x = refl
weigh_none (y ∷ xs) x = ap₂ (λ a b. a + b) (either_same (y == x) 0) (weigh_none xs x)

pub weigh_more : (j k : ℕ) (xs : List ℕ) (x : ℕ) →
    weigh (j + k) xs x ≡ weigh j xs x + weigh k xs x
weigh_more j k [] x = refl
weigh_more j k (y ∷ xs) x = by_test (y == x) (weigh_more j k xs x)
  where
    by_test : (b : Bool) → weigh (j + k) xs x ≡ weigh j xs x + weigh k xs x
        → cond b (j + k) 0 + weigh (j + k) xs x
        ≡ (cond b j 0 + weigh j xs x) + (cond b k 0 + weigh k xs x)
    by_test true rest = omega arith
    by_test false rest = omega arith

-- counts up to one over the limit
pub weigh_capped : (k : ℕ) (xs : List ℕ) (x : ℕ) →
    min (weigh (min k 65537) xs x) 65537 ≡ min (weigh k xs x) 65537
weigh_capped k [] x = refl
weigh_capped k (y ∷ xs) x = by_test (y == x) (weigh_capped k xs x)
  where
    by_test : (b : Bool)
        → min (weigh (min k 65537) xs x) 65537 ≡ min (weigh k xs x) 65537
        → min (cond b (min k 65537) 0 + weigh (min k 65537) xs x) 65537
        ≡ min (cond b k 0 + weigh k xs x) 65537
    by_test true rest = omega arith
    by_test false rest = omega arith

pub held_count : (xs : List ℕ) (x : ℕ) → holds xs x ≡ not (count xs x == 0)
held_count [] x = refl
held_count (y ∷ xs) x = by_test (y == x) (held_count xs x)
  where
    by_test : (b : Bool) → holds xs x ≡ not (count xs x == 0)
        → (b || holds xs x) ≡ not (cond b 1 0 + count xs x == 0)
    by_test true rest = sym (ap not (ne_eqb (1 + count xs x) 0 (λ e. absurd (omega arith))))
    by_test false rest = rest ∙ ap (λ m. not (m == 0)) (sym (zero-add (count xs x)))
