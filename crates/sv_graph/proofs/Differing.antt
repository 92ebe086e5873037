-- Lists in which no number stands twice.
use Rattle.std.proofs.Common.{◌≡◌, ℕ, zero, suc, ◌+◌, ◌<◌, ◌≤◌, Bool, true, false, cond, not, ◌&&◌}
use Rattle.std.proofs.Common.{◌||◌, ◌==◌, List, [], ◌∷◌, ◌++◌, length, take, get_or, ⊎_elim}
use Rattle.std.proofs.Common.{refl, sym, ap, ap₂, subst, ◌∙◌, arith}
use Rattle.std.specs.Prelude.{IsTrue, IsFalse, Contains, filter}
use Rattle.std.specs.List.{range_with_len}
use Rattle.std.proofs.lemmas.Bool.{false≢true, eqb-true, eq-eqb}
use Rattle.std.proofs.lemmas.List.Elements.{Contains-get_or}
use Rattle.sv_system.proofs.Lists.{Contains-head, Contains-later, Contains-nil, Contains-cases}
use Rattle.sv_system.proofs.Lists.{Contains-filter}
use Rattle.sv_flat.specs.Loops.{all_differ}
use Rattle.sv_flat.specs.Sets.{holds}
use Rattle.sv_flat.proofs.AdmittedFacts.{and_true, negated_true}
use Rattle.sv_flat.proofs.Depths.{first_of, second_of}
use Rattle.sv_flat.proofs.LeastSets.{either_way, holds-from_Contains, Contains-from_holds}
use Rattle.sv_flat.proofs.LeastSets.{Contains-from_filter}
use Rattle.sv_graph.proofs.BitFacts.{same_answer}
use Rattle.sv_graph.proofs.MarkFacts.{any_append}

-- ---- membership

pub holds-append : (xs ys : List ℕ) (k : ℕ) → holds (xs ++ ys) k ≡ (holds xs k || holds ys k)
holds-append xs ys k = any_append (λ m. m == k) xs ys

pub holds-filter : (p : ℕ → Bool) (xs : List ℕ) (k : ℕ) →
    holds (filter p xs) k ≡ (holds xs k && p k)
holds-filter p xs k = same_answer (holds (filter p xs) k) (holds xs k && p k)
    (λ h.
    let found = Contains-from_filter p xs k (Contains-from_holds (filter p xs) k h) in
    and_true (holds xs k) (p k) (holds-from_Contains xs k found.1) found.0)
    (λ h.
    holds-from_Contains (filter p xs) k
    (Contains-filter p xs k (Contains-from_holds xs k (first_of (holds xs k) (p k) h))
    (second_of (holds xs k) (p k) h)))

-- a number that is not held is another one than a member
pub other_than : (xs : List ℕ) (k m : ℕ) → IsFalse (holds xs k) → Contains xs m → IsFalse (m == k)
other_than xs k m out at = ⊎_elim
    (λ same.
    absurd (false≢true (sym out
    ∙ holds-from_Contains xs k (subst (Contains xs) (eqb-true m k same) at))))
    (λ other. other)
    (either_way (m == k))

pub turned : (a b : ℕ) → IsFalse (b == a) → IsFalse (a == b)
turned a b other = ⊎_elim
    (λ same. absurd (false≢true (sym other ∙ eq-eqb b a (sym (eqb-true a b same)))))
    (λ f. f)
    (either_way (a == b))

pub not_held : (xs : List ℕ) (k : ℕ) → (Contains xs k → ⊥) → IsFalse (holds xs k)
not_held xs k out = ⊎_elim
    (λ h. absurd (out (Contains-from_holds xs k h)))
    (λ f. f)
    (either_way (holds xs k))

-- ---- ranges

pub range_above : (a n k : ℕ) → Contains (range_with_len a n) k → a ≤ k
range_above a zero k at = absurd (Contains-nil k at)
range_above a (suc n) k at = ⊎_elim
    (λ e. omega (arith, e))
    (λ inside. let above = range_above (a + 1) n k inside in omega arith)
    (Contains-cases a (range_with_len (a + 1) n) k at)

pub range_differs : (a n : ℕ) → IsTrue (all_differ (range_with_len a n))
range_differs a zero = refl
range_differs a (suc n) =
    and_true (not (holds (range_with_len (a + 1) n) a)) (all_differ (range_with_len (a + 1) n))
    (ap not (not_held (range_with_len (a + 1) n) a (λ at.
    let above = range_above (a + 1) n a at in omega arith)))
    (range_differs (a + 1) n)

-- ---- parts

first_differs : (x : ℕ) (xs : List ℕ) → IsTrue (all_differ (x ∷ xs)) → IsFalse (holds xs x)
first_differs x xs h =
    negated_true (holds xs x) (first_of (not (holds xs x)) (all_differ xs) h)

others_differ : (x : ℕ) (xs : List ℕ) → IsTrue (all_differ (x ∷ xs)) → IsTrue (all_differ xs)
others_differ x xs h = second_of (not (holds xs x)) (all_differ xs) h

joins : (x : ℕ) (xs : List ℕ) → IsFalse (holds xs x) → IsTrue (all_differ xs) →
    IsTrue (all_differ (x ∷ xs))
joins x xs out differ = and_true (not (holds xs x)) (all_differ xs) (ap not out) differ

kept_differ : (b : Bool) (x : ℕ) (xs : List ℕ) → IsTrue (all_differ (x ∷ xs)) →
    IsTrue (all_differ (cond b (x ∷ xs) xs))
kept_differ true x xs h = h
kept_differ false x xs h = others_differ x xs h

pub filter_differs : (p : ℕ → Bool) (xs : List ℕ) → IsTrue (all_differ xs) →
    IsTrue (all_differ (filter p xs))
filter_differs p [] h = refl
filter_differs p (x ∷ xs) h =
    kept_differ (p x) x (filter p xs)
    (joins x (filter p xs)
    (holds-filter p xs x ∙ ap (λ b. b && p x) (first_differs x xs h))
    (filter_differs p xs (others_differ x xs h)))

pub append_differs : (xs ys : List ℕ) → IsTrue (all_differ xs) → IsTrue (all_differ ys)
    → ((k : ℕ) → Contains ys k → IsFalse (holds xs k))
    → IsTrue (all_differ (xs ++ ys))
append_differs [] ys one two apart = two
append_differs (x ∷ xs) ys one two apart =
    joins x (xs ++ ys)
    (holds-append xs ys x
    ∙ ap₂ ◌||◌ (first_differs x xs one) (not_held ys x (λ at.
    false≢true (sym (apart x at) ∙ holds-from_Contains (x ∷ xs) x (Contains-head x xs)))))
    (append_differs xs ys (others_differ x xs one) two (λ k at. ⊎_elim
    (λ h.
    absurd (false≢true (sym (apart k at)
    ∙ holds-from_Contains (x ∷ xs) k (Contains-later x xs k (Contains-from_holds xs k h)))))
    (λ f. f)
    (either_way (holds xs k))))

-- the number at a place is none of those before it
pub fresh : (xs : List ℕ) (i : ℕ) → i < length xs → IsTrue (all_differ xs) →
    IsFalse (holds (take i xs) (get_or xs i 0))
fresh [] i inside h = absurd (omega arith)
fresh (x ∷ xs) zero inside h = refl
fresh (x ∷ xs) (suc i) inside h =
    let within : i < length xs = omega arith in
    ap₂ ◌||◌
    (turned x (get_or xs i 0) (other_than xs x (get_or xs i 0) (first_differs x xs h)
    (Contains-get_or xs i 0 within)))
    (fresh xs i within (others_differ x xs h))

-- ---- how many pass a test

pub filter_same : (p q : ℕ → Bool) (xs : List ℕ) → ((k : ℕ) → Contains xs k → p k ≡ q k) →
    filter p xs ≡ filter q xs
filter_same p q [] same = refl
filter_same p q (x ∷ xs) same =
    ap₂ (λ b ys. cond b (x ∷ ys) ys) (same x (Contains-head x xs))
    (filter_same p q xs (λ k at. same k (Contains-later x xs k at)))

pub none_kept : (p : ℕ → Bool) (xs : List ℕ) → ((k : ℕ) → Contains xs k → IsFalse (p k)) →
    filter p xs ≡ []
none_kept p [] none = refl
none_kept p (x ∷ xs) none =
    ap₂ (λ b ys. cond b (x ∷ ys) ys) (none x (Contains-head x xs))
    (none_kept p xs (λ k at. none k (Contains-later x xs k at)))

pub none_counted : (p : ℕ → Bool) (xs : List ℕ) (k : ℕ) → length (filter p xs) ≡ 0 → Contains xs k →
    IsFalse (p k)
none_counted p xs k none at = ⊎_elim
    (λ h.
    let inside = Contains-filter p xs k at h in
    let lt = inside.1 in absurd (omega arith))
    (λ f. f)
    (either_way (p k))

-- tests that agree but at one number, which the second refuses
pub one_fewer : (p q : ℕ → Bool) (s : ℕ) (xs : List ℕ) → IsTrue (all_differ xs)
    → ((k : ℕ) → IsFalse (k == s) → p k ≡ q k) → IsFalse (q s)
    → length (filter p xs) ≡ length (filter q xs) + cond (holds xs s && p s) 1 0
one_fewer p q s [] h same out = refl
one_fewer p q s (x ∷ xs) h same out = ⊎_elim
    (λ here.
    let e : x ≡ s = eqb-true x s here in
    let rest : filter p xs ≡ filter q xs = filter_same p q xs (λ k at.
    same k (other_than xs s k (subst (λ z. IsFalse (holds xs z)) e (first_differs x xs h)) at)) in
    ap length (ap₂ (λ b ys. cond b (x ∷ ys) ys) (ap p e) rest)
    ∙ counted (p s) x (filter q xs)
    ∙ sym (ap₂ (λ b c. length (cond b (x ∷ filter q xs) (filter q xs)) + cond c 1 0)
    (ap q e ∙ out)
    (ap (λ b. (b || holds xs s) && p s) here)))
    (λ other.
    let more = one_fewer p q s xs (others_differ x xs h) same out in
    ap (λ b. length (cond b (x ∷ filter p xs) (filter p xs))) (same x other)
    ∙ longer (q x) x (filter p xs) (filter q xs) (cond (holds xs s && p s) 1 0) more
    ∙ ap (λ b. length (cond (q x) (x ∷ filter q xs) (filter q xs))
    + cond ((b || holds xs s) && p s) 1 0) (sym other))
    (either_way (x == s))
  where
    counted : (b : Bool) (x : ℕ) (ys : List ℕ) →
        length (cond b (x ∷ ys) ys) ≡ length ys + cond b 1 0
    counted true x ys = omega arith
    counted false x ys = omega arith

    longer : (b : Bool) (x : ℕ) (xs ys : List ℕ) (n : ℕ) → length xs ≡ length ys + n →
        length (cond b (x ∷ xs) xs) ≡ length (cond b (x ∷ ys) ys) + n
    longer true x xs ys n e = omega arith
    longer false x xs ys n e = e
