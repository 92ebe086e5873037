-- Where a separator first stands.
use Rattle.std.proofs.Common.{◌≡◌, ℕ, ◌+◌, ◌<◌, Bool, false, cond, not, ◌==◌}
use Rattle.std.proofs.Common.{List, [], ◌∷◌, ◌++◌, length, take, drop, refl, ap, ◌∙◌, arith}
use Rattle.std.specs.List.{position_or_len, before_first, after_first, slice_split}
use Rattle.std.proofs.Math.ListN.{drop_of_length-le}
use Rattle.std.proofs.Math.Seq.{take-append_seam, drop-append-add, take-length}
use Rattle.std.proofs.lemmas.Bool.{eq-eqb}
use Rattle.std.proofs.lemmas.List.Elements.{All-head, All-tail}
use Rattle.std.proofs.lemmas.List.Splits.{slice_split_at, length-slice_split}
use Rattle.sv_trace.specs.Reading.{Lacks}

front_len : (s : ℕ) (a b : List ℕ) → Lacks s a
    → position_or_len (λ x. x == s) (a ++ s ∷ b) ≡ length a
front_len s [] b l =
    ap (λ t. cond (not t) (1 + position_or_len (λ y. y == s) b) 0) (eq-eqb s s refl)
front_len s (x ∷ a) b l =
    let other : (x == s) ≡ false = All-head (λ y. (y == s) ≡ false) x a l in
    let rest : position_or_len (λ y. y == s) (a ++ s ∷ b) ≡ length a =
    front_len s a b (All-tail (λ y. (y == s) ≡ false) x a l) in
    ap (λ t. cond (not t) (1 + position_or_len (λ y. y == s) (a ++ s ∷ b)) 0) other
    ∙ omega (arith, rest)

all_len : (s : ℕ) (a : List ℕ) → Lacks s a → position_or_len (λ x. x == s) a ≡ length a
all_len s [] l = refl
all_len s (x ∷ a) l =
    let other : (x == s) ≡ false = All-head (λ y. (y == s) ≡ false) x a l in
    let rest : position_or_len (λ y. y == s) a ≡ length a =
    all_len s a (All-tail (λ y. (y == s) ≡ false) x a l) in
    ap (λ t. cond (not t) (1 + position_or_len (λ y. y == s) a) 0) other ∙ omega (arith, rest)

pub before_is : (s : ℕ) (a b : List ℕ) → Lacks s a → before_first (λ x. x == s) (a ++ s ∷ b) ≡ a
before_is s a b l =
    ap (λ n. take n (a ++ s ∷ b)) (front_len s a b l) ∙ take-append_seam a (s ∷ b)

pub after_is : (s : ℕ) (a b : List ℕ) → Lacks s a → after_first (λ x. x == s) (a ++ s ∷ b) ≡ b
after_is s a b l =
    ap (λ n. drop (n + 1) (a ++ s ∷ b)) (front_len s a b l) ∙ drop-append-add a (s ∷ b) 1

pub before_none : (s : ℕ) (a : List ℕ) → Lacks s a → before_first (λ x. x == s) a ≡ a
before_none s a l = ap (λ n. take n a) (all_len s a l) ∙ take-length a

pub after_none : (s : ℕ) (a : List ℕ) → Lacks s a → after_first (λ x. x == s) a ≡ []
after_none s a l =
    let all : position_or_len (λ x. x == s) a ≡ length a = all_len s a l in
    drop_of_length-le a (omega arith)

pub split_some : (s : ℕ) (a b : List ℕ) → Lacks s a
    → slice_split (λ x. x == s) (a ++ s ∷ b) ≡ a ∷ slice_split (λ x. x == s) b
split_some s a b l = slice_split_at (λ x. x == s) a s b l (eq-eqb s s refl)

-- there is a first part
pub first_part : (p : ℕ → Bool) (a : List ℕ)
    → (x : List ℕ) × (xs : List (List ℕ)) × (slice_split p a ≡ x ∷ xs)
first_part p a = some (slice_split p a) (omega (arith, length-slice_split p a))
  where
    some : (parts : List (List ℕ)) → 0 < length parts
        → (x : List ℕ) × (xs : List (List ℕ)) × (parts ≡ x ∷ xs)
    some [] h = absurd (omega arith)
    some (x ∷ xs) h = (x, xs, refl)
