-- Going into instances and out of them.
use Rattle.std.proofs.Common.{◌≡◌, ℕ, ◌+◌, ◌-◌, Bool, true, false, List, [], ◌∷◌, ◌++◌, length}
use Rattle.std.proofs.Common.{take, reverse, refl, sym, ap, ◌∙◌, arith}
use Rattle.std.specs.Prelude.{if◌then◌else◌}
use Rattle.std.specs.List.{list_any}
use Rattle.std.specs.Str.{bytes_eq}
use Rattle.std.proofs.lemmas.List.{reverse-append, reverse-reverse, length-append, take_at}
use Rattle.std.proofs.lemmas.List.Sorted.{IsPermutation-reverse, list_any-IsPermutation}
use Rattle.indexmap.specs.IndexSet.{insert_key}

-- a test of some names does not depend on their order
pub any_reversed : (p : List ℕ → Bool) (names : List (List ℕ)) →
    list_any p names ≡ list_any p (reverse names)
any_reversed p names = list_any-IsPermutation p names (reverse names) (IsPermutation-reverse names)

-- a name that is not there goes last
pub new_last : (keys : List (List ℕ)) (m : List ℕ) → list_any (bytes_eq m) keys ≡ false
    → insert_key bytes_eq keys m ≡ keys ++ m ∷ []
new_last keys m h = by (list_any (bytes_eq m) keys) h
  where
    by : (b : Bool) → b ≡ false → (if b then keys else keys ++ m ∷ []) ≡ keys ++ m ∷ []
    by true k = absurd (cc k)
    by false k = refl

pub around_more : (keys : List (List ℕ)) (m : List ℕ) → list_any (bytes_eq m) (reverse keys) ≡ false
    → reverse (insert_key bytes_eq keys m) ≡ m ∷ reverse keys
around_more keys m h =
    ap reverse (new_last keys m (any_reversed (bytes_eq m) keys ∙ h)) ∙ reverse-append keys (m ∷ [])

-- all but the last
pub all_but_last : {X : Type 0} (xs ys : List X) (x : X) (n : ℕ) → xs ≡ ys ++ x ∷ [] →
    n ≡ length xs - 1 → take n xs ≡ ys
all_but_last xs ys x n e h =
    let size : length xs ≡ length ys + 1 = ap length e ∙ length-append ys (x ∷ []) in
    ap (take n) e ∙ take_at ys (x ∷ []) n (omega arith)

pub around_less : (keys around : List (List ℕ)) (m : List ℕ) (n : ℕ) → reverse keys ≡ m ∷ around
    → n ≡ length keys - 1
    → reverse (take n keys) ≡ around
around_less keys around m n e h =
    let last : keys ≡ reverse around ++ m ∷ [] =
    sym (reverse-reverse keys) ∙ ap reverse e ∙ reverse-append (m ∷ []) around in
    ap reverse (all_but_last keys (reverse around) m n last h) ∙ reverse-reverse around
