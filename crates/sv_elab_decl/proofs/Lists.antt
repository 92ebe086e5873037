-- What a loop has left of a list.
use Rattle.std.proofs.Common.{◌≡◌, ℕ, ◌+◌, ◌<◌, ◌≤◌, Bool, true, List, [], ◌∷◌, length, get_or}
use Rattle.std.proofs.Common.{drop, map, sym, ap, subst, ◌∙◌}
use Rattle.std.specs.List.{list_all}
use Rattle.std.proofs.lemmas.Bool.{and_parts}
use Rattle.std.proofs.lemmas.List.{drop_more, drop_all}

pub left_more : {X : Type 0} (xs : List X) (i : ℕ) (x : X) → i < length xs → x ≡ get_or xs i x
    → drop i xs ≡ x ∷ drop (i + 1) xs
left_more xs i x within is = drop_more xs i x within ∙ ap (λ y. y ∷ drop (i + 1) xs) (sym is)

pub left_none : {X : Type 0} (xs : List X) (i : ℕ) → length xs ≤ i → drop i xs ≡ []
left_none xs i h = drop_all i xs h

-- what all members pass, the first and the others pass
pub all_parts : {X : Type 0} (p : X → Bool) (x : X) (xs : List X) → list_all p (x ∷ xs) ≡ true
    → (p x ≡ true) × (list_all p xs ≡ true)
all_parts p x xs h = and_parts (p x) (list_all p xs) h

-- likewise where a reference leads to the list
pub more_listed : {X : Type 0} (xs now : List X) (i : ℕ) (x : X) → now ≡ xs → i < length now
    → x ≡ get_or now i x
    → drop i xs ≡ x ∷ drop (i + 1) xs
more_listed {X = X} xs now i x listed within is =
    left_more xs i x (subst (λ (ys : List X). i < length ys) listed within)
    (subst (λ (ys : List X). x ≡ get_or ys i x) listed is)

pub none_listed : {X : Type 0} (xs now : List X) (i : ℕ) → now ≡ xs → length now ≤ i →
    drop i xs ≡ []
none_listed {X = X} xs now i listed h =
    left_none xs i (subst (λ (ys : List X). length ys ≤ i) listed h)

-- what the forms of all pass, those behind the next one pass
pub rest_passes : {X Y : Type 0} (p : Y → Bool) (form : X → Y) (xs left : List X) (x : X)
    → xs ≡ x ∷ left → list_all p (map form xs) ≡ true
    → list_all p (map form left) ≡ true
rest_passes {X = X} p form xs left x split h =
    (all_parts p (form x) (map form left)
    (ap (λ (ys : List X). list_all p (map form ys)) (sym split) ∙ h)).1
