-- Lists of numbers, one number after the other.
use Rattle.std.proofs.Common.{◌≡◌, ℕ, ◌+◌, ◌<◌, Bool, true, false, cond, List, [], ◌∷◌, ◌++◌}
use Rattle.std.proofs.Common.{length, map, Option, get_or, refl, sym, ap}
use Rattle.std.proofs.Common.{◌∙◌, zero-add}
use Rattle.std.specs.Prelude.{filter}
use Rattle.std.specs.List.{filter_map, cons_option, range_with_len}
use Rattle.std.proofs.lemmas.List.{map-append, map-id}
use Rattle.std.proofs.lemmas.List.FromFn.{map-range_with_len_more}
use Rattle.std.proofs.lemmas.List.Elements.{filter-append, filter_map-append}
use Rattle.std.proofs.Common.{zero, ◌||◌}
use Rattle.std.proofs.Common.{drop}
use Rattle.std.specs.List.{list_any}
use Rattle.std.proofs.lemmas.List.{at_drop_more}

pub range_more : (n : ℕ) → range_with_len 0 (n + 1) ≡ range_with_len 0 n ++ n ∷ []
range_more n =
    sym (map-id (range_with_len 0 (n + 1))) ∙ map-range_with_len_more (λ x. x) 0 n n (zero-add n)
    ∙ ap (λ xs. xs ++ n ∷ []) (map-id (range_with_len 0 n))

pub made_more : {Y : Type 0} (f : ℕ → Option Y) (n : ℕ) →
    filter_map f (range_with_len 0 (n + 1)) ≡ filter_map f (range_with_len 0 n)
    ++ cons_option (f n) []
made_more f n = ap (filter_map f) (range_more n) ∙ filter_map-append f (range_with_len 0 n) (n ∷ [])

map_cond : {X Y : Type 0} (f : X → Y) (b : Bool) (x : X) →
    map f (cond b (x ∷ []) []) ≡ cond b (f x ∷ []) []
map_cond f true x = refl
map_cond f false x = refl

pub passed_more : {Y : Type 0} (f : ℕ → Y) (test : ℕ → Bool) (n : ℕ)
    → map f (filter test (range_with_len 0 (n + 1))) ≡
    map f (filter test (range_with_len 0 n)) ++ cond (test n) (f n ∷ []) []
passed_more f test n =
    ap (λ xs. map f (filter test xs)) (range_more n)
    ∙ ap (map f) (filter-append test (range_with_len 0 n) (n ∷ []))
    ∙ map-append f (filter test (range_with_len 0 n)) (filter test (n ∷ []))
    ∙ ap (λ ys. map f (filter test (range_with_len 0 n)) ++ ys) (map_cond f (test n) n)

pub filter_more : (test : ℕ → Bool) (n : ℕ) →
    filter test (range_with_len 0 (n + 1)) ≡ filter test (range_with_len 0 n)
    ++ cond (test n) (n ∷ []) []
filter_more test n =
    ap (filter test) (range_more n) ∙ filter-append test (range_with_len 0 n) (n ∷ [])

-- an answer of some part more
pub any_more : {X Y : Type 0} (f : X → Y) (test : Y → Bool) (xs : List X) (i : ℕ) (x : X)
    → i < length xs → x ≡ get_or xs i x
    → list_any test (map f (drop i xs)) ≡ (test (f x) || list_any test (map f (drop (i + 1) xs)))
any_more f test xs i x inside is =
    at_drop_more (λ ys. list_any test (map f ys)) xs i x inside
    ∙ ap (λ y. test (f y) || list_any test (map f (drop (i + 1) xs))) (sym is)
