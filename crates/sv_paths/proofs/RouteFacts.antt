-- Conditions put before routes, and taken from them in textual order.
use Rattle.std.proofs.Common.{◌≡◌, ℕ, suc, ◌+◌, ◌-◌, ◌<◌, ◌≤◌, List, [], ◌∷◌, ◌++◌, length, get_or, take, drop, reverse}
use Rattle.std.proofs.Common.{map, refl, sym, ap, ap₂, ◌∙◌, arith}
use Rattle.std.proofs.Math.ListN.{set}
use Rattle.std.proofs.Math.Seq.{drop-cons}
use Rattle.std.proofs.lemmas.List.{map-append, reverse-append}
use Rattle.std.proofs.lemmas.List.{map-set, set-append_right, get_or-append_right, get_or-map}
use Rattle.std.proofs.lemmas.List.{length-take-le, length-drop}
use Rattle.std.proofs.lemmas.List.Edits.{map_over_more}

-- the list where the function was taken of so many from a place on
abbrev pub changed_from : {Y : Type 0} (f : Y → Y) → List Y → (start count : ℕ) → List Y
changed_from f ys start count =
    take start ys ++ (map f (take count (drop start ys)) ++ drop count (drop start ys))

module _ {X Y : Type 0} (h : X → Y) (f : Y → Y) where
  -- one more element is changed where it stands
  pub one_changed : (ys : List Y) (xs : List X) (start i : ℕ) (old new : X) → start ≤ i
      → i < length xs → length xs ≡ length ys → old ≡ get_or xs i old → h new ≡ f (h old)
      → map h xs ≡ changed_from f ys start (i - start)
      → map h (set xs i new) ≡ changed_from f ys start (i + 1 - start)
  one_changed ys xs start i old new above inside same_length is same here =
      let k = i - start in
      let front = take start ys in
      let later = drop start ys in
      let rest = map f (take k later) ++ drop k later in
      let size : length front ≡ start = length-take-le start ys (omega arith) in
      let left : length later ≡ length ys - start = length-drop start ys in
      let at : h old ≡ get_or rest k (h old) =
      ap h is
      ∙ sym (get_or-map h xs i old (h old) inside)
      ∙ ap (λ zs. get_or zs i (h old)) here
      ∙ get_or-append_right front rest start i (h old) size above in
      let next : k + 1 ≡ i + 1 - start = omega arith in
      map-set h xs i new
      ∙ ap₂ (λ zs z. set zs i z) here same
      ∙ set-append_right front rest start i (f (h old)) size above
      ∙ ap (λ zs. front ++ zs)
      (map_over_more f later rest k (h old) (omega arith) refl at)
      ∙ ap (λ n. changed_from f ys start n) next

-- one more element, before those that were taken from the last one back
pub next_reversed : {X Y Z : Type 0} (f : X → Z) (g : Y → Z) (xs : List X) (i : ℕ) (x : X) (y : Y)
    (done new : List Y) → i < length xs → x ≡ get_or xs (length xs - 1 - i) x
    → new ≡ done ++ y ∷ [] → g y ≡ f x
    → map g done ≡ reverse (map f (drop (length xs - i) xs))
    → map g new ≡ reverse (map f (drop (length xs - (i + 1)) xs))
next_reversed f g xs i x y done new inside is gains same here =
    let at : length xs - (i + 1) ≡ length xs - 1 - i = omega arith in
    let behind : suc (length xs - 1 - i) ≡ length xs - i = omega arith in
    let rest : drop (length xs - (i + 1)) xs ≡ x ∷ drop (length xs - i) xs =
    ap (λ (n : ℕ). drop n xs) at
    ∙ drop-cons xs (length xs - 1 - i) x (omega arith)
    ∙ ap₂ (λ z (n : ℕ). z ∷ drop n xs) (sym is) behind in
    ap (map g) gains
    ∙ map-append g done (y ∷ [])
    ∙ ap₂ (λ zs z. zs ++ z ∷ []) here same
    ∙ sym (reverse-append (f x ∷ []) (map f (drop (length xs - i) xs)))
    ∙ ap (λ zs. reverse (map f zs)) (sym rest)

pub reversed_map : {X Y : Type 0} (f : X → Y) (xs : List X) → map f (reverse xs) ≡ reverse (map f xs)
reversed_map f [] = refl
reversed_map f (x ∷ xs) =
    ap (map f) (reverse-append (x ∷ []) xs)
    ∙ map-append f (reverse xs) (x ∷ [])
    ∙ ap (λ zs. zs ++ f x ∷ []) (reversed_map f xs)
    ∙ sym (reverse-append (f x ∷ []) (map f xs))

map_twice : {X Y Z : Type 0} (f : Y → Z) (g : X → Y) (xs : List X)
    → map (λ x. f (g x)) xs ≡ map f (map g xs)
map_twice f g [] = refl
map_twice f g (x ∷ xs) = ap (λ zs. f (g x) ∷ zs) (map_twice f g xs)

-- what is made of each of some elements the other way round
pub made_reversed : {X Y Z : Type 0} (f : Y → Z) (g : X → Y) (xs : List X)
    → reverse (map (λ x. f (g x)) xs) ≡ map f (reverse (map g xs))
made_reversed f g xs =
    ap reverse (map_twice f g xs) ∙ sym (reversed_map f (map g xs))
