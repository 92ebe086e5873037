-- Text that grows by what each element of a list adds.
use Rattle.std.proofs.Common.{◌≡◌, ℕ, ◌+◌, ◌<◌, ◌≤◌, List, [], ◌∷◌, ◌++◌, refl, sym, ap, ◌∙◌, map}
use Rattle.std.proofs.Common.{take, length, get_or}
use Rattle.std.specs.List.{flat_map}
use Rattle.std.proofs.lemmas.List.{append_assoc, take_more, take_all, flat_map_more}
use Rattle.sv_proof.specs.Certificate.{text_of}

pub spelled_more : {X : Type 0} (f : X →
    List ℕ) (xs : List X) (k : ℕ) (x d : X) (old text now : List ℕ) → k < length xs →
    x ≡ get_or xs k d → text ≡ old ++ flat_map f (take k xs) → now ≡ text ++ f x →
    now ≡ old ++ flat_map f (take (k + 1) xs)
spelled_more f xs k x d old text now h is e n =
    n ∙ ap (λ z. z ++ f x) e ∙ ap (λ z. (old ++ flat_map f (take k xs)) ++ f z) is
    ∙ flat_map_more f old (take k xs) (get_or xs k d)
    ∙ ap (λ z. old ++ flat_map f z) (sym (take_more xs k d h))

pub spelled_all : {X : Type 0} (f : X → List ℕ) (xs : List X) (k : ℕ) (old text : List ℕ) →
    length xs ≤ k → text ≡ old ++ flat_map f (take k xs) → text ≡ old ++ flat_map f xs
spelled_all f xs k old text h e = e ∙ ap (λ z. old ++ flat_map f z) (take_all k xs h)

pub text_of-append : (xs ys : List (List ℕ)) → text_of (xs ++ ys) ≡ text_of xs ++ text_of ys
text_of-append [] ys = refl
text_of-append (x ∷ xs) ys =
    ap (λ z. (x ++ 10 ∷ []) ++ z) (text_of-append xs ys)
    ∙ sym (append_assoc (x ++ 10 ∷ []) (text_of xs) (text_of ys))

pub text_of-map : {X Y : Type 0} (f : Y → List ℕ) (g : X → Y) (xs : List X) →
    text_of (map f (map g xs)) ≡ flat_map (λ x. f (g x) ++ 10 ∷ []) xs
text_of-map f g [] = refl
text_of-map f g (x ∷ xs) = ap (λ z. (f (g x) ++ 10 ∷ []) ++ z) (text_of-map f g xs)

pub steps_written : {X Y : Type 0} (f : Y → List ℕ) (g : X →
    Y) (xs : List X) (k : ℕ) (old text : List ℕ) → length xs ≤ k →
    text ≡ old ++ flat_map (λ x. f (g x) ++ 10 ∷ []) (take k xs) →
    text ≡ old ++ text_of (map f (map g xs))
steps_written f g xs k old text h e =
    spelled_all (λ x. f (g x) ++ 10 ∷ []) xs k old text h e
    ∙ ap (λ z. old ++ z) (sym (text_of-map f g xs))
