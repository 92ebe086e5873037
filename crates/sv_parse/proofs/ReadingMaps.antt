-- What the trees of items are, each of which holds a member of a list.
use Rattle.std.proofs.Common.{◌≡◌, List, [], ◌∷◌, map, refl, ap, ◌∙◌}
use Rattle.std.specs.Prelude.{Result, IfOk}
use Rattle.std.proofs.lemmas.Result.{IfOk-weaker}

two_maps : (X Y S T : Type 0) (wrap : X → Y) (h : Y → T) (f : X → S) (g : S → T) →
    ((x : X) → h (wrap x) ≡ g (f x)) → (xs : List X) → map h (map wrap xs) ≡ map g (map f xs)
two_maps X Y S T wrap h f g same [] = refl
two_maps X Y S T wrap h f g same (x ∷ xs) =
    ap (λ (t : T). t ∷ map h (map wrap xs)) (same x)
    ∙ ap (λ (ts : List T). g (f x) ∷ ts) (two_maps X Y S T wrap h f g same xs)

pub wrapped : {X Y S T V E : Type 0} (r : Result V E) (items : V → List Y) (wrap : X → Y)
    (h : Y → T) (f : X → S) (g : S → T) (xs : List X) → ((x : X) → h (wrap x) ≡ g (f x)) →
    IfOk r (λ v. items v ≡ map wrap xs) → IfOk r (λ v. map h (items v) ≡ map g (map f xs))
wrapped {X} {Y} {S} {T} r items wrap h f g xs same made =
    IfOk-weaker r (λ v. items v ≡ map wrap xs) (λ v. map h (items v) ≡ map g (map f xs))
    (λ v eq. ap (map h) eq ∙ two_maps X Y S T wrap h f g same xs) made
