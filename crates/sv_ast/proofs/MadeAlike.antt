-- Lists whose members are copied part by part.
use Rattle.std.proofs.Common.{◌≡◌, List, map, sym, ap, ◌∙◌}
use Rattle.std.proofs.lemmas.Simd.{map-map}

-- lists with equal parts give equal lists of what is made of the parts
pub made_alike : {A B C : Type 0} (make : B → C) (parts : A → B) (xs ys : List A)
    → map parts xs ≡ map parts ys → map (λ x. make (parts x)) xs ≡ map (λ x. make (parts x)) ys
made_alike make parts xs ys same =
    sym (map-map make parts xs) ∙ ap (map make) same ∙ map-map make parts ys
