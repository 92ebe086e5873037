-- What stands at a place of a mapped list, and lists that are mapped twice.
use Rattle.std.proofs.Common.{◌≡◌, ℕ, zero, suc, List, [], ◌∷◌, map, Option, Some}
use Rattle.std.proofs.Common.{refl, sym, ap, ◌∙◌}
use Rattle.std.specs.Prelude.{Contains}
use Rattle.std.specs.List.{slice_get}
use Rattle.sv_system.proofs.Lists.{Contains-head, Contains-later}

pub from_get_map : {X Y : Type 0} (f : X → Y) (xs : List X) (k : ℕ) (y : Y)
    → slice_get (map f xs) k ≡ Some y
    → (x : X) × (slice_get xs k ≡ Some x) × (f x ≡ y)
from_get_map f [] k y at = absurd (cc at)
from_get_map f (x ∷ xs) zero y at = (x, refl, cc at)
from_get_map f (x ∷ xs) (suc k) y at = from_get_map f xs k y at

pub same_some : {X : Type 0} (o : Option X) (x y : X) → o ≡ Some x → o ≡ Some y → x ≡ y
same_some o x y a b = let e : Some x ≡ Some y = sym a ∙ b in cc e

pub map_twice_same : {X Y Z : Type 0} (f : X → Y) (g : Y → Z) (h : X → Z) (xs : List X)
    → ((x : X) → Contains xs x → g (f x) ≡ h x)
    → map g (map f xs) ≡ map h xs
map_twice_same f g h [] same = refl
map_twice_same f g h (x ∷ xs) same =
    ap (λ y. y ∷ map g (map f xs)) (same x (Contains-head x xs))
    ∙ ap (λ ys. h x ∷ ys) (map_twice_same f g h xs (λ z at. same z (Contains-later x xs z at)))
