-- The elements of a list by their places, and their plain forms.
use Rattle.std.proofs.Common.{◌≡◌, ℕ, zero, suc, ◌+◌, ◌<◌, List, [], ◌∷◌, ◌++◌, length}
use Rattle.std.proofs.Common.{map, take, get_or, All, Some, refl, sym, ap, subst, ◌∙◌, arith}
use Rattle.std.proofs.Common.{lt-ltb, add-one}
use Rattle.std.proofs.Math.Seq.{take-suc}
use Rattle.std.specs.Prelude.{Contains, slice_get, IsTrue}
use Rattle.std.proofs.lemmas.List.{take_more, map-append}
use Rattle.std.proofs.lemmas.List.Elements.{Contains-get_or, All-get_or, All-head, All-tail}
use Rattle.std.proofs.lemmas.Option.{slice_get_within, get_or_from_slice_get}
use Rattle.sv_system.proofs.Lists.{Contains-map}
use Rattle.sv_flat.specs.Soundness.{is_signal}
use Rattle.sv_flat.specs.Views.{design_of, signal_form}
use Rattle.sv_flat.specs.declared.designs.Flat.{Flat}

-- what holds of all holds of the one at a place
pub get_all : {A : Type 0} (P : A → Type 0) (xs : List A) (k : ℕ) (x : A) → All P xs
    → slice_get xs k ≡ Some x → P x
get_all P xs k x all is =
    subst P (get_or_from_slice_get xs k x x is)
    (All-get_or P xs k x (slice_get_within xs k x is) all)

-- one element more
pub take_next : {A : Type 0} (xs : List A) (k : ℕ) (x : A) → slice_get xs k ≡ Some x
    → take (k + 1) xs ≡ take k xs ++ x ∷ []
take_next xs k x is =
    take_more xs k x (slice_get_within xs k x is)
    ∙ ap (λ y. take k xs ++ y ∷ []) (get_or_from_slice_get xs k x x is)

pub form_there : {F X : Type 0} (form : X → F) (xs : List X) (i : ℕ) (x : X) → i < length xs
    → x ≡ get_or xs i x → Contains (map form xs) (form x)
form_there form xs i x inside is =
    Contains-map form xs x
    (subst (Contains xs) (sym is) (Contains-get_or xs i x inside))

pub length_mapped : {X Y : Type 0} (f : X → Y) (xs : List X) → length (map f xs) ≡ length xs
length_mapped f [] = refl
length_mapped f (x ∷ xs) = ap suc (length_mapped f xs)

-- the plain forms up to the next place
pub forms_more : {F X : Type 0} (form : X → F) (xs : List X) (i : ℕ) (x : X) → i < length xs
    → x ≡ get_or xs i x → map form (take (i + 1) xs) ≡ map form (take i xs) ++ form x ∷ []
forms_more form xs i x inside is =
    ap (λ k. map form (take k xs)) (add-one i)
    ∙ ap (map form) (take-suc xs i x inside)
    ∙ map-append form (take i xs) (get_or xs i x ∷ [])
    ∙ ap (λ z. map form (take i xs) ++ form z ∷ []) (sym is)

-- a place in a design's vector of signals is the number of a signal
pub signal_inside : (flat : Flat) (s : ℕ) → s < length flat.signals.items →
    s < length (design_of flat).signals
signal_inside flat s known =
    subst (λ n. s < n) (sym (length_mapped signal_form flat.signals.items)) known

pub signal_known : (flat : Flat) (s : ℕ) → s < length flat.signals.items →
    IsTrue (is_signal (design_of flat).signals s)
signal_known flat s known = lt-ltb s (length (design_of flat).signals) (signal_inside flat s known)

mapped_at : {X Y : Type 0} (f : X → Y) (xs : List X) (k : ℕ) (x : X) →
    get_or (map f xs) k (f x) ≡ f (get_or xs k x)
mapped_at f [] k x = refl
mapped_at f (y ∷ xs) zero x = refl
mapped_at f (y ∷ xs) (suc k) x = mapped_at f xs k x

-- the plain form of an element by its place
pub form_at : {X Y : Type 0} (f : X → Y) (xs : List X) (ys : List Y) (k : ℕ) (x : X)
    → x ≡ get_or xs k x → map f xs ≡ ys → get_or ys k (f x) ≡ f x
form_at f xs ys k x is same =
    ap (λ zs. get_or zs k (f x)) (sym same) ∙ mapped_at f xs k x ∙ ap f (sym is)

-- what holds of all plain forms holds of each
form_of : {X Y : Type 0} (P : Y → Type 0) (f : X → Y) (xs : List X) (i : ℕ) (d : X)
    → All P (map f xs) → i < length xs → P (f (get_or xs i d))
form_of P f [] i d all inside = absurd (omega arith)
form_of P f (x ∷ xs) zero d all inside = All-head P (f x) (map f xs) all
form_of P f (x ∷ xs) (suc i) d all inside =
    form_of P f xs i d (All-tail P (f x) (map f xs) all) (omega arith)

pub formed_at : {X Y : Type 0} (P : Y → Type 0) (f : X → Y) (xs : List X) (i : ℕ) (x : X)
    → All P (map f xs) → i < length xs → x ≡ get_or xs i x → P (f x)
formed_at P f xs i x all inside is =
    subst (λ y. P (f y)) (sym is) (form_of P f xs i x all inside)
