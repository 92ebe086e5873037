-- Lists that are compared element by element.
use Rattle.std.proofs.Common.{◌≡◌, ◌↔◌, ℕ, Bool, ◌&&◌, ◌==◌, List, [], ◌∷◌, map}
use Rattle.std.proofs.Common.{refl, sym, ap, ap₂, ◌∙◌}
use Rattle.std.specs.Prelude.{IsTrue}
use Rattle.std.specs.Cmp.Lexicographic.{pointwise}
use Rattle.std.proofs.lemmas.Bool.{false≢true, eqb-true, eq-eqb}
use Rattle.sv_system.proofs.Noninterference.{first_same, rest_same, none_is_some}
use Rattle.sv_flat.specs.declared.signals.SigId.{SigId}
use Rattle.sv_flat.proofs.Depths.{first_of, second_of}
use Rattle.sv_obl.proofs.PathLists.{both_true}
use Rattle.sv_tworun.specs.declared.views.View.{View}
use Rattle.sv_tworun.specs.Forms.{pair_form, view_form}

module _ {X Y : Type 0} (E : X → X → Bool) (f : X → Y)
    (tells : (x y : X) → IsTrue (E x y) → f x ≡ f y)
    (told : (x y : X) → f x ≡ f y → IsTrue (E x y)) where
  same_forms : (xs ys : List X) → IsTrue (pointwise E xs ys) → map f xs ≡ map f ys
  same_forms [] [] h = refl
  same_forms [] (y ∷ ys) h = absurd (false≢true h)
  same_forms (x ∷ xs) [] h = absurd (false≢true h)
  same_forms (x ∷ xs) (y ∷ ys) h =
      ap₂ (λ z zs. z ∷ zs) (tells x y (first_of (E x y) (pointwise E xs ys) h))
      (same_forms xs ys (second_of (E x y) (pointwise E xs ys) h))

  forms_same : (xs ys : List X) → map f xs ≡ map f ys → IsTrue (pointwise E xs ys)
  forms_same [] [] h = refl
  forms_same [] (y ∷ ys) h = absurd (none_is_some (f y) (map f ys) h)
  forms_same (x ∷ xs) [] h = absurd (none_is_some (f x) (map f xs) (sym h))
  forms_same (x ∷ xs) (y ∷ ys) h =
      both_true (E x y) (pointwise E xs ys)
      (told x y (first_same (f x) (f y) (map f xs) (map f ys) h))
      (forms_same xs ys (rest_same (f x) (f y) (map f xs) (map f ys) h))

-- ---- views

tells : (p q : SigId × ℕ) → IsTrue ((p.0.0 == q.0.0) && (p.1 == q.1)) → pair_form p ≡ pair_form q
tells p q h = ap₂ (λ s v. (s, v)) (eqb-true p.0.0 q.0.0 (first_of _ _ h))
    (eqb-true p.1 q.1 (second_of _ _ h))

told : (p q : SigId × ℕ) → pair_form p ≡ pair_form q → IsTrue ((p.0.0 == q.0.0) && (p.1 == q.1))
told p q h = both_true _ _ (eq-eqb p.0.0 q.0.0 (ap (λ (r : ℕ × ℕ). r.0) h))
    (eq-eqb p.1 q.1 (ap (λ (r : ℕ × ℕ). r.1) h))

-- views that are compared pair by pair
pub same_views : (a b : View) (result : Bool)
    → result ≡ pointwise (λ (p q : SigId × ℕ). (p.0.0 == q.0.0) && (p.1 == q.1)) a.pairs.items
    b.pairs.items
    → IsTrue result ↔ (view_form a ≡ view_form b)
same_views a b result is = (
  λ h. same_forms _ pair_form tells told a.pairs.items b.pairs.items (sym is ∙ h),
  λ h. is ∙ forms_same _ pair_form tells told a.pairs.items b.pairs.items h,
)
