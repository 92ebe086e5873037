-- Places in lists, and the first elements of lists.
use Rattle.std.proofs.Common.{◌≡◌, ℕ, ◌+◌, ◌++◌, zero, suc, List, [], ◌∷◌, take}
use Rattle.std.proofs.Common.{length, Some, refl, sym, ◌∙◌, ap, subst, arith}
use Rattle.std.specs.Prelude.{slice_get, All}
use Rattle.std.specs.List.{AllZip}
use Rattle.std.proofs.lemmas.List.Elements.{All-push}
use Rattle.sv_obl.proofs.FormLists.{take_next}

none_more : (k : ℕ) → 0 + k ≡ k
none_more k = omega arith

one_more : (n k : ℕ) → suc n + k ≡ suc (n + k)
one_more n k = omega arith

module _ {A : Type 0} where
  -- what stands behind some elements
  pub get_behind : (xs ys : List A) (k : ℕ) → slice_get (xs ++ ys) (length xs + k) ≡ slice_get ys k
  get_behind [] ys k = ap (λ n. slice_get ys n) (none_more k)
  get_behind (x ∷ xs) ys k =
      ap (λ n. slice_get (x ∷ (xs ++ ys)) n) (one_more (length xs) k) ∙ get_behind xs ys k

  -- what stands in the first of two lists
  pub get_first : (ys zs : List A) (k : ℕ) (y : A) → slice_get ys k ≡ Some y
      → slice_get (ys ++ zs) k ≡ Some y
  get_first [] zs k y is = absurd cc
  get_first (x ∷ ys) zs zero y is = is
  get_first (x ∷ ys) zs (suc k) y is = get_first ys zs k y is

  pub all_next : (P : A → Type 0) (xs : List A) (k : ℕ) (x : A) → slice_get xs k ≡ Some x
      → All P (take k xs) → P x → All P (take (k + 1) xs)
  all_next P xs k x is all here =
      subst (All P) (sym (take_next xs k x is)) (All-push P (take k xs) x all here)

module _ {A B : Type 0} (R : A → B → Type 0) where
  pub zip_push : (xs : List A) (ys : List B) (x : A) (y : B) → AllZip R xs ys → R x y
      → AllZip R (xs ++ x ∷ []) (ys ++ y ∷ [])
  zip_push [] [] x y all here = (here, tt)
  zip_push [] (b ∷ ys) x y all here = absurd all
  zip_push (a ∷ xs) [] x y all here = absurd all
  zip_push (a ∷ xs) (b ∷ ys) x y all here = (all.0, zip_push xs ys x y all.1 here)

  pub zip_length : (xs : List A) (ys : List B) → AllZip R xs ys → length ys ≡ length xs
  zip_length [] [] all = refl
  zip_length [] (b ∷ ys) all = absurd all
  zip_length (a ∷ xs) [] all = absurd all
  zip_length (a ∷ xs) (b ∷ ys) all = ap suc (zip_length xs ys all.1)

  -- one element more of both lists
  pub zip_next : (xs : List A) (ys : List B) (k : ℕ) (x : A) (y : B) → slice_get xs k ≡ Some x
      → slice_get ys k ≡ Some y → AllZip R (take k xs) (take k ys) → R x y
      → AllZip R (take (k + 1) xs) (take (k + 1) ys)
  zip_next xs ys k x y is_x is_y all here =
      subst (λ (bs : List B). AllZip R (take (k + 1) xs) bs) (sym (take_next ys k y is_y))
      (subst (λ (front : List A). AllZip R front (take k ys ++ y ∷ []))
      (sym (take_next xs k x is_x))
      (zip_push (take k xs) (take k ys) x y all here))
