-- What is asked of the items of a list, and of their plain forms.
use Rattle.std.proofs.Common.{◌≡◌, suc, Bool, true, false, cond, ◌&&◌, ◌||◌, List, [], ◌∷◌, map}
use Rattle.std.proofs.Common.{filter, length, slice_get, find, Option, Some, None, refl, ap, ◌∙◌}
use Rattle.std.specs.List.{list_any}
use Rattle.std.specs.Borrow.{Bor}
use Rattle.std.specs.Option.{option_map}
use Rattle.sv_flat.specs.declared.statements.Piece.{Piece}
use Rattle.sv_flat.specs.Design.{PieceForm}
use Rattle.sv_flat.specs.Views.{piece_form}

module _ {X Y : Type 0} (form : X → Y) (test : Y → Bool) where
  abbrev asked : X → Bool
  asked x = test (form x)

  pub any_formed : (xs : List X) → list_any asked xs ≡ list_any test (map form xs)
  any_formed [] = refl
  any_formed (x ∷ xs) = ap (λ b. asked x || b) (any_formed xs)

  pub count_formed : (xs : List X)
      → length (filter asked xs) ≡ length (filter test (map form xs))
  count_formed [] = refl
  count_formed (x ∷ xs) = by (asked x) (count_formed xs)
    where
      by : (b : Bool) → length (filter asked xs) ≡ length (filter test (map form xs))
          → length (cond b (x ∷ filter asked xs) (filter asked xs))
          ≡ length (cond b (form x ∷ filter test (map form xs)) (filter test (map form xs)))
      by true rest = ap suc rest
      by false rest = rest

  -- the first of those that pass
  pub first_formed : (xs : List X)
      → option_map form (find asked xs) ≡ slice_get (filter test (map form xs)) 0
  first_formed [] = refl
  first_formed (x ∷ xs) = by (asked x) (first_formed xs)
    where
      by : (b : Bool)
          → option_map form (find asked xs) ≡ slice_get (filter test (map form xs)) 0
          → option_map form (cond b (Some x) (find asked xs))
          ≡ slice_get (cond b (form x ∷ filter test (map form xs)) (filter test (map form xs))) 0
      by true rest = refl
      by false rest = rest

-- some of those picked passes where some item is picked and passes
pub any_picked : {X : Type 0} (pick test : X → Bool) (xs : List X)
    → list_any (λ x. pick x && test x) xs ≡ list_any test (filter pick xs)
any_picked pick test [] = refl
any_picked pick test (x ∷ xs) = by (pick x) (any_picked pick test xs)
  where
    by : (b : Bool) → list_any (λ y. pick y && test y) xs ≡ list_any test (filter pick xs)
        → ((b && test x) || list_any (λ y. pick y && test y) xs)
        ≡ list_any test (cond b (x ∷ filter pick xs) (filter pick xs))
    by true rest = ap (λ c. test x || c) rest
    by false rest = rest

-- a part of the plain form, where a reference leads to what has that form
pub part_formed : {A X Y Z : Type 0} (now : A → X) (form : X → Y) (part : Y → Z) (o : Option A)
    → option_map (λ a. part (form (now a))) o
    ≡ option_map part (option_map form (option_map now o))
part_formed now form part None = refl
part_formed now form part (Some a) = refl

-- a part of the first piece that passes, as `find` and `map` gave it
pub first_part : {Z : Type 0} (test : PieceForm → Bool) (part : PieceForm → Z)
    (pieces : List Piece) (first : Option (Bor Piece)) (given : Option Z)
    → option_map (λ (p : Bor Piece). p.now) first ≡ find (λ (p : Piece). test (piece_form p)) pieces
    → given ≡ option_map (λ (p : Bor Piece). part (piece_form p.now)) first
    → given ≡ option_map part (slice_get (filter test (map piece_form pieces)) 0)
first_part test part pieces first given found made =
    made
    ∙ part_formed (λ (p : Bor Piece). p.now) piece_form part first
    ∙ ap (λ (o : Option Piece). option_map part (option_map piece_form o)) found
    ∙ ap (option_map part) (first_formed piece_form test pieces)
