-- Loops over signals: the number at a turn, and those that are left.
use Rattle.std.proofs.Common.{◌≡◌, ℕ, zero, suc, ◌+◌, ◌<◌, ◌≤◌, List, [], ◌∷◌, map, drop, length, get_or, refl, ap, sym, ◌∙◌}
use Rattle.std.proofs.Common.{subst, arith}
use Rattle.std.specs.Prelude.{All, Contains}
use Rattle.std.proofs.lemmas.List.{drop_more, drop_all, length-map, get_or-map}
use Rattle.std.proofs.lemmas.List.Elements.{Contains-get_or}
use Rattle.sv_flat.specs.declared.signals.SigId.{SigId}
use Rattle.sv_flat.specs.declared.signals.Signal.{Signal}
use Rattle.sv_flat.specs.Values.{signal_width}
use Rattle.sv_flat.specs.Views.{signal_form}
use Rattle.sv_design.specs.Numbers.{numbers}

-- what is left of a list at a turn, by the item there
pub turn_at : {A : Type 0} (items : List A) (i : ℕ) (item : A) → i < length items →
    item ≡ get_or items i item → drop i items ≡ item ∷ drop (i + 1) items
turn_at items i item inside is =
    drop_more items i item inside ∙ ap (λ z. z ∷ drop (i + 1) items) (sym is)

abbrev pub none : SigId
none = record { 0 = 0 }

module _ (signals : List SigId) (i : ℕ) (inside : i < length signals) where
  here : get_or (numbers signals) i 0 ≡ (get_or signals i none).0
  here = get_or-map (λ (s : SigId). s.0) signals i none 0 inside

  listed : i < length (numbers signals)
  listed = omega (arith, inside, length-map signals (λ (s : SigId). s.0))

  -- what holds of each number holds of this one
  pub number_at : (P : ℕ → Type 0) → All P (numbers signals) → P (get_or signals i none).0
  number_at P all = subst P here (all i 0 listed)

  pub number_in : Contains (numbers signals) (get_or signals i none).0
  number_in = subst (Contains (numbers signals)) here (Contains-get_or (numbers signals) i 0 listed)

  pub numbers_turn :
      numbers (drop i signals) ≡ (get_or signals i none).0 ∷ numbers (drop (i + 1) signals)
  numbers_turn = ap numbers (drop_more signals i none inside)

pub numbers_end : (signals : List SigId) (i : ℕ) → length signals ≤ i →
    numbers (drop i signals) ≡ []
numbers_end signals i end = ap numbers (drop_all i signals end)

-- the width of a signal, by its form and as it stands in the list
pub width_here : (signals : List Signal) (s : ℕ) (x : Signal) → s < length signals →
    signal_width (map signal_form signals) s ≡ (get_or signals s x).width
width_here [] s x inside = absurd (omega arith)
width_here (y ∷ signals) zero x inside = refl
width_here (y ∷ signals) (suc s) x inside = width_here signals s x (omega arith)

-- the same of the signal at a turn, in a list that is the design's
pub width_at : (listed items : List Signal) (signals : List SigId) (i : ℕ) (x : Signal) →
    i < length signals → All (λ s. s < length listed) (numbers signals) → items ≡ listed →
    signal_width (map signal_form listed) (get_or signals i none).0
    ≡ (get_or items (get_or signals i none).0 x).width
width_at listed items signals i x inside known are =
    let s = (get_or signals i none).0 in
    width_here listed s x (number_at signals i inside (λ k. k < length listed) known)
    ∙ ap (λ (z : List Signal). (get_or z s x).width) (sym are)
