-- The first so many elements of a list.
use Rattle.std.proofs.Common.{◌≡◌, ℕ, zero, suc, ◌+◌, ◌<◌, ◌≤◌, List, [], ◌∷◌, length, take}
use Rattle.std.proofs.Common.{◌⊎◌, inl, inr, ⊎_elim, sym, subst, arith}
use Rattle.std.specs.Prelude.{Contains, slice_index}
use Rattle.std.proofs.lemmas.List.{take_more}
use Rattle.sv_system.proofs.Lists.{Contains-head, Contains-later, Contains-nil, Contains-cases}
use Rattle.sv_flat.proofs.Members.{Contains-right, Contains-either}

-- they are elements of the list
pub from_front : (xs : List ℕ) (i x : ℕ) → Contains (take i xs) x → Contains xs x
from_front [] zero x at = absurd (Contains-nil x at)
from_front [] (suc i) x at = absurd (Contains-nil x at)
from_front (z ∷ xs) zero x at = absurd (Contains-nil x at)
from_front (z ∷ xs) (suc i) x at = ⊎_elim
    (λ e. subst (Contains (z ∷ xs)) e (Contains-head z xs))
    (λ later. Contains-later z xs x (from_front xs i x later))
    (Contains-cases z (take i xs) x at)

-- each of them stands at a place before the front's end
pub record StandsBefore (xs : List ℕ) (i s : ℕ) : Type 0 where
  pub place : ℕ
  pub before : place < i
  pub inside : place < length xs
  pub here : slice_index xs place ≡ s

pub place_before : (xs : List ℕ) (i s : ℕ) → Contains (take i xs) s → StandsBefore xs i s
place_before [] zero s at = absurd (Contains-nil s at)
place_before [] (suc i) s at = absurd (Contains-nil s at)
place_before (x ∷ xs) zero s at = absurd (Contains-nil s at)
place_before (x ∷ xs) (suc i) s at = ⊎_elim
    (λ same. record { place = 0; before = omega arith; inside = omega arith; here = same })
    (λ later.
    let found = place_before xs i s later in
    record {
      place = suc found.place;
      before = omega arith;
      inside = omega arith;
      here = found.here;
    })
    (Contains-cases x (take i xs) s at)

pub longer_front : (xs : List ℕ) (k i s : ℕ) → k ≤ i → Contains (take k xs) s →
    Contains (take i xs) s
longer_front [] zero i s le at = absurd (Contains-nil s at)
longer_front [] (suc k) i s le at = absurd (Contains-nil s at)
longer_front (x ∷ xs) zero i s le at = absurd (Contains-nil s at)
longer_front (x ∷ xs) (suc k) zero s le at = absurd (omega arith)
longer_front (x ∷ xs) (suc k) (suc i) s le at = ⊎_elim
    (λ same. subst (Contains (x ∷ take i xs)) same (Contains-head x (take i xs)))
    (λ later. Contains-later x (take i xs) s (longer_front xs k i s (omega arith) later))
    (Contains-cases x (take k xs) s at)

module _ (xs : List ℕ) (i : ℕ) (inside : i < length xs) where
  -- a front that is longer by one has the element at its last place
  pub last_in_front : Contains (take (i + 1) xs) (slice_index xs i)
  last_in_front =
      let x = slice_index xs i in
      subst (λ zs. Contains zs x) (sym (take_more xs i 0 inside))
      (Contains-right (take i xs) (x ∷ []) x (Contains-head x []))

  -- and else what stood in front before
  pub front_or_last : (s : ℕ) → Contains (take (i + 1) xs) s →
      Contains (take i xs) s ⊎ (slice_index xs i ≡ s)
  front_or_last s at = ⊎_elim
      (λ before. inl before)
      (λ last. ⊎_elim
      (λ same. inr same)
      (λ none. absurd (Contains-nil s none))
      (Contains-cases (slice_index xs i) [] s last))
      (Contains-either (take i xs) (slice_index xs i ∷ []) s
      (subst (λ zs. Contains zs s) (take_more xs i 0 inside) at))
