-- Broken rules, and which of them comes first (this project's profile).
use Rattle.std.specs.Prelude.{ℕ, Bool, ◌==◌, ◌&&◌, ◌||◌, nat_lt, List, [], ◌∷◌, slice_index}
use Rattle.sv_num.specs.declared.faults.Place.{Place}

-- a rule that is broken, by its number: where, and with which signals
pub record Breach : Type 0 where
  pub number : ℕ
  pub place : Place
  pub signals : List ℕ

-- a breach with one signal
abbrev pub breach : (number : ℕ) → Place → (signal : ℕ) → Breach
breach number place s = record { number = number; place = place; signals = s ∷ [] }

-- two things by their numbers, or by a second order where those are equal
abbrev pub then_by : ℕ → ℕ → Bool → Bool
then_by a b next = nat_lt a b || (a == b) && next

abbrev pub first_signal : Breach → ℕ
first_signal b = slice_index b.signals 0

-- whether a breach comes before another: rules by number, then places by line and column, then the
-- lower signal
abbrev pub comes_before : Breach → Breach → Bool
comes_before a b =
    then_by a.number b.number
    (then_by a.place.line b.place.line
    (then_by a.place.column b.place.column
    (nat_lt (first_signal a) (first_signal b))))
