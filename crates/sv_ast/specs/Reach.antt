-- What declared pairs lead to, step by step.
use Rattle.std.specs.Prelude.{ℕ, Bool, List, ◌++◌, map, filter, Contains}
use Rattle.std.specs.List.{list_any}
use Rattle.std.specs.Fn.{iterate}

-- a list of steps, each by one of the pairs, leads from the first to the second
pub data Leads {X : Type 0} (pairs : List (X × X)) : X → X → Type 0 where
  here : {a : X} → Leads pairs a a
  step : {a b c : X} → Contains pairs (a, b) → Leads pairs b c → Leads pairs a c

-- whether a list holds what is the same as x
abbrev pub holds : {X : Type 0} → (same : X → X → Bool) → List X → X → Bool
holds same xs x = list_any (same x) xs

-- a list, and what a pair leads to from a member of it
abbrev pub led_on : {X : Type 0} → (same : X → X → Bool) → List (X × X) → List X → List X
led_on same pairs xs = xs ++ map (λ pair. pair.1) (filter (λ pair. holds same xs pair.0) pairs)

-- what is reached from a list in at most so many steps
abbrev pub reached : {X : Type 0} → (same : X → X → Bool) → List (X × X) → (steps : ℕ) → List X
    → List X
reached same pairs steps xs = iterate (led_on same pairs) steps xs
