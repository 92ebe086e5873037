-- The first of some breaches of one rule.
use Rattle.std.specs.Prelude.{◌≡◌, ℕ, Bool, nat_lt, List, [], Option, Some, None, Contains, IsFalse}
use Rattle.std.specs.Prelude.{if◌then◌else◌}
use Rattle.sv_flat.specs.Breaches.{Breach, breach, then_by, comes_before}
use Rattle.sv_rules.specs.declared.found.Found.{Found}

-- the breach of the rule with this number
abbrev pub breach_of : ℕ → Found → Breach
breach_of number found = breach number found.place found.signal.0

-- the first breach of a list: none of the list comes before it
pub record IsFirst (breaches : List Breach) (first : Breach) : Type 0 where
  pub among : Contains breaches first
  pub before : (other : Breach) → Contains breaches other → IsFalse (comes_before other first)

-- what was found is the first breach of the list, or the list is empty
abbrev pub FindsFirst : (number : ℕ) → List Breach → Option Found → Type 0
FindsFirst number breaches None = breaches ≡ []
FindsFirst number breaches (Some found) = IsFirst breaches (breach_of number found)

-- by line, then column, then signal
abbrev pub found_before : Found → Found → Bool
found_before a b =
    then_by a.place.line b.place.line
    (then_by a.place.column b.place.column
    (nat_lt a.signal.0 b.signal.0))

abbrev pub first_found : Option Found → Option Found → Option Found
first_found None other = other
first_found (Some found) None = Some found
first_found (Some found) (Some other) = Some (if found_before other found then other else found)
