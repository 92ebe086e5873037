-- What a refusal says, whatever buffer holds its names.
use Rattle.std.specs.Prelude.{◌≡◌, ℕ, List}
use Rattle.sv_num.specs.declared.faults.Place.{Place}
use Rattle.sv_num.specs.declared.faults.Refusal.{Refusal}
use Rattle.sv_num.specs.declared.faults.Fault.{Fault}
use Rattle.sv_num.specs.declared.faults.Fault.TheVariants.{Rule, OutOfMemory}

-- a refusal as its rule's number, its place and its names, each the list of its bytes
abbrev pub plain_refusal : Refusal → ℕ × Place × List (List ℕ)
plain_refusal r = (r.number, r.place, r.names.items)

-- the fault refuses the text for a rule, at a place, with names
abbrev pub Refuses : Fault → ℕ → Place → List (List ℕ) → Type 0
Refuses (Rule r) number place names = plain_refusal r ≡ (number, place, names)
Refuses OutOfMemory number place names = ⊥
