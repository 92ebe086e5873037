-- Which flat designs have a meaning: those that break none of the rules 601 to 607 (this project's
-- profile).
use Rattle.std.specs.Prelude.{◌≡◌, ◌⊎◌, ℕ, IsFalse, List, [], ◌++◌, map, Contains}
use Rattle.sv_num.specs.declared.faults.Place.{Place}
use Rattle.sv_flat.specs.Design.{FlatDesign}
use Rattle.sv_flat.specs.Values.{signal_of}
use Rattle.sv_flat.specs.Breaches.{Breach, comes_before}
use Rattle.sv_flat.specs.Assignments.{wrong_assigns}
use Rattle.sv_flat.specs.Drivers.{clock_faults, driver_faults, undriven}
use Rattle.sv_flat.specs.Blocks.{latches, phase_faults}
use Rattle.sv_flat.specs.Loops.{IsLoop, HasReadOrder}

-- the breaches of the rules 601 to 606
abbrev pub breaches : FlatDesign → List Breach
breaches design =
    wrong_assigns design
    ++ clock_faults design
    ++ driver_faults design
    ++ undriven design
    ++ latches design
    ++ phase_faults design

-- the design breaks a rule
abbrev pub Breaks : FlatDesign → Breach → Type 0
Breaks design b = Contains (breaches design) b ⊎ IsLoop design b

-- Rules go by number; within one rule the first place counts, and at equal places the lower signal.
-- Of the circles that begin at one signal any may be the first.
pub record IsFirstBreach (design : FlatDesign) (first : Breach) : Type 0 where
  pub broken : Breaks design first
  pub before : (other : Breach) → Breaks design other → IsFalse (comes_before other first)

-- the names of a breach's signals
abbrev pub names_of : FlatDesign → Breach → List (List ℕ)
names_of design b = map (λ s. (signal_of design.signals s).name) b.signals

-- the design is refused for a rule, at a place, with names
abbrev pub IsRefused : FlatDesign → (number : ℕ) → Place → (names : List (List ℕ)) → Type 0
IsRefused design number place names =
    (b : Breach) × IsFirstBreach design b × (b.number ≡ number) × (b.place ≡ place)
    × (names_of design b ≡ names)

-- none of the rules is broken
pub record IsAdmitted (design : FlatDesign) : Type 0 where
  pub unbroken : breaches design ≡ []
  pub ordered : HasReadOrder design
