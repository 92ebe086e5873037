-- Private: how the code goes. The breaches of a design, and the names in a refusal, part by part.
use Rattle.std.specs.Prelude.{ℕ, List, ◌++◌, map}
use Rattle.sv_num.specs.declared.faults.Place.{Place}
use Rattle.sv_flat.specs.declared.signals.SigId.{SigId}
use Rattle.sv_flat.specs.Assignments.{wrong_assigns}
use Rattle.sv_flat.specs.Breaches.{Breach}
use Rattle.sv_flat.specs.Design.{FlatDesign}
use Rattle.sv_flat.specs.Drivers.{clock_faults, driver_faults, undriven}
use Rattle.sv_flat.specs.Values.{signal_of}
use Rattle.sv_graph.specs.Numbers.{numbers}

-- the breaches of the rules 601 to 604
abbrev pub driving_breaches : FlatDesign → List Breach
driving_breaches design =
    wrong_assigns design
    ++ clock_faults design
    ++ driver_faults design
    ++ undriven design

-- the breach of a rule at a place, with these signals
abbrev pub breach_with : (number : ℕ) → Place → List SigId → Breach
breach_with number place signals =
    record { number = number; place = place; signals = numbers signals }

-- the names of signals
abbrev pub names_at : FlatDesign → List ℕ → List (List ℕ)
names_at design signals = map (λ s. (signal_of design.signals s).name) signals
