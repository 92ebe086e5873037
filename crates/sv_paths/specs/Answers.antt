-- What the calls answer to the limits (`Told`, `Answers`, `Lists`), and how the walk through all
-- targets comes to it. Which obligations a design has stands in `Obligations` of `sv_obl`, and how
-- many it may have in `Limits`.
use Rattle.std.specs.Prelude.{◌≡◌, ℕ, ◌+◌, nat_lt, if◌then◌else◌, List, [], length, map, filter}
use Rattle.std.specs.Prelude.{not}
use Rattle.std.specs.Prelude.{Option, Some, None, Result, Ok, Err}
use Rattle.std.specs.List.{list_any}
use Rattle.std.specs.Global.{Vec}
use Rattle.sv_obl.specs.declared.queries.Query.{Query}
use Rattle.sv_lattice.specs.Labels.{map_of}
use Rattle.sv_flat.specs.Values.{signal_of}
use Rattle.sv_obl.specs.Obligations.{Obligation, obligations}
use Rattle.sv_flat.specs.Selectors.{flows_to_rows, rows_of, selectors_of}
use Rattle.sv_obl.specs.Obligations.{selector_obligation}
use Rattle.sv_lattice.specs.declared.labels.Label.{Label}
use Rattle.sv_obl.specs.Views.{obligation_of}
use Rattle.sv_paths.specs.declared.faults.OblFault.{OblFault}
use Rattle.sv_paths.specs.declared.faults.OblFault.TheVariants.{Paths, Large, Many, OutOfMemory}
use Rattle.sv_flat.specs.Design.{FlatDesign}
use Rattle.sv_obl.specs.Paths.{Path}
use Rattle.sv_paths.specs.Limits.{target_paths, excess}
use Rattle.sv_paths.specs.Limits.{Excess, many_paths, large_path, many_obligations}

-- the fault tells of the limit that is exceeded
abbrev pub Told : Option Excess → OblFault → Type 0
Told exceeded (Paths s) = exceeded ≡ Some (many_paths s.0)
Told exceeded (Large s) = exceeded ≡ Some (large_path s.0)
Told exceeded Many = exceeded ≡ Some many_obligations
Told exceeded OutOfMemory = Unit {0}

-- an answer where no limit is exceeded, else a fault that tells of it; memory may run out always
abbrev pub Answers : {T : Type 0} → Option Excess → Result T OblFault → Type 0
Answers exceeded (Ok x) = exceeded ≡ None
Answers exceeded (Err fault) = Told exceeded fault

-- ---- designs

-- one target's part of the walk, after so many obligations
abbrev pub excess_at : FlatDesign → (total target : ℕ) → Option Excess
excess_at design total s =
    let found = target_paths design s in
    if nat_lt 4096 (length found) then Some (many_paths s)
    else if list_any (λ (path : Path). nat_lt 65536 path.nodes) found then Some (large_path s)
    else if nat_lt 65536 (total + length found) then Some many_obligations
    else None

-- exactly the obligations of the design where it exceeds no limit, else the limit that it exceeds
abbrev pub Lists : FlatDesign → Result (Vec Query) OblFault → Type 0
Lists design (Ok queries) =
    (map obligation_of queries.items ≡ obligations [] design) × (excess design ≡ None)
Lists design (Err fault) = Told (excess design) fault

-- the obligations of some selectors by a map, for the label of a signal
abbrev pub asked_of : FlatDesign → (signal map_number : ℕ) → (selectors : List ℕ) → List Obligation
asked_of design s k selectors =
    map (selector_obligation [] s) (filter (λ t. not (flows_to_rows design.lattice
    (map_of design.maps k) (signal_of design.signals t).label)) selectors)

-- those of the selectors of a label
abbrev pub asked_by : FlatDesign → (signal : ℕ) → Label → List Obligation
asked_by design s label =
    map (selector_obligation [] s) (filter (λ t. not (flows_to_rows design.lattice
    (rows_of design label) (signal_of design.signals t).label)) (selectors_of label))
