-- How many obligations a design may have (this project's profile).
use Rattle.std.specs.Prelude.{ℕ, ◌+◌, nat_lt, if◌then◌else◌, List, [], ◌∷◌, length, flat_map}
use Rattle.std.specs.Prelude.{Option, Some, None}
use Rattle.std.specs.List.{list_any}
use Rattle.sv_flat.specs.Design.{ProcessForm, FlatDesign}
use Rattle.sv_flat.specs.Processes.{signal_numbers, drivers}
use Rattle.sv_flat.specs.Clocks.{processes_of}
use Rattle.sv_obl.specs.Paths.{Path, paths}
use Rattle.sv_obl.specs.Obligations.{selector_obligations}

-- what exceeds a limit
pub data Excess : Type 0 where
  -- rule 702: over 4,096 paths of the target
  many_paths : (target : ℕ) → Excess
  -- rule 712: over 65,536 nodes put into one path of the target
  large_path : (target : ℕ) → Excess
  -- rule 703: over 65,536 obligations
  many_obligations : Excess

abbrev pub target_paths : FlatDesign → (target : ℕ) → List Path
target_paths design s =
    flat_map (λ (p : ProcessForm).
    paths design.signals s p.kind p.body) (drivers (processes_of design) s)

-- The first limit that is exceeded by the targets, where those before them have so many
-- obligations: for each target 702 is asked first, then 712, then the sum; the obligations of
-- selectors come last.
abbrev pub first_excess : FlatDesign → (obligations : ℕ) → (targets : List ℕ) → Option Excess
first_excess design total [] =
    if nat_lt 65536 (total + length
    (flat_map (selector_obligations [] design) (signal_numbers design)))
    then Some many_obligations
    else None
first_excess design total (s ∷ targets) =
    let found = target_paths design s in
    if nat_lt 4096 (length found) then Some (many_paths s)
    else if list_any (λ (path : Path). nat_lt 65536 path.nodes) found then Some (large_path s)
    else if nat_lt 65536 (total + length found) then Some many_obligations
    else first_excess design (total + length found) targets

-- the limit that a design exceeds, if it exceeds one
abbrev pub excess : FlatDesign → Option Excess
excess design = first_excess design 0 (signal_numbers design)
