-- Private: how the code goes. Where the processes of one kind stand among all processes.
use Rattle.std.specs.Prelude.{◌≡◌, ℕ, ◌<◌, Bool, true, false, not, List, length, map, filter}
use Rattle.std.specs.Prelude.{Contains}
use Rattle.sv_flat.specs.Design.{ProcessForm, FlatDesign}
use Rattle.sv_flat.specs.Clocks.{processes_of}
use Rattle.sv_flat.specs.Processes.{is_clocked}
use Rattle.sv_sim.specs.Simulations.{process_at}

-- a clocked process, or one that is not
abbrev pub is_of_kind : (clocked : Bool) → ProcessForm → Bool
is_of_kind true p = is_clocked p.kind
is_of_kind false p = not (is_clocked p.kind)

-- the places of the clocked processes, or of the others, in order
pub record ArePlaces (design : FlatDesign) (clocked : Bool) (places : List ℕ) : Type 0 where
  pub within : (place : ℕ) → Contains places place → place < length (processes_of design)
  pub are : map (process_at design) places ≡ filter (is_of_kind clocked) (processes_of design)
