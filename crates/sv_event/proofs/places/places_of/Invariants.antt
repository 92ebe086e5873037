use Rattle.std.proofs.Common.{◌≡◌, ℕ, ◌<◌, length, map, take}
use Rattle.std.specs.Prelude.{Contains, filter}
use Rattle.sv_flat.specs.Clocks.{processes_of}
use Rattle.sv_flat.specs.Views.{design_of}
use Rattle.sv_sim.specs.Simulations.{process_at}
use Rattle.sv_event.specs.Places.{is_of_kind}
use Rattle.sv_event.proofs.places.places_of.Given as goal

abbrev pub invariant-loop-place : goal.invariant-loop-place
invariant-loop-place l =
    let design = design_of l.design in
    ((p : ℕ) → Contains l.places.items p → p < length (processes_of design))
    × (map (process_at design) l.places.items ≡
    filter (is_of_kind l.clocked) (take l.place (processes_of design)))
