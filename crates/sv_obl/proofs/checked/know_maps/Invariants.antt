use Rattle.std.proofs.Common.{take, All}
use Rattle.sv_lattice.specs.Maps.{MapRows, IsMap}
use Rattle.sv_obl.proofs.checked.know_maps.Given as goal

-- the maps so far
abbrev pub invariant-loop-map : goal.invariant-loop-map
invariant-loop-map l =
    All (λ (m : MapRows). IsMap m.first m.second m.rows) (take l.map-index l.maps)
