use Rattle.std.proofs.Common.{◌≡◌, ◌++◌, drop}
use Rattle.sv_flat.proofs.designs.maps_copy.Given as goal

-- the copies so far and the maps that are left are all
abbrev pub invariant-loop-map : goal.invariant-loop-map
invariant-loop-map l = l.copies.items ++ drop l.map-index l.maps ≡ l.maps
