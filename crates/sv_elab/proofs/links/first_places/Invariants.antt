use Rattle.std.proofs.Common.{◌≡◌, ℕ, List, drop}
use Rattle.sv_ast.specs.Instances.{entry}
use Rattle.sv_elab.specs.Instances.{first_of, place_from}
use Rattle.sv_elab.proofs.links.first_places.Given as goal

-- the places so far, with those of the ports that are left, are all
abbrev pub invariant-loop-place : goal.invariant-loop-place
invariant-loop-place l = (n : List ℕ)
    → first_of (entry l.places.entries n) (place_from l.place (drop l.place l.ports) n) ≡
    place_from 0 l.ports n
