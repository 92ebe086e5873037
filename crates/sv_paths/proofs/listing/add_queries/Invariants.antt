use Rattle.std.proofs.Common.{◌≡◌, ◌++◌, map, take}
use Rattle.sv_flat.specs.Views.{design_of}
use Rattle.sv_paths.specs.ListParts.{obligations_on}
use Rattle.sv_obl.specs.Views.{obligation_of}
use Rattle.sv_paths.proofs.listing.add_queries.Given as goal

-- those of the paths so far are added
abbrev pub invariant-loop-place : goal.invariant-loop-place
invariant-loop-place l = map obligation_of l.queries.items
    ≡ map obligation_of l.initial.queries.items
    ++ take l.place (obligations_on (design_of l.design) l.paths)
