use Rattle.std.proofs.Common.{◌≡◌, map}
use Rattle.sv_flat.specs.Views.{design_of}
use Rattle.sv_paths.specs.ListParts.{IsAt, obligations_before}
use Rattle.sv_obl.specs.Views.{obligation_of}
use Rattle.sv_paths.proofs.listing.queries_of_targets.Given as goal

-- the targets so far are listed
abbrev pub invariant-loop-s : goal.invariant-loop-s
invariant-loop-s l = record {
  at : IsAt (design_of l.design) l.s l.listing;
  listed : map obligation_of l.queries.items ≡ obligations_before (design_of l.design) l.s;
}
