use Rattle.sv_flat.specs.Views.{design_of}
use Rattle.sv_paths.specs.ListParts.{IsAt}
use Rattle.sv_messages.proofs.flows.listed_query.Given as goal

-- none of the targets so far has it
abbrev pub invariant-loop-s : goal.invariant-loop-s
invariant-loop-s l = record {
  at : IsAt (design_of l.design) l.s l.listing;
}
