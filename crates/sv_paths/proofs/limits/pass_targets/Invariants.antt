use Rattle.sv_flat.specs.Views.{design_of}
use Rattle.sv_paths.specs.ListParts.{IsAt}
use Rattle.sv_paths.proofs.limits.pass_targets.Given as goal

-- the targets so far are counted
abbrev pub invariant-loop-s : goal.invariant-loop-s
invariant-loop-s l = IsAt (design_of l.design) l.s l.listing
