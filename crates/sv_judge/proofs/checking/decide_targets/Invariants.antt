use Rattle.std.proofs.Common.{◌≡◌}
use Rattle.sv_flat.specs.Views.{design_of}
use Rattle.sv_paths.specs.ListParts.{IsAt}
use Rattle.sv_blast.specs.Coders.{IsCoder}
use Rattle.sv_judge.specs.Progress.{HasDone}
use Rattle.sv_judge.proofs.checking.decide_targets.Given as goal

-- the coder is still one, and those of the targets so far are decided
abbrev pub invariant-loop-s : goal.invariant-loop-s
invariant-loop-s l = record {
  coder : IsCoder (design_of l.design) l.coder;
  at : IsAt (design_of l.design) l.s l.listing;
  same : l.progress.count ≡ l.listing.count;
  done : HasDone (design_of l.design) l.budget l.progress;
  keeps : l.progress.keeps ≡ l.initial.progress.keeps;
}
