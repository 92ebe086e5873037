use Rattle.std.proofs.Common.{◌≡◌, ◌+◌}
use Rattle.sv_flat.specs.Views.{design_of}
use Rattle.sv_blast.specs.Coders.{IsCoder}
use Rattle.sv_judge.specs.Progress.{HasDone}
use Rattle.sv_judge.proofs.checking.decide_paths.Given as goal

-- the coder is still one, and those so far are decided
abbrev pub invariant-loop-place : goal.invariant-loop-place
invariant-loop-place l = record {
  coder : IsCoder (design_of l.design) l.coder;
  counted : l.progress.count ≡ l.initial.progress.count + l.place;
  done : HasDone (design_of l.design) l.budget l.progress;
  keeps : l.progress.keeps ≡ l.initial.progress.keeps;
}
