use Rattle.std.proofs.Common.{◌≡◌, ◌+◌, length}
use Rattle.sv_flat.specs.Views.{design_of}
use Rattle.sv_blast.specs.Coders.{IsCoder}
use Rattle.sv_judge.specs.Progress.{HasDone}
use Rattle.sv_judge.proofs.checking.decide_part.Given as goal

-- the coder is still one, and those so far are decided
abbrev pub invariant-loop-query : goal.invariant-loop-query
invariant-loop-query l = record {
  coder : IsCoder (design_of l.design) l.coder;
  counted : l.progress.count ≡ l.initial.progress.count + length l.yielded;
  done : HasDone (design_of l.design) l.budget l.progress;
  keeps : l.progress.keeps ≡ l.initial.progress.keeps;
}
