use Rattle.sv_flat.proofs.NumberedRuns.{no_branch}
use Rattle.sv_flat.proofs.runs.selected.Goals as goal

pub returns : goal.returns
returns c = record {
  sound = c.loop-body.invariant.0;
  nonblocking = c.loop-body.invariant.1;
  run = c.loop-body.invariant.2;
  taken = no_branch c.loop-body.body.now c.in_default.not-If;
  depth = c.loop-body.invariant.3;
}
