use Rattle.std.proofs.Common.{◌≡◌, ◌^◌, ◌<◌}
use Rattle.sv_width.specs.Pushed.{behind_times}
use Rattle.sv_width.proofs.folding.repeated.Given as goal

abbrev pub invariant-loop-time : goal.invariant-loop-time
invariant-loop-time l = record {
  so_far : l.whole ≡ behind_times l.width l.time l.value_width l.value;
  low : l.whole < 2 ^ l.width;
}
