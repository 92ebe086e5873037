use Rattle.std.proofs.Common.{◌≡◌, ◌+◌, ◌≤◌, min, drop}
use Rattle.sv_elab_stmt.specs.Targets.{parts_width}
use Rattle.sv_elab_stmt.proofs.targets.total_width.Given as goal

-- the bits so far and those that are left are all, up to the limit
abbrev pub invariant-loop-part : goal.invariant-loop-part
invariant-loop-part l = record {
  all : min (l.total + parts_width (drop l.part-index l.parts)) 4294967295 ≡
      min (parts_width l.parts) 4294967295;
  few : l.total ≤ 4294967295;
}
