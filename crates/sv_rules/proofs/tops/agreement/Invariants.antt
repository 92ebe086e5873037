use Rattle.std.proofs.Common.{◌≡◌}
use Rattle.sv_graph.specs.Marks.{IsTable}
use Rattle.sv_rules.specs.Tops.{both_have, some_before, agrees_by}
use Rattle.sv_rules.proofs.tops.agreement.Given as goal

abbrev pub invariant-loop-s : goal.invariant-loop-s
invariant-loop-s l = IsTable l.s l.agree.items (agrees_by l.clocks l.led l.astray)
    × (l.some_led ≡ some_before (both_have l.clocks l.led) l.s)
    × (l.some_astray ≡ some_before (both_have l.clocks l.astray) l.s)
