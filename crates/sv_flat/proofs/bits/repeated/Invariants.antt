use Rattle.std.proofs.Common.{◌≡◌, ◌*◌, ◌^◌, ◌<◌}
use Rattle.sv_num.specs.Parts.{repeated}
use Rattle.sv_flat.proofs.bits.repeated.Given as goal

-- the value so many times as there were turns
abbrev pub invariant-loop : goal.invariant-loop
invariant-loop l =
    (l.all ≡ repeated l.counter l.width l.value) × (l.all < 2 ^ (l.counter * l.width))
