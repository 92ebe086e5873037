use Rattle.std.proofs.Common.{◌≡◌, ◌^◌, min}
use Rattle.sv_circuits.proofs.selectors.power_within.Given as goal

abbrev pub invariant-powers : goal.invariant-powers
invariant-powers l = l.power ≡ min (2 ^ l.counter) 18446744073709551615
