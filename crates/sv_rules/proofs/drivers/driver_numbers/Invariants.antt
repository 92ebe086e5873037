use Rattle.std.proofs.Common.{◌≡◌, None, map, get_or}
use Rattle.std.specs.Prelude.{option_map}
use Rattle.std.specs.List.{range_with_len}
use Rattle.sv_rules.specs.declared.drivers.Driver.{Driver}
use Rattle.sv_rules.proofs.drivers.driver_numbers.Given as goal

abbrev pub invariant-loop-i : goal.invariant-loop-i
invariant-loop-i l =
    l.numbers.items ≡ map (λ s. option_map (λ (d : Driver). d.process) (get_or l.first s None))
    (range_with_len 0 l.i)
