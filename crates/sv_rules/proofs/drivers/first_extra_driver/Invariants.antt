use Rattle.std.specs.List.{filter_map, range_with_len}
use Rattle.sv_flat.specs.Drivers.{driver_fault}
use Rattle.sv_flat.specs.Views.{design_of}
use Rattle.sv_rules.specs.First.{FindsFirst}
use Rattle.sv_rules.proofs.drivers.first_extra_driver.Given as goal

abbrev pub invariant-loop-i : goal.invariant-loop-i
invariant-loop-i l =
    FindsFirst 603 (filter_map (driver_fault (design_of l.flat)) (range_with_len 0 l.i)) l.found
