use Rattle.sv_flat.specs.Drivers.{is_undriven}
use Rattle.sv_flat.specs.Views.{design_of}
use Rattle.sv_rules.proofs.Firsts.{FindsUpTo}
use Rattle.sv_rules.proofs.drivers.first_undriven.Given as goal

abbrev pub invariant-loop-i : goal.invariant-loop-i
invariant-loop-i l =
    let design = design_of l.flat in
    FindsUpTo design 604 (is_undriven design) l.i l.found
