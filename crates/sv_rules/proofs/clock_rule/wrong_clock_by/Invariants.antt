use Rattle.sv_flat.specs.Views.{design_of}
use Rattle.sv_rules.proofs.Firsts.{FindsUpTo}
use Rattle.sv_rules.proofs.ClockFaults.{is_fault}
use Rattle.sv_rules.proofs.clock_rule.wrong_clock_by.Given as goal

abbrev pub invariant-loop-i : goal.invariant-loop-i
invariant-loop-i l =
    let design = design_of l.flat in
    FindsUpTo design 602 (is_fault design) l.i l.found
