use Rattle.sv_flat.specs.Blocks.{latches}
use Rattle.sv_flat.specs.Views.{design_of}
use Rattle.sv_rules.proofs.FirstBreaches.{found_none, first_latched, first_phase}
use Rattle.sv_rules.proofs.checks.check_blocks.Goals as goal

pub refuse-requires-clause-first : goal.refuse-requires-clause-first
refuse-requires-clause-first c =
    first_latched (design_of c.args.flat.now) c.requires.sound c.in_ok-faults.faults.latch
    c.requires.unbroken c.in_ok-faults.ensures.0

pub refuse-requires-2-clause-first : goal.refuse-requires-2-clause-first
refuse-requires-2-clause-first c =
    let design = design_of c.args.flat.now in
    first_phase design c.requires.sound c.in_ok-faults.faults.phase c.requires.unbroken
    (found_none design c.requires.sound 605 (latches design) c.in_ok-faults.faults.latch
    c.in_ok-faults.ensures.0 c.in_ok-refuse.ensures.none)
    c.in_ok-faults.ensures.1
