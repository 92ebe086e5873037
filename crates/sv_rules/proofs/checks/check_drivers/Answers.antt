use Rattle.sv_flat.specs.Views.{design_of}
use Rattle.sv_rules.proofs.FirstBreaches.{first_assign, first_clock, first_extra}
use Rattle.sv_rules.proofs.FirstBreaches.{first_lacking}
use Rattle.sv_rules.proofs.checks.check_drivers.Goals as goal

pub refuse-requires-clause-first : goal.refuse-requires-clause-first
refuse-requires-clause-first c =
    first_assign (design_of c.args.flat.now) c.requires c.in_ok-assign.assign
    c.in_ok-assign.ensures

pub refuse-requires-2-clause-first : goal.refuse-requires-2-clause-first
refuse-requires-2-clause-first c =
    first_clock (design_of c.args.flat.now) c.requires c.in_ok-assign.assign
    c.in_ok-assign.ensures c.in_ok-refuse.ensures.none c.in_ok-clock.clock c.in_ok-clock.ensures

pub refuse-requires-3-clause-first : goal.refuse-requires-3-clause-first
refuse-requires-3-clause-first c =
    first_extra (design_of c.args.flat.now) c.requires c.in_ok-assign.assign c.in_ok-clock.clock
    c.in_ok-assign.ensures c.in_ok-refuse.ensures.none c.in_ok-clock.ensures
    c.in_ok-refuse-2.ensures.none c.first_extra_driver-extra.result
    c.first_extra_driver-extra.ensures

pub refuse-requires-4-clause-first : goal.refuse-requires-4-clause-first
refuse-requires-4-clause-first c =
    first_lacking (design_of c.args.flat.now) c.requires c.in_ok-assign.assign c.in_ok-clock.clock
    c.in_ok-assign.ensures c.in_ok-refuse.ensures.none c.in_ok-clock.ensures
    c.in_ok-refuse-2.ensures.none c.first_extra_driver-extra.result
    c.first_extra_driver-extra.ensures c.in_ok-refuse-3.ensures.none
    c.first_undriven-lacking.result c.first_undriven-lacking.ensures
