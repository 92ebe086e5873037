use Rattle.std.proofs.Common.{sym, ap, ◌∙◌}
use Rattle.sv_flat.specs.Clocks.{is_least_label}
use Rattle.sv_rules.proofs.ClockFaults.{least_is}
use Rattle.sv_rules.proofs.clock_rule.is_least_label.Goals as goal

pub returns-in-Point : goal.returns-in-Point
returns-in-Point c =
    let lattice = c.args.lattice.now in
    let least = c.least.ensures in
    least_is lattice c.least.result.0 c.in-Point.point.0 least.lattice least.point least.least
    ∙ ap (is_least_label lattice) (sym c.in-Point.is)
