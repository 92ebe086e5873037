use Rattle.std.proofs.Common.{subst}
use Rattle.sv_flat.specs.Views.{design_of}
use Rattle.sv_design.specs.Circles.{FindsCircleFrom}
use Rattle.sv_design.proofs.FirstCircles.{starts_here}
use Rattle.sv_design.proofs.loops.likely_circle.Goals as goal

pub returns-in-Some-2 : goal.returns-in-Some-2
returns-in-Some-2 c =
    let design = design_of c.args.flat.now in
    starts_here design c.in-Some.first c.in-Some.ensures.1 c.in-Some-2.signals
    (subst (FindsCircleFrom design c.in-Some.first.signal.0) c.in-Some-2.is
    (c.in_ok-signals.ensures design c.requires.reads))
