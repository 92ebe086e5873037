use Rattle.sv_flat.specs.Views.{design_of}
use Rattle.sv_design.specs.Circles.{FindsCircleBelow}
use Rattle.sv_design.proofs.loops.first_circle.Given as goal

-- the circle is the first of those that begin at the signals so far
abbrev pub invariant-loop-s : goal.invariant-loop-s
invariant-loop-s l = FindsCircleBelow (design_of l.flat) l.s l.circle
