use Rattle.sv_flat.specs.Views.{design_of}
use Rattle.sv_design.specs.Circles.{IsBegin}
use Rattle.sv_design.proofs.loops.first_begin.Given as goal

-- what was found is one of the signals
abbrev pub invariant-loop-s : goal.invariant-loop-s
invariant-loop-s l = IsBegin (design_of l.flat) l.reads l.first
