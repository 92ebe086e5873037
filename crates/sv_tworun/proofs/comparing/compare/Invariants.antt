use Rattle.std.proofs.Common.{◌≡◌}
use Rattle.sv_flat.specs.Views.{design_of}
use Rattle.sv_tworun.specs.Forms.{run_of}
use Rattle.sv_tworun.proofs.RunFacts.{HasReached, AreAlike}
use Rattle.sv_tworun.proofs.comparing.compare.Given as goal

abbrev pub invariant-loop-cycle : goal.invariant-loop-cycle
invariant-loop-cycle l = record {
  one_design : l.one.design ≡ l.design;
  other_design : l.other.design ≡ l.design;
  first : HasReached (design_of l.design) (run_of l.a) l.cycle l.one.values;
  second : HasReached (design_of l.design) (run_of l.b) l.cycle l.other.values;
  alike : AreAlike (design_of l.design) l.level (run_of l.a) (run_of l.b) l.cycle;
}
