use Rattle.std.proofs.Common.{drop}
use Rattle.sv_blast.specs.Steps.{units_of}
use Rattle.sv_blast.proofs.UnitClauses.{UnitsAt}
use Rattle.sv_blast.proofs.units.add_facts.Given as goal

abbrev pub invariant-loop-literal : goal.invariant-loop-literal
invariant-loop-literal l =
    UnitsAt (units_of l.facts l.fn.gates) (drop l.literal-index l.facts) l.fn.gates l.gates
