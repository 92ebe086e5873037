use Rattle.std.proofs.Common.{map}
use Rattle.std.specs.Prelude.{All}
use Rattle.std.specs.Slice.Iter.{iter_rest}
use Rattle.std.specs.Iterator.Adapters.{zip_first, zip_second}
use Rattle.sv_gates.specs.Formulas.{IsLiteral}
use Rattle.sv_encoding.specs.Encoding.{path_units}
use Rattle.sv_obl.specs.Views.{step_form}
use Rattle.sv_blast.specs.Steps.{units_of}
use Rattle.sv_blast.proofs.UnitClauses.{UnitsAt}
use Rattle.sv_blast.proofs.units.add_conditions.Given as goal

abbrev pub invariant-loop-step : goal.invariant-loop-step
invariant-loop-step l =
    UnitsAt (units_of (path_units (map step_form l.fn.path) l.fn.conditions) l.fn.gates)
    (path_units (map step_form (iter_rest (zip_first l.step-iterator)))
    (iter_rest (zip_second l.step-iterator))) l.fn.gates l.gates
    × All (IsLiteral l.fn.gates.variables) (iter_rest (zip_second l.step-iterator))
