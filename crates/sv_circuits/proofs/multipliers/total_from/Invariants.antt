use Rattle.std.proofs.Common.{map, drop}
use Rattle.sv_circuits.specs.Operators.{total_from}
use Rattle.sv_circuits.proofs.ProductSteps.{TotalAt}
use Rattle.sv_circuits.proofs.multipliers.total_from.Given as goal

abbrev pub invariant-rows : goal.invariant-rows
invariant-rows l =
    TotalAt (total_from l.fn.total (map (λ row. row.items) l.fn.rows) l.fn.gates) l.fn.gates
    l.gates l.made.items (map (λ row. row.items) (drop l.row-index l.rows))
