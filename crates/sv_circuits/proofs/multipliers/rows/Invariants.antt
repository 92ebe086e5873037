use Rattle.std.proofs.Common.{map, drop}
use Rattle.sv_circuits.specs.Operators.{product_rows}
use Rattle.sv_circuits.proofs.ProductSteps.{RowsAt}
use Rattle.sv_circuits.proofs.multipliers.rows.Given as goal

abbrev pub invariant-rows : goal.invariant-rows
invariant-rows l =
    RowsAt (product_rows l.fn.a 0 l.fn.b l.fn.gates) l.fn.gates l.gates l.a
    (drop l.bit-index l.b) (map (λ row. row.items) l.rows.items)
