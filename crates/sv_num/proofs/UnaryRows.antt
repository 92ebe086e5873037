-- Each unary operator has a row in its table.
use Rattle.std.proofs.Common.{map, lit<, refl}
use Rattle.std.specs.List.{Contains}
use Rattle.sv_num.specs.declared.operators.UnOp.{UnOp}
use Rattle.sv_num.specs.declared.operators.UnOp.TheVariants.{Plus, Minus, LogicNot, Invert, And}
use Rattle.sv_num.specs.declared.operators.UnOp.TheVariants.{Nand, Or, Nor, Xor, Xnor}
use Rattle.sv_num.specs.declared.operator_tables.TheConstants.{UNARY}

pub each_unary : (op : UnOp) → Contains (map (λ row. row.op) UNARY) op
each_unary Plus = (0, lit< tt, refl)
each_unary Minus = (1, lit< tt, refl)
each_unary LogicNot = (2, lit< tt, refl)
each_unary Invert = (3, lit< tt, refl)
each_unary And = (4, lit< tt, refl)
each_unary Nand = (5, lit< tt, refl)
each_unary Or = (6, lit< tt, refl)
each_unary Nor = (7, lit< tt, refl)
each_unary Xor = (8, lit< tt, refl)
each_unary Xnor = (9, lit< tt, refl)
