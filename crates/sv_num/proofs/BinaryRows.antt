-- Each operator has a row in its table.
use Rattle.std.proofs.Common.{map, lit<, refl}
use Rattle.std.specs.List.{Contains}
use Rattle.sv_num.specs.declared.operators.BinOp.{BinOp}
use Rattle.sv_num.specs.declared.operators.BinOp.TheVariants.{Mul, Div, Rem, Add, Sub, Shl, Shr}
use Rattle.sv_num.specs.declared.operators.BinOp.TheVariants.{SignShl, SignShr, Lt, Le, Gt, Ge, Eq}
use Rattle.sv_num.specs.declared.operators.BinOp.TheVariants.{Ne, And, Xor, Xnor, Or, LogicAnd}
use Rattle.sv_num.specs.declared.operators.BinOp.TheVariants.{LogicOr}
use Rattle.sv_num.specs.declared.operator_tables.TheConstants.{BINARY}

pub each_binary : (op : BinOp) → Contains (map (λ row. row.op) BINARY) op
each_binary Mul = (0, lit< tt, refl)
each_binary Div = (1, lit< tt, refl)
each_binary Rem = (2, lit< tt, refl)
each_binary Add = (3, lit< tt, refl)
each_binary Sub = (4, lit< tt, refl)
each_binary Shl = (5, lit< tt, refl)
each_binary Shr = (6, lit< tt, refl)
each_binary SignShl = (7, lit< tt, refl)
each_binary SignShr = (8, lit< tt, refl)
each_binary Lt = (9, lit< tt, refl)
each_binary Le = (10, lit< tt, refl)
each_binary Gt = (11, lit< tt, refl)
each_binary Ge = (12, lit< tt, refl)
each_binary Eq = (13, lit< tt, refl)
each_binary Ne = (14, lit< tt, refl)
each_binary And = (15, lit< tt, refl)
each_binary Xor = (16, lit< tt, refl)
each_binary Xnor = (17, lit< tt, refl)
each_binary Or = (19, lit< tt, refl)
each_binary LogicAnd = (20, lit< tt, refl)
each_binary LogicOr = (21, lit< tt, refl)
