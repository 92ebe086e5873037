-- The operators of expressions (IEEE 1364-2005, clause 5): spelling, operator, precedence from the
-- tightest on, and class.
use Rattle.std.specs.Prelude.{ℕ, List, [], ◌∷◌, ◌++◌, length, take, codes}
use Rattle.sv_num.specs.declared.operators.BinOp.{BinOp}
use Rattle.sv_num.specs.declared.operators.BinOp.TheVariants.{Mul, Div, Rem, Add, Sub, Shl, Shr}
use Rattle.sv_num.specs.declared.operators.BinOp.TheVariants.{SignShl, SignShr, Lt, Le, Gt, Ge, Eq}
use Rattle.sv_num.specs.declared.operators.BinOp.TheVariants.{Ne, And, Xor, Xnor, Or, LogicAnd}
use Rattle.sv_num.specs.declared.operators.BinOp.TheVariants.{LogicOr}
use Rattle.sv_num.specs.declared.operators.UnOp.{UnOp}
use Rattle.sv_num.specs.declared.operators.UnOp.TheVariants.{Plus, Minus, LogicNot, Invert}
use Rattle.sv_num.specs.declared.operators.UnOp.TheVariants.{And as AllOf, Nand, Or as SomeOf, Nor}
use Rattle.sv_num.specs.declared.operators.UnOp.TheVariants.{Xor as OddOf, Xnor as EvenOf}
use Rattle.sv_num.specs.declared.operators.OpClass.{OpClass}
use Rattle.sv_num.specs.declared.operators.OpClass.TheVariants.{Context, Compare, Logical, Shift}
use Rattle.sv_num.specs.declared.operator_tables.BinRow.{BinRow}
use Rattle.sv_num.specs.declared.operator_tables.UnRow.{UnRow}

-- a row's spelling: the first bytes of its field
abbrev pub binary_spelling : BinRow → List ℕ
binary_spelling row = take row.length row.spelling

abbrev pub unary_spelling : UnRow → List ℕ
unary_spelling row = take row.length row.spelling

-- a spelling in a field of three bytes, filled with 0, and its length
abbrev pub field_of : List ℕ → List ℕ × ℕ
field_of spelling = (take 3 (spelling ++ 0 ∷ 0 ∷ 0 ∷ []), length spelling)

-- a row's whole field, and the length that it gives
abbrev pub binary_field : BinRow → List ℕ × ℕ
binary_field row = (row.spelling, row.length)

abbrev pub unary_field : UnRow → List ℕ × ℕ
unary_field row = (row.spelling, row.length)

-- what a row says
abbrev pub binary_row : BinRow → List ℕ × BinOp × ℕ × OpClass
binary_row row = (binary_spelling row, row.op, row.level, row.class)

abbrev pub unary_row : UnRow → List ℕ × UnOp
unary_row row = (unary_spelling row, row.op)

-- the binary operators
abbrev pub binary_table : List (List ℕ × BinOp × ℕ × OpClass)
binary_table =
    (codes "*", Mul, 1, Context)
    ∷ (codes "/", Div, 1, Context)
    ∷ (codes "%", Rem, 1, Context)
    ∷ (codes "+", Add, 2, Context)
    ∷ (codes "-", Sub, 2, Context)
    ∷ (codes "<<", Shl, 3, Shift)
    ∷ (codes ">>", Shr, 3, Shift)
    ∷ (codes "<<<", SignShl, 3, Shift)
    ∷ (codes ">>>", SignShr, 3, Shift)
    ∷ (codes "<", Lt, 4, Compare)
    ∷ (codes "<=", Le, 4, Compare)
    ∷ (codes ">", Gt, 4, Compare)
    ∷ (codes ">=", Ge, 4, Compare)
    ∷ (codes "==", Eq, 5, Compare)
    ∷ (codes "!=", Ne, 5, Compare)
    ∷ (codes "&", And, 6, Context)
    ∷ (codes "^", Xor, 7, Context)
    ∷ (codes "~^", Xnor, 7, Context)
    ∷ (codes "^~", Xnor, 7, Context)
    ∷ (codes "|", Or, 8, Context)
    ∷ (codes "&&", LogicAnd, 9, Logical)
    ∷ (codes "||", LogicOr, 10, Logical)
    ∷ []

-- the unary operators
abbrev pub unary_table : List (List ℕ × UnOp)
unary_table =
    (codes "+", Plus)
    ∷ (codes "-", Minus)
    ∷ (codes "!", LogicNot)
    ∷ (codes "~", Invert)
    ∷ (codes "&", AllOf)
    ∷ (codes "~&", Nand)
    ∷ (codes "|", SomeOf)
    ∷ (codes "~|", Nor)
    ∷ (codes "^", OddOf)
    ∷ (codes "~^", EvenOf)
    ∷ (codes "^~", EvenOf)
    ∷ []
