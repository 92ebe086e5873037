-- How many variables operators and encodings take, by computation, and that the sizes tell it.
use Rattle.std.proofs.Common.{◌≡◌, ℕ, Bool, true, false, [], ◌∷◌, refl}
use Rattle.std.specs.Prelude.{◌+◌, ◌==◌, ◌&&◌, map}
use Rattle.std.specs.List.{list_all, range_with_len}
use Rattle.sv_num.specs.declared.operators.UnOp.{UnOp}
use Rattle.sv_num.specs.declared.operators.UnOp.TheVariants as unop
use Rattle.sv_num.specs.declared.operators.BinOp.{BinOp}
use Rattle.sv_num.specs.declared.operators.BinOp.TheVariants as binop
use Rattle.sv_num.specs.BinaryValues.{class_of}
use Rattle.sv_gates.specs.Gates.{start}
use Rattle.sv_circuits.specs.Words.{fresh_word}
use Rattle.sv_circuits.specs.Operators.{unary_word, binary_word, picked_bit}
use Rattle.sv_encoding.specs.Expressions.{operand_word}
use Rattle.sv_encoding.specs.Sizes.{unary_size, operand_size, binary_size, picked_size}

-- ---- operators

-- how many variables there are once an operator is made of two words of new variables
abbrev count : BinOp → Bool → (left right : ℕ) → ℕ
count op is_signed left right =
    let (formula, a) = fresh_word left start in
    let (formula, b) = fresh_word right formula in
    let (formula, a) = operand_word (class_of op) a formula in
    let (formula, b) = operand_word (class_of op) b formula in
    (binary_word op is_signed a b formula).0.variables

pub product : count binop.Mul false 32 32 ≡ 5553
product = refl

pub other_counts : map (λ (made : BinOp × Bool). count made.0 made.1 32 32)
    ((binop.Add, false) ∷ (binop.Sub, true) ∷ (binop.Lt, true) ∷ (binop.Eq, false)
    ∷ (binop.And, false) ∷ (binop.SignShr, true) ∷ (binop.LogicAnd, false) ∷ [])
    ≡ 225 ∷ 225 ∷ 129 ∷ 128 ∷ 97 ∷ 1089 ∷ 128 ∷ []
other_counts = refl

-- ---- the sizes that are told

-- of operands of one length
abbrev binary_tells : BinOp → Bool
binary_tells op = list_all (λ width.
    let operand = operand_size (class_of op) width in
    1 + width + width + operand + operand + binary_size op width width
    == count op true width width) (range_with_len 1 6)

-- an amount has a length of its own
abbrev shift_tells : BinOp → Bool
shift_tells op = list_all (λ amount.
    1 + 5 + amount + binary_size op 5 amount == count op true 5 amount) (range_with_len 1 6)

abbrev unary_tells : UnOp → Bool
unary_tells op = list_all (λ width.
    let (formula, a) = fresh_word width start in
    1 + width + unary_size op width == (unary_word op a formula).0.variables) (range_with_len 1 6)

pub binary_sizes : list_all binary_tells
    (binop.Mul ∷ binop.Add ∷ binop.Sub ∷ binop.Shl ∷ binop.Shr ∷ binop.SignShl ∷ binop.SignShr
    ∷ binop.Lt ∷ binop.Le ∷ binop.Gt ∷ binop.Ge ∷ binop.Eq ∷ binop.Ne ∷ binop.And ∷ binop.Xor
    ∷ binop.Xnor ∷ binop.Or ∷ binop.LogicAnd ∷ binop.LogicOr ∷ []) ≡ true
binary_sizes = refl

pub shift_sizes : list_all shift_tells
    (binop.Shl ∷ binop.Shr ∷ binop.SignShl ∷ binop.SignShr ∷ []) ≡ true
shift_sizes = refl

pub unary_sizes : list_all unary_tells
    (unop.Plus ∷ unop.Minus ∷ unop.LogicNot ∷ unop.Invert ∷ unop.And ∷ unop.Nand ∷ unop.Or
    ∷ unop.Nor ∷ unop.Xor ∷ unop.Xnor ∷ []) ≡ true
unary_sizes = refl

-- a bit of five by an index of some bits
abbrev picked_tells : Bool → Bool
picked_tells is_signed = list_all (λ index_width.
    let (formula, word) = fresh_word 5 start in
    1 + 5 + index_width + picked_size 5 index_width is_signed
    == (picked_bit word is_signed (fresh_word index_width) formula).0.variables)
    (range_with_len 1 6)

pub picked_sizes : picked_tells false && picked_tells true ≡ true
picked_sizes = refl
