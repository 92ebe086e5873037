-- What the unary operators give (IEEE 1364-2005, clause 5).
use Rattle.std.specs.Prelude.{ℕ, ◌-◌, ◌%◌, ◌^◌, Bool, true, false, ◌==◌, not, neg_ℤ, count_ones}
use Rattle.sv_num.specs.declared.operators.UnOp.{UnOp}
use Rattle.sv_num.specs.declared.operators.UnOp.TheVariants.{Plus, Minus, LogicNot, Invert, And}
use Rattle.sv_num.specs.declared.operators.UnOp.TheVariants.{Nand, Or, Nor, Xor, Xnor}
use Rattle.sv_num.specs.Vectors.{as_number, reduced, truth, is_true}

-- whether the operator gives one unsigned bit: `!` and the reductions do, the others keep the
-- operand's type
abbrev pub gives_one_bit : UnOp → Bool
gives_one_bit Plus = false
gives_one_bit Minus = false
gives_one_bit Invert = false
gives_one_bit _ = true

-- what an operator gives for a value of n bits, signed or not. A reduction joins all bits: `&` asks
-- whether each is 1, `|` whether some is, `^` whether their number is odd, and the others say the
-- opposite
abbrev pub unary_value : UnOp → ℕ → Bool → ℕ → ℕ
unary_value Plus n signed a = a
unary_value Minus n signed a = reduced n (neg_ℤ (as_number n signed a))
unary_value LogicNot n signed a = truth (not (is_true a))
unary_value Invert n signed a = 2 ^ n - 1 - a
unary_value And n signed a = truth (a == 2 ^ n - 1)
unary_value Nand n signed a = truth (not (a == 2 ^ n - 1))
unary_value Or n signed a = truth (is_true a)
unary_value Nor n signed a = truth (not (is_true a))
unary_value Xor n signed a = count_ones a % 2
unary_value Xnor n signed a = 1 - count_ones a % 2
