-- What the binary operators give (IEEE 1364-2005, clause 5). Operands are read as whole numbers,
-- signed or not, and the result is taken modulo 2^length.
use Rattle.std.specs.Prelude.{◌≡◌, ◌≢◌, ℕ, ◌-◌, ◌*◌, ◌/◌, ◌%◌, ◌^◌, Bool, true, false, ◌==◌}
use Rattle.std.specs.Prelude.{◌&&◌, ◌||◌, not, ◌+ℤ◌, ◌-ℤ◌, ◌*ℤ◌, int_div, int_rem, int_lt, int_le}
use Rattle.std.specs.Prelude.{bit_and, bit_or, bit_xor}
use Rattle.std.specs.Int.{int_shr}
use Rattle.sv_num.specs.declared.operators.BinOp.{BinOp}
use Rattle.sv_num.specs.declared.operators.BinOp.TheVariants.{Mul, Div, Rem, Add, Sub, Shl, Shr}
use Rattle.sv_num.specs.declared.operators.BinOp.TheVariants.{SignShl, SignShr, Lt, Le, Gt, Ge, Eq}
use Rattle.sv_num.specs.declared.operators.BinOp.TheVariants.{Ne, And, Xor, Xnor, Or, LogicAnd}
use Rattle.sv_num.specs.declared.operators.BinOp.TheVariants.{LogicOr}
use Rattle.sv_num.specs.declared.operators.OpClass.{OpClass}
use Rattle.sv_num.specs.declared.operators.OpClass.TheVariants.{Context, Compare, Logical, Shift}
use Rattle.sv_num.specs.declared.vectors.Bits.{Bits}
use Rattle.sv_num.specs.Vectors.{width_of, is_signed, value_of, as_number, reduced, truth, is_true}

-- how an operator's operands and result are sized
abbrev pub class_of : BinOp → OpClass
class_of Mul = Context
class_of Div = Context
class_of Rem = Context
class_of Add = Context
class_of Sub = Context
class_of Shl = Shift
class_of Shr = Shift
class_of SignShl = Shift
class_of SignShr = Shift
class_of Lt = Compare
class_of Le = Compare
class_of Gt = Compare
class_of Ge = Compare
class_of Eq = Compare
class_of Ne = Compare
class_of And = Context
class_of Xor = Context
class_of Xnor = Context
class_of Or = Context
class_of LogicAnd = Logical
class_of LogicOr = Logical

-- `/` and `%`, which give no value where the right operand is 0
abbrev pub is_division : BinOp → Bool
is_division Div = true
is_division Rem = true
is_division _ = false

-- both operands have one length and signedness, but those of a shift, of `&&` and of `||`
abbrev pub HaveOneType : OpClass → Bits → Bits → Type 0
HaveOneType Context a b = (width_of a ≡ width_of b) × (is_signed a ≡ is_signed b)
HaveOneType Compare a b = (width_of a ≡ width_of b) × (is_signed a ≡ is_signed b)
HaveOneType Logical a b = Unit {0}
HaveOneType Shift a b = Unit {0}

-- a divisor is not 0
abbrev pub HasDivisor : BinOp → Bits → Type 0
HasDivisor Div b = value_of b ≢ 0
HasDivisor Rem b = value_of b ≢ 0
HasDivisor _ b = Unit {0}

-- comparisons, `&&` and `||` have 1 bit; other results have the length of the left operand
abbrev pub result_width : OpClass → ℕ → ℕ
result_width Context n = n
result_width Compare n = 1
result_width Logical n = 1
result_width Shift n = n

-- comparisons, `&&` and `||` are unsigned; other results have the signedness of the left operand
abbrev pub result_signed : OpClass → Bool → Bool
result_signed Context signed = signed
result_signed Compare signed = false
result_signed Logical signed = false
result_signed Shift signed = signed

-- what an operator gives for the values a and b, where a has n bits and is signed or not. Division
-- truncates towards zero, a remainder is negative or 0 where its first operand is negative and
-- positive or 0 elsewhere, `>>>` fills with the highest bit of a signed value, and the amount of a
-- shift is read as unsigned
abbrev pub binary_value : BinOp → ℕ → Bool → ℕ → ℕ → ℕ
binary_value Mul n signed a b = reduced n (as_number n signed a *ℤ as_number n signed b)
binary_value Div n signed a b = reduced n (int_div (as_number n signed a) (as_number n signed b))
binary_value Rem n signed a b = reduced n (int_rem (as_number n signed a) (as_number n signed b))
binary_value Add n signed a b = reduced n (as_number n signed a +ℤ as_number n signed b)
binary_value Sub n signed a b = reduced n (as_number n signed a -ℤ as_number n signed b)
binary_value Shl n signed a b = a * 2 ^ b % 2 ^ n
binary_value Shr n signed a b = a / 2 ^ b
binary_value SignShl n signed a b = a * 2 ^ b % 2 ^ n
binary_value SignShr n signed a b = reduced n (int_shr (as_number n signed a) b)
binary_value Lt n signed a b = truth (int_lt (as_number n signed a) (as_number n signed b))
binary_value Le n signed a b = truth (int_le (as_number n signed a) (as_number n signed b))
binary_value Gt n signed a b = truth (int_lt (as_number n signed b) (as_number n signed a))
binary_value Ge n signed a b = truth (int_le (as_number n signed b) (as_number n signed a))
binary_value Eq n signed a b = truth (a == b)
binary_value Ne n signed a b = truth (not (a == b))
binary_value And n signed a b = bit_and a b
binary_value Xor n signed a b = bit_xor a b
binary_value Xnor n signed a b = 2 ^ n - 1 - bit_xor a b
binary_value Or n signed a b = bit_or a b
binary_value LogicAnd n signed a b = truth (is_true a && is_true b)
binary_value LogicOr n signed a b = truth (is_true a || is_true b)
