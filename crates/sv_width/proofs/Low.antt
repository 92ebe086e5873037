-- A value stays below 2 to its length.
use Rattle.std.proofs.Common.{◌≡◌, ℕ, ◌-◌, ◌*◌, ◌/◌, ◌%◌, ◌^◌, ◌<◌, ◌≤◌, Bool}
use Rattle.std.proofs.Common.{true, false, arith}
use Rattle.std.specs.Prelude.{count_ones}
use Rattle.std.proofs.lemmas.Nat.{pow_pos, mod_below, and_le_l, or_lt, xor_lt}
use Rattle.std.proofs.Math.Pow.{pow_mono}
use Rattle.std.proofs.Math.Nat.{div-le_self}
use Rattle.sv_num.specs.declared.operators.BinOp.{BinOp}
use Rattle.sv_num.specs.declared.operators.BinOp.TheVariants.{Mul, Div, Rem, Add, Sub, Shl, Shr}
use Rattle.sv_num.specs.declared.operators.BinOp.TheVariants.{SignShl, SignShr, Lt, Le, Gt, Ge, Eq}
use Rattle.sv_num.specs.declared.operators.BinOp.TheVariants.{Ne, And, Xor, Xnor, Or, LogicAnd}
use Rattle.sv_num.specs.declared.operators.BinOp.TheVariants.{LogicOr}
use Rattle.sv_num.specs.declared.operators.UnOp.{UnOp}
use Rattle.sv_num.specs.declared.operators.UnOp.TheVariants as unop
use Rattle.sv_num.specs.Vectors.{truth}
use Rattle.sv_num.specs.UnaryValues.{gives_one_bit, unary_value}
use Rattle.sv_num.specs.BinaryValues.{class_of, binary_value}
use Rattle.sv_elab_rules.specs.TypedExpressions.{left_length, right_length, left_signed}
use Rattle.sv_width.proofs.WellFormed.{reduced_low}

pub one_low : (n x : ℕ) → 1 ≤ n → x < 2 → x < 2 ^ n
one_low n x some low =
    let more : 2 ^ 1 ≤ 2 ^ n = pow_mono some in
    omega (arith, more)

truth_low : (b : Bool) → truth b < 2
truth_low true = omega arith
truth_low false = omega arith

-- a flag fits
flag_low : (n : ℕ) (b : Bool) → 1 ≤ n → truth b < 2 ^ n
flag_low n b some = one_low n (truth b) some (truth_low b)

inverted_low : (n x : ℕ) → 2 ^ n - 1 - x < 2 ^ n
inverted_low n x = omega (arith, pow_pos n)

pub odd_low : (x : ℕ) → x % 2 < 2
odd_low x = mod_below x 2 (omega arith)

-- what a unary operator gives for a value of m bits fits n bits, where it gives one bit or m is n
pub bit_low : (op : UnOp) → gives_one_bit op ≡ true → (n m : ℕ) (s : Bool) (x : ℕ) → 1 ≤ n →
    unary_value op m s x < 2 ^ n
bit_low unop.Plus h n m s x some = absurd (cc h)
bit_low unop.Minus h n m s x some = absurd (cc h)
bit_low unop.Invert h n m s x some = absurd (cc h)
bit_low unop.LogicNot h n m s x some = flag_low n _ some
bit_low unop.And h n m s x some = flag_low n _ some
bit_low unop.Nand h n m s x some = flag_low n _ some
bit_low unop.Or h n m s x some = flag_low n _ some
bit_low unop.Nor h n m s x some = flag_low n _ some
bit_low unop.Xor h n m s x some = one_low n _ some (odd_low (count_ones x))
bit_low unop.Xnor h n m s x some = one_low n _ some (omega (arith, odd_low (count_ones x)))

pub unary_low : (op : UnOp) → gives_one_bit op ≡ false → (n : ℕ) (s : Bool) (x : ℕ) → x < 2 ^ n →
    unary_value op n s x < 2 ^ n
unary_low unop.Plus h n s x low = low
unary_low unop.Minus h n s x low = reduced_low n _
unary_low unop.Invert h n s x low = inverted_low n x
unary_low unop.LogicNot h n s x low = absurd (cc h)
unary_low unop.And h n s x low = absurd (cc h)
unary_low unop.Nand h n s x low = absurd (cc h)
unary_low unop.Or h n s x low = absurd (cc h)
unary_low unop.Nor h n s x low = absurd (cc h)
unary_low unop.Xor h n s x low = absurd (cc h)
unary_low unop.Xnor h n s x low = absurd (cc h)

-- what a binary operator gives fits the pushed length
pub binary_low : (op : BinOp) (n : ℕ) (s : Bool) (la lb : ℕ) (sa sb : Bool) (x y : ℕ) → 1 ≤ n
    → x < 2 ^ left_length (class_of op) n la lb → y < 2 ^ right_length (class_of op) n la lb
    → binary_value op (left_length (class_of op) n la lb) (left_signed (class_of op) s sa sb) x
    y < 2 ^ n
binary_low Mul n s la lb sa sb x y some p q = reduced_low n _
binary_low Div n s la lb sa sb x y some p q = reduced_low n _
binary_low Rem n s la lb sa sb x y some p q = reduced_low n _
binary_low Add n s la lb sa sb x y some p q = reduced_low n _
binary_low Sub n s la lb sa sb x y some p q = reduced_low n _
binary_low Shl n s la lb sa sb x y some p q = mod_below (x * 2 ^ y) (2 ^ n) (pow_pos n)
binary_low Shr n s la lb sa sb x y some p q =
    let less : x / 2 ^ y ≤ x = div-le_self x (2 ^ y) in omega (arith, less)
binary_low SignShl n s la lb sa sb x y some p q = mod_below (x * 2 ^ y) (2 ^ n) (pow_pos n)
binary_low SignShr n s la lb sa sb x y some p q = reduced_low n _
binary_low Lt n s la lb sa sb x y some p q = flag_low n _ some
binary_low Le n s la lb sa sb x y some p q = flag_low n _ some
binary_low Gt n s la lb sa sb x y some p q = flag_low n _ some
binary_low Ge n s la lb sa sb x y some p q = flag_low n _ some
binary_low Eq n s la lb sa sb x y some p q = flag_low n _ some
binary_low Ne n s la lb sa sb x y some p q = flag_low n _ some
binary_low And n s la lb sa sb x y some p q = omega (arith, and_le_l x y)
binary_low Xor n s la lb sa sb x y some p q = xor_lt n x y p q
binary_low Xnor n s la lb sa sb x y some p q = inverted_low n _
binary_low Or n s la lb sa sb x y some p q = or_lt n x y p q
binary_low LogicAnd n s la lb sa sb x y some p q = flag_low n _ some
binary_low LogicOr n s la lb sa sb x y some p q = flag_low n _ some
