-- Values of a length and signedness, as IEEE 1364-2005, clauses 3 and 5, has them.
use Rattle.std.specs.Prelude.{ℕ, ◌-◌, ◌%◌, ◌^◌, Bool, true, false, ◌==◌, not, ◌&&◌, nat_le}
use Rattle.std.specs.Prelude.{if◌then◌else◌, ℤ, pos, negsuc, ◌-ℤ◌}
use Rattle.sv_num.specs.declared.vectors.Bits.{Bits}

-- how many bits the value has
abbrev pub width_of : Bits → ℕ
width_of bits = bits.width

-- whether its type is signed
abbrev pub is_signed : Bits → Bool
is_signed bits = bits.signed

-- the value, read as unsigned
abbrev pub value_of : Bits → ℕ
value_of bits = bits.value

-- a value of n bits is negative where its type is signed and its highest bit is 1
abbrev pub is_negative : ℕ → Bool → ℕ → Bool
is_negative n signed value = signed && nat_le (2 ^ (n - 1)) value

-- the whole number that n bits stand for: two's complement in a signed type
abbrev pub as_number : ℕ → Bool → ℕ → ℤ
as_number n signed value =
    if is_negative n signed value then pos value -ℤ pos (2 ^ n) else pos value

-- a whole number modulo 2^n: -(a + 1) is as far below 2^n as it is below 0
abbrev pub reduced : ℕ → ℤ → ℕ
reduced n (pos a) = a % 2 ^ n
reduced n (negsuc a) = 2 ^ n - 1 - a % 2 ^ n

-- the number that a value stands for
abbrev pub number_of : Bits → ℤ
number_of bits = as_number (width_of bits) (is_signed bits) (value_of bits)

-- 1 where a test holds, else 0
abbrev pub truth : Bool → ℕ
truth true = 1
truth false = 0

-- a value that is not 0 is true
abbrev pub is_true : ℕ → Bool
is_true a = not (a == 0)
