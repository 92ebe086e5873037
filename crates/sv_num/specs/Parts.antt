-- Values at another length, their bits and their parts, as IEEE 1364-2005, clause 5, has them.
use Rattle.std.specs.Prelude.{ℕ, zero, suc, ◌+◌, ◌-◌, ◌*◌, ◌/◌, ◌%◌, ◌^◌, Bool, nat_lt}
use Rattle.std.specs.Prelude.{if◌then◌else◌, ℤ, pos, negsuc}
use Rattle.std.specs.Int.{bit_at}
use Rattle.sv_num.specs.Vectors.{as_number, reduced}

-- a value at another length: the new bits are copies of the highest bit where the type is signed,
-- else 0 (clause 5.5.2)
abbrev pub extended : (signed : Bool) → (from to value : ℕ) → ℕ
extended signed from to value = reduced to (as_number from signed value)

-- how many bits stand from `high` down to `low`
abbrev pub span_of : (high low : ℕ) → ℕ
span_of high low = high + 1 - low

-- the bits of a value from `high` down to `low` (clause 5.2.1)
abbrev pub bits_between : (high low value : ℕ) → ℕ
bits_between high low value = value / 2 ^ low % 2 ^ span_of high low

-- the bit of a value of some bits at an index (clause 5.2.1), and 0 outside of it (this project's
-- profile)
abbrev pub bit_or_zero : (width value : ℕ) → (index : ℤ) → ℕ
bit_or_zero width value (pos i) = if nat_lt i width then bit_at value i else 0
bit_or_zero width value (negsuc i) = 0

-- a value of some bits in which those from `high` down to `low` are the low bits of a piece
abbrev pub replaced_bits : (width high low value piece : ℕ) → ℕ
replaced_bits width high low value piece =
    value % 2 ^ width / 2 ^ (high + 1) * 2 ^ (high + 1)
    + (piece % 2 ^ span_of high low * 2 ^ low + value % 2 ^ low)

-- a value of some bits written so many times (clause 5.1.14)
abbrev pub repeated : (count width value : ℕ) → ℕ
repeated zero width value = 0
repeated (suc count) width value = repeated count width value * 2 ^ width + value
