-- Values of expressions by computation, from the rules of IEEE 1364-2005, clause 5.
use Rattle.std.proofs.Common.{◌≡◌, ℕ, Bool, true, false, List, [], ◌∷◌, refl}
use Rattle.std.specs.Prelude.{slice_index}
use Rattle.sv_system.specs.System.{Environment}
use Rattle.sv_num.specs.declared.operators.UnOp.TheVariants as unop
use Rattle.sv_num.specs.declared.operators.BinOp.TheVariants as binop
use Rattle.sv_num.specs.declared.faults.Place.{Place}
use Rattle.sv_lattice.specs.declared.labels.Label.TheVariants.{Point}
use Rattle.sv_flat.specs.declared.signals.SigKind.TheVariants.{Net}
use Rattle.sv_flat.specs.Design.{SignalForm, TypedTree, typed, constant, read, read_bit, read_part}
use Rattle.sv_flat.specs.Design.{unary, binary, choice, join, replication, held, held_bit}
use Rattle.sv_flat.specs.Design.{held_part, mend, slice, no_parts, more_parts}
use Rattle.sv_flat.specs.Values.{value}

abbrev here : Place
here = record { line = 1; column = 1 }

abbrev net : ℕ → Bool → SignalForm
net n is_signed = record {
  name = [];
  width = n;
  signed = is_signed;
  kind = Net;
  label = Point (record { 0 = 0 });
  place = here;
}

-- signal 0 has 4 bits and the value 1010; signal 1 is signed, has 8 bits and the value -128; signal
-- 2 has 1 bit and the value 1
abbrev signals : List SignalForm
signals = net 4 false ∷ net 8 true ∷ net 1 false ∷ []

abbrev environment : Environment ℕ
environment s = slice_index (10 ∷ 128 ∷ 1 ∷ []) s

abbrev shows : TypedTree → ℕ → Type 0
shows e n = value signals environment e ≡ n

abbrev number : ℕ → Bool → ℕ → TypedTree
number width is_signed n = typed width is_signed (constant n)

-- 8'sh80 >>> 1 at 16 signed bits
pub signed_shift : shows
    (typed 16 true (binary binop.SignShr (typed 16 true (read 1 here)) (number 32 true 1))) 65472
signed_shift = refl

-- {8'sh80} >>> 1: a concatenation is unsigned
pub joined_shift : shows
    (typed 8 false (binary binop.SignShr
    (typed 8 false (join (more_parts (number 8 true 128) no_parts))) (number 32 true 1))) 64
joined_shift = refl

-- ~4'h0 == 8'hff: the operand of `~` has the length of the comparison
pub inverted_first :
    shows (typed 1 false
    (binary binop.Eq (typed 8 false (unary unop.Invert (number 8 false 0))) (number 8 false 255))) 1
inverted_first = refl

-- a signed signal is extended with its highest bit where the type is signed, else with zeros
pub extended_signed : shows (typed 16 true (read 1 here)) 65408
extended_signed = refl

pub extended_unsigned : shows (typed 16 false (read 1 here)) 128
extended_unsigned = refl

-- s < 0 is true of -128 where both sides are signed, and false of 128
pub signed_comparison :
    shows (typed 1 false (binary binop.Lt (typed 8 true (read 1 here)) (number 8 true 0))) 1
signed_comparison = refl

pub unsigned_comparison :
    shows (typed 1 false (binary binop.Lt (typed 8 false (read 1 here)) (number 8 false 0))) 0
unsigned_comparison = refl

-- 8'hff + 8'h01 at 9 bits, and at 8
pub carried : shows (typed 9 false (binary binop.Add (number 9 false 255) (number 9 false 1))) 256
carried = refl

pub dropped : shows (typed 8 false (binary binop.Add (number 8 false 255) (number 8 false 1))) 0
dropped = refl

-- v[1] of 1010, v[4] outside, and v[i] with the index -1
pub bit_inside : shows (typed 1 false (read_bit 0 here (number 32 true 1))) 1
bit_inside = refl

pub bit_above : shows (typed 1 false (read_bit 0 here (number 32 true 4))) 0
bit_above = refl

pub bit_below : shows (typed 1 false (read_bit 0 here (number 3 true 7))) 0
bit_below = refl

-- the same three bits read unsigned stand for 7, which is outside as well; of the signal with 8
-- bits it is the highest bit
pub bit_by_unsigned : shows (typed 1 false (read_bit 1 here (number 3 false 7))) 1
bit_by_unsigned = refl

pub bit_by_signed : shows (typed 1 false (read_bit 1 here (number 3 true 7))) 0
bit_by_signed = refl

-- v[3:1] of 1010
pub part : shows (typed 8 false (read_part 0 here 3 1)) 5
part = refl

-- a reduction at a greater length has zeros above its bit
pub reduction : shows (typed 8 false (unary unop.Nand (typed 4 false (read 0 here)))) 1
reduction = refl

-- an amount of a shift is read unsigned: -1 of 2 bits is 3
pub amount : shows (typed 8 false (binary binop.Shl (number 8 false 1) (number 2 true 3))) 8
amount = refl

-- {v, 1'b1} and {2{v}}
pub join_of_two : shows
    (typed 5 false (join
    (more_parts (typed 4 false (read 0 here)) (more_parts (number 1 false 1) no_parts)))) 21
join_of_two = refl

pub two_copies : shows
    (typed 8 false (replication 2 (more_parts (typed 4 false (read 0 here)) no_parts))) 170
two_copies = refl

-- b ? v : 3
pub choice_of_first :
    shows (typed 4 false
    (choice here (typed 1 false (read 2 here)) (typed 4 false (read 0 here)) (number 4 false 3))) 10
choice_of_first = refl

-- what was put in for the signal of 8 signed bits is cut to them, and read as signed
pub held_with_sign : shows (typed 16 true (held 1 (number 9 false 384))) 65408
held_with_sign = refl

pub bit_of_held : shows (typed 1 false (held_bit 0 here (number 8 false 31) (number 32 true 4))) 0
bit_of_held = refl

pub part_of_held : shows (typed 2 false (held_part 0 here (number 8 false 108) 3 2)) 3
part_of_held = refl

-- bits 2 to 1 of 1010 replaced by the low bits of 111
pub mended : shows (typed 4 false (mend 0 (typed 4 false (read 0 here)) 2 1 (number 3 false 7))) 14
mended = refl

pub sliced : shows (typed 2 false (slice (number 8 false 108) 3 2)) 3
sliced = refl
