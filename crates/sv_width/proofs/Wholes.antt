-- Numbers that values stand for, and values at smaller lengths.
use Rattle.std.proofs.Common.{◌≡◌, ℕ, ◌+◌, ◌-◌, ◌*◌, ◌%◌, ◌^◌, ◌≤◌, Bool, true, false, refl}
use Rattle.std.proofs.Common.{sym, ap, ◌∙◌, arith}
use Rattle.std.specs.Prelude.{◌&&◌, nat_lt, nat_le, Some, None, ℤ, pos}
use Rattle.std.specs.Prelude.{negsuc, ◌-ℤ◌}
use Rattle.std.proofs.lemmas.Int.{ints}
use Rattle.std.proofs.lemmas.Nat.{pow-add}
use Rattle.sv_num.specs.declared.vectors.Bits.{Bits}
use Rattle.sv_num.specs.Vectors.{width_of, is_signed, value_of, is_negative, as_number, number_of}
use Rattle.sv_num.specs.Vectors.{reduced}
use Rattle.sv_num.proofs.NumberLemmas.{reduced_is, below_zero, number_at}
use Rattle.sv_num.proofs.BitsLemmas.{number_when}
use Rattle.sv_ast.specs.Values.{natural}
use Rattle.sv_elab_rules.specs.ExpressionSteps.{is_below, is_part}
use Rattle.sv_width.specs.Answers.{whole_part}

pub negative_number : (bits : Bits) →
    is_negative (width_of bits) (is_signed bits) (value_of bits) ≡ true →
    None ≡ whole_part (number_of bits)
negative_number bits h =
    sym (ap whole_part (number_when bits true h
    ∙ below_zero (width_of bits) (value_of bits) bits.in_range.2))

pub natural_number : (bits : Bits) →
    is_negative (width_of bits) (is_signed bits) (value_of bits) ≡ false →
    Some (value_of bits) ≡ whole_part (number_of bits)
natural_number bits h = sym (ap whole_part (number_when bits false h))

pub below_some : (limit : ℕ) (z : ℤ) (n : ℕ) → Some n ≡ whole_part z →
    nat_lt n limit ≡ is_below limit z
below_some limit (pos m) n h = ap (λ x. nat_lt x limit) (some_same n m h)
  where
    some_same : (n m : ℕ) → Some n ≡ Some m → n ≡ m
    some_same n m h = cc h
below_some limit (negsuc m) n h = absurd (cc h)

pub below_none : (limit : ℕ) (z : ℤ) → None ≡ whole_part z → false ≡ is_below limit z
below_none limit (pos m) h = absurd (cc h)
below_none limit (negsuc m) h = refl

pub natural_some : (z : ℤ) (n : ℕ) → Some n ≡ whole_part z → n ≡ natural z
natural_some (pos m) n h = cc h
natural_some (negsuc m) n h = absurd (cc h)

pub natural_none : (z : ℤ) → None ≡ whole_part z → 0 ≡ natural z
natural_none (pos m) h = absurd (cc h)
natural_none (negsuc m) h = refl

pub part_some : (w : ℕ) (y z : ℤ) (h l : ℕ) → Some h ≡ whole_part y → Some l ≡ whole_part z →
    (nat_lt h w && nat_le l h) ≡ is_part w y z
part_some w (pos a) (pos b) h l p q =
    let A : h ≡ a = cc p in
    let B : l ≡ b = cc q in
    ap (λ x. nat_lt x w && nat_le l x) A ∙ ap (λ x. nat_lt a w && nat_le x a) B
part_some w (pos a) (negsuc b) h l p q = absurd (cc q)
part_some w (negsuc a) z h l p q = absurd (cc p)

pub part_no_high : (w : ℕ) (y z : ℤ) → None ≡ whole_part y → is_part w y z ≡ false
part_no_high w (pos a) z h = absurd (cc h)
part_no_high w (negsuc a) z h = refl

pub part_no_low : (w : ℕ) (y z : ℤ) → None ≡ whole_part z → is_part w y z ≡ false
part_no_low w (pos a) (pos b) h = absurd (cc h)
part_no_low w (pos a) (negsuc b) h = refl
part_no_low w (negsuc a) z h = refl

narrow : (t : Bool) (w n v : ℕ) → n ≤ w → v % 2 ^ n ≡ reduced n (number_at w t v)
narrow true w n v less =
    let split : 2 ^ (w - n + n) ≡ 2 ^ (w - n) * 2 ^ n = pow-add 2 (w - n) n in
    let whole : 2 ^ w ≡ 2 ^ (w - n) * 2 ^ n = ap (λ k. 2 ^ k) (omega arith) ∙ split in
    sym (reduced_is n (pos v -ℤ pos (2 ^ w)) (2 ^ (w - n)) v (omega (arith, ints, whole)))
narrow false w n v less = refl

-- a value at a smaller length is cut
pub cut_number : (w n : ℕ) (s : Bool) (v : ℕ) → n ≤ w → v % 2 ^ n ≡ reduced n (as_number w s v)
cut_number w n s v less = narrow (is_negative w s v) w n v less
