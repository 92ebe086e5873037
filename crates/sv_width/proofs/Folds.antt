-- Values of operators, from those of their operands.
use Rattle.std.proofs.Common.{◌≡◌, ◌≢◌, ℕ, zero, suc, ◌+◌, ◌-◌, ◌*◌, ◌/◌, ◌%◌, ◌^◌, ◌<◌, ◌≤◌, min}
use Rattle.std.proofs.Common.{Bool, true, false, refl, sym, ap, subst, ◌∙◌, arith}
use Rattle.std.specs.Prelude.{◌&&◌, nat_le, Option, unwrap_or}
use Rattle.std.specs.Prelude.{ℤ, pos, negsuc, Result, Ok}
use Rattle.std.proofs.lemmas.Bool.{le-leb, lt-leb, leb-true, leb-false}
use Rattle.std.proofs.lemmas.Nat.{pow-add, mod_below}
use Rattle.std.proofs.Math.Nat.{add-mul-mod_self_right, div-add-mod', mul-le-mul_right}
use Rattle.std.proofs.Math.Nat.{mul-le-mul_left}
use Rattle.sv_num.specs.declared.faults.Place.{Place}
use Rattle.sv_num.specs.declared.faults.Fault.{Fault}
use Rattle.sv_num.specs.declared.operators.BinOp.{BinOp}
use Rattle.sv_num.specs.declared.operators.BinOp.TheVariants.{Mul, Div, Rem, Add, Sub, Shl, Shr}
use Rattle.sv_num.specs.declared.operators.BinOp.TheVariants.{SignShl, SignShr, Lt, Le, Gt, Ge, Eq}
use Rattle.sv_num.specs.declared.operators.BinOp.TheVariants.{Ne, And, Xor, Xnor, Or, LogicAnd}
use Rattle.sv_num.specs.declared.operators.BinOp.TheVariants.{LogicOr}
use Rattle.sv_num.specs.declared.operators.OpClass.{OpClass}
use Rattle.sv_num.specs.declared.operators.OpClass.TheVariants.{Context, Compare, Logical, Shift}
use Rattle.sv_num.specs.declared.vectors.Bits.{Bits}
use Rattle.sv_num.specs.Vectors.{width_of, is_signed, value_of}
use Rattle.sv_num.specs.BinaryValues.{class_of, binary_value, HaveOneType, HasDivisor, is_division}
use Rattle.sv_num.proofs.NumberLemmas.{word_low}
use Rattle.sv_ast.specs.Values.{natural}
use Rattle.sv_elab_rules.specs.Walks.{WalkStep}
use Rattle.sv_elab_rules.specs.ExpressionSteps.{is_count}
use Rattle.sv_elab_rules.specs.TypedExpressions.{left_length, left_signed, right_length}
use Rattle.sv_elab_rules.specs.TypedExpressions.{right_signed}
use Rattle.sv_width.specs.Answers.{IsBreach}
use Rattle.sv_width.specs.Measured.{OwnForm, MeasuredTree, MeasuredTrees}
use Rattle.sv_width.specs.Measured as measured
use Rattle.sv_width.specs.Pushed.{behind, behind_times, folded_of, joined_from, divisors_of}
use Rattle.sv_width.specs.Pushed.{divisors_in, left_at, left_as, right_at, right_as}
use Rattle.sv_width.specs.Outcomes.{IsFolded, zero_steps}
use Rattle.sv_width.specs.Answers.{whole_part}
use Rattle.sv_width.proofs.Measures.{breach_after, passes_on}

-- ---- words

pub power_split : (n k : ℕ) → n ≤ k → 2 ^ k ≡ 2 ^ (k - n) * 2 ^ n
power_split n k few =
    ap (λ j. 2 ^ j) (let j : k ≡ k - n + n = omega arith in j) ∙ pow-add 2 (k - n) n

-- what a multiple of a greater power of two adds is cut
far_sum : (n k v x : ℕ) → n ≤ k → (v * 2 ^ k + x) % 2 ^ n ≡ x % 2 ^ n
far_sum n k v x few =
    let split : v * 2 ^ k ≡ v * (2 ^ (k - n) * 2 ^ n) = ap (λ y. v * y) (power_split n k few) in
    let whole : v * 2 ^ k + x ≡ x + (v * 2 ^ (k - n)) * 2 ^ n = omega (arith, split) in
    ap (λ y. y % 2 ^ n) whole ∙ add-mul-mod_self_right x (v * 2 ^ (k - n)) (2 ^ n)

pub word_sum : (n p x : ℕ) → n ≤ 64 → (p % 2 ^ 64 + x) % 2 ^ 64 % 2 ^ n ≡ (p + x) % 2 ^ n
word_sum n p x few =
    let parts : p / 2 ^ 64 * 2 ^ 64 + p % 2 ^ 64 ≡ p = div-add-mod' p (2 ^ 64) in
    let whole : p + x ≡ p / 2 ^ 64 * 2 ^ 64 + (p % 2 ^ 64 + x) = omega (arith, parts) in
    word_low (p % 2 ^ 64 + x) n few
    ∙ sym (ap (λ y. y % 2 ^ n) whole ∙ far_sum n 64 (p / 2 ^ 64) (p % 2 ^ 64 + x) few)

pub far_behind : (n w v x : ℕ) → n ≤ 64 → 64 ≤ w →
    (0 + x) % 2 ^ 64 % 2 ^ n ≡ (v * 2 ^ w + x) % 2 ^ n
far_behind n w v x few far =
    word_low (0 + x) n few ∙ ap (λ y. y % 2 ^ n) (omega arith) ∙ sym (far_sum n w v x (omega arith))

-- a length above 64 may be taken as 65
capped : (n w v x : ℕ) → n ≤ 64 → behind n v (min w 65) x ≡ behind n v w x
capped n w v x few = by (nat_le w 65) refl
  where
    by : (b : Bool) → nat_le w 65 ≡ b → behind n v (min w 65) x ≡ behind n v w x
    by true h =
        ap (λ k. behind n v k x) (let k : min w 65 ≡ w = omega (arith, leb-true w 65 h) in k)
    by false h =
        let more : 65 < w = leb-false w 65 h in
        far_sum n (min w 65) v x (omega (arith, more)) ∙ sym (far_sum n w v x (omega (arith, more)))

pub capped_times : (n k w v : ℕ) → n ≤ 64 → behind_times n k (min w 65) v ≡ behind_times n k w v
capped_times n zero w v few = refl
capped_times n (suc k) w v few =
    ap (λ y. behind n y (min w 65) v) (capped_times n k w v few)
    ∙ capped n w (behind_times n k w v) v few

-- ---- operators

pub one_type : (op : BinOp) (n la lb : ℕ) (s sa sb : Bool) (left right : Bits)
    → width_of left ≡ left_length (class_of op) n la lb
    → is_signed left ≡ left_signed (class_of op) s sa sb
    → width_of right ≡ right_length (class_of op) n la lb
    → is_signed right ≡ right_signed (class_of op) s sa sb
    → HaveOneType (class_of op) left right
one_type op n la lb s sa sb left right p q u v = by (class_of op) p q u v
  where
    by : (c : OpClass) → width_of left ≡ left_length c n la lb
        → is_signed left ≡ left_signed c s sa sb
        → width_of right ≡ right_length c n la lb → is_signed right ≡ right_signed c s sa sb
        → HaveOneType c left right
    by Context p q u v = (p ∙ sym u, q ∙ sym v)
    by Compare p q u v = (p ∙ sym u, q ∙ sym v)
    by Logical p q u v = tt
    by Shift p q u v = tt

-- where a divisor was asked, it is one
pub asked_divisor : (op : BinOp) (b : Bits) → (is_division op ≡ true → value_of b ≢ 0) →
    HasDivisor op b
asked_divisor Div b h = h refl
asked_divisor Rem b h = h refl
asked_divisor Mul b h = tt
asked_divisor Add b h = tt
asked_divisor Sub b h = tt
asked_divisor Shl b h = tt
asked_divisor Shr b h = tt
asked_divisor SignShl b h = tt
asked_divisor SignShr b h = tt
asked_divisor Lt b h = tt
asked_divisor Le b h = tt
asked_divisor Gt b h = tt
asked_divisor Ge b h = tt
asked_divisor Eq b h = tt
asked_divisor Ne b h = tt
asked_divisor And b h = tt
asked_divisor Xor b h = tt
asked_divisor Xnor b h = tt
asked_divisor Or b h = tt
asked_divisor LogicAnd b h = tt
asked_divisor LogicOr b h = tt

module _ (own : OwnForm) (op : BinOp) (place : Place) (A B : MeasuredTree) (n : ℕ) (s : Bool)
    (lw rw : ℕ) (ls rs : Bool)
    (lefts : lw ≡ left_at op n A B) (left_signs : ls ≡ left_as op s A B)
    (rights : rw ≡ right_at op n A B) (right_signs : rs ≡ right_as op s A B) where
  left_end : (divisors_of A (left_at op n A B) (left_as op s A B)).end ≡ (divisors_of A lw ls).end
  left_end =
      sym (ap (λ x. (divisors_of A x ls).end) lefts
      ∙ ap (λ x. (divisors_of A (left_at op n A B) x).end) left_signs)

  right_end : (divisors_of B (right_at op n A B) (right_as op s A B)).end ≡
      (divisors_of B rw rs).end
  right_end =
      sym (ap (λ x. (divisors_of B x rs).end) rights
      ∙ ap (λ x. (divisors_of B (right_at op n A B) x).end) right_signs)

  right_value : folded_of B rw rs ≡ folded_of B (right_at op n A B) (right_as op s A B)
  right_value =
      ap (λ x. folded_of B x rs) rights ∙ ap (λ x. folded_of B (right_at op n A B) x) right_signs

  left_value : folded_of A lw ls ≡ folded_of A (left_at op n A B) (left_as op s A B)
  left_value =
      ap (λ x. folded_of A x ls) lefts ∙ ap (λ x. folded_of A (left_at op n A B) x) left_signs

  zero_end : (right : Bits) → value_of right ≡ folded_of B rw rs →
      (zero_steps op place (folded_of B (right_at op n A B) (right_as op s A B))).end ≡
      (zero_steps op place (value_of right)).end
  zero_end right is = sym (ap (λ x. (zero_steps op place x).end) (is ∙ right_value))

  pub binary_folded : (left right bits : Bits) → IsFolded A lw ls left → IsFolded B rw rs right
      → (zero_steps op place (value_of right)).end ≡ Ok tt → width_of bits ≡ n → is_signed bits ≡ s
      → value_of bits ≡ binary_value op (width_of left) (is_signed left) (value_of left)
      (value_of right)
      → IsFolded (measured.binary own op place A B) n s bits
  unfolding folded_of joined_from divisors_of divisors_in
  binary_folded left right bits first second asked width signed value = (
    passes_on (divisors_of A (left_at op n A B) (left_as op s A B)) _ _ (left_end ∙ first.0)
        (passes_on (divisors_of B (right_at op n A B) (right_as op s A B)) _ _ (right_end
        ∙ second.0) (zero_end right second.3 ∙ asked)),
    width,
    signed,
    value
        ∙ ap (λ x. binary_value op x (is_signed left) (value_of left) (value_of right)) (first.1
        ∙ lefts)
        ∙ ap (λ x. binary_value op (left_at op n A B) x (value_of left) (value_of right)) (first.2
        ∙ left_signs)
        ∙ ap (λ x. binary_value op (left_at op n A B) (left_as op s A B) x (value_of right))
        (first.3 ∙ left_value)
        ∙ ap (λ x. binary_value op (left_at op n A B) (left_as op s A B)
        (folded_of A (left_at op n A B) (left_as op s A B)) x) (second.3 ∙ right_value),
  )

  pub binary_zero : (right : Bits) (f : Fault) → (divisors_of A lw ls).end ≡ Ok tt
      → IsFolded B rw rs right
      → IsBreach (zero_steps op place (value_of right)).end f
      → IsBreach (divisors_of (measured.binary own op place A B) n s).end f
  unfolding divisors_of divisors_in
  binary_zero right f first second h =
      breach_after (divisors_of A (left_at op n A B) (left_as op s A B)) _ tt f (left_end ∙ first)
      (breach_after (divisors_of B (right_at op n A B) (right_as op s A B)) _ tt f (right_end
      ∙ second.0)
      (subst (λ (r : Result (Unit {0}) WalkStep). IsBreach r f) (sym (zero_end right second.3)) h))

-- ---- replications

pub natural_or : (z : ℤ) (r : Option ℕ) → r ≡ whole_part z → unwrap_or r 0 ≡ natural z
natural_or (pos n) r h = ap (λ x. unwrap_or x 0) h
natural_or (negsuc n) r h = ap (λ x. unwrap_or x 0) h

pub too_many : (t j : ℕ) → 1 ≤ j → 64 / min j 65 < t → nat_le (t * j) 64 ≡ false
too_many t j some far =
    let m : ℕ = min j 65 in
    let parts : 64 / m * m + 64 % m ≡ 64 = div-add-mod' 64 m in
    let low : 64 % m < m = mod_below 64 m (omega arith) in
    let more : (64 / m + 1) * m ≤ t * m =
    mul-le-mul_right {m = 64 / m + 1} {n = t} m (omega arith) in
    let least : t * m ≤ t * j = mul-le-mul_left {m = m} {n = j} t (omega arith) in
    lt-leb (t * j) 64 (omega (arith, parts, low, more, least))

pub no_count : (z : ℤ) → natural z ≡ 0 → is_count z ≡ false
no_count (pos n) h = ap (λ x. nat_le 1 x && nat_le x 64) h
no_count (negsuc n) h = refl

-- so many parts, of which there is at least one, are no longer than 64
pub few_parts : (t j : ℕ) → 1 ≤ j → t ≤ 64 / min j 65 → (1 ≤ t) → min j 65 ≡ j
few_parts t j some few one = by (nat_le j 64) refl
  where
    by : (b : Bool) → nat_le j 64 ≡ b → min j 65 ≡ j
    by true h = omega (arith, leb-true j 64 h)
    by false h =
        let more : 64 < j = leb-false j 64 h in
        let is : min j 65 ≡ 65 = omega (arith, more) in
        let none : 64 / min j 65 ≡ 0 = ap (λ x. 64 / x) is in
        absurd (omega (arith, none))

pub product_few : (t j : ℕ) → 1 ≤ j → t ≤ 64 / min j 65 → nat_le (t * j) 64 ≡ true
product_few zero j some few = le-leb (0 * j) 64 (omega arith)
product_few (suc t) j some few =
    let same = few_parts (suc t) j some few (omega arith) in
    let least : suc t * j ≤ 64 / j * j =
    mul-le-mul_right {m = suc t} {n = 64 / j} j (subst (λ x. suc t ≤ 64 / x) same few) in
    let parts : 64 / j * j + 64 % j ≡ 64 = div-add-mod' 64 j in
    le-leb (suc t * j) 64 (omega (arith, least, parts))
