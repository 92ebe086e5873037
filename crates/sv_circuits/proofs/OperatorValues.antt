-- The circuit of each operator has the operator's value (IEEE 1364-2005, clause 5).
use Rattle.std.proofs.Common.{◌≡◌, ℕ, suc, ◌+◌, ◌-◌, ◌*◌, ◌/◌, ◌%◌, ◌^◌, ◌<◌, ◌≤◌, Bool, true, false}
use Rattle.std.proofs.Common.{not, ◌&&◌, ◌||◌, leb, List, [], ◌∷◌, fold}
use Rattle.std.proofs.Common.{length, refl, sym, ap, ap₂, ◌∙◌, subst, arith}
use Rattle.std.specs.Prelude.{slice_index_or, count_ones, int_lt}
use Rattle.std.specs.Int.{int_shr}
use Rattle.std.specs.Int.Count.{ones_step}
use Rattle.std.proofs.Math.Nat.{pow-suc}
use Rattle.std.proofs.lemmas.Bool.{le-leb, leb-true}
use Rattle.std.proofs.lemmas.Nat.{ones_le_self}
use Rattle.std.proofs.lemmas.Bool.{false≢true}
use Rattle.sv_num.specs.declared.operators.UnOp.{UnOp}
use Rattle.sv_num.specs.declared.operators.UnOp.TheVariants.{Plus, Minus, LogicNot, Invert}
use Rattle.sv_num.specs.declared.operators.UnOp.TheVariants.{And as AllOf, Nand, Or as SomeOf, Nor}
use Rattle.sv_num.specs.declared.operators.UnOp.TheVariants.{Xor as OddOf, Xnor as EvenOf}
use Rattle.sv_num.specs.declared.operators.BinOp.{BinOp}
use Rattle.sv_num.specs.declared.operators.BinOp.TheVariants.{Mul, Div, Rem, Add, Sub, Shl, Shr}
use Rattle.sv_num.specs.declared.operators.BinOp.TheVariants.{SignShl, SignShr, Lt, Le, Gt, Ge, Eq}
use Rattle.sv_num.specs.declared.operators.BinOp.TheVariants.{Ne, And, Xor, Xnor, Or, LogicAnd}
use Rattle.sv_num.specs.declared.operators.BinOp.TheVariants.{LogicOr}
use Rattle.sv_num.specs.Vectors.{truth, is_true, as_number, is_negative, reduced}
use Rattle.sv_num.specs.UnaryValues.{unary_value}
use Rattle.sv_num.specs.BinaryValues.{binary_value}
use Rattle.sv_num.proofs.NumberLemmas.{number_at, sum_is, difference_is, negated_is, product_is}
use Rattle.sv_num.proofs.NumberLemmas.{shift_above, shift_below}
use Rattle.sv_circuits.specs.Circuits.{HaveSizes}
use Rattle.sv_circuits.proofs.BitPieces.{differ, joined_bits}
use Rattle.sv_circuits.proofs.Comparisons.{equal_bits}
use Rattle.sv_circuits.proofs.Shifts.{up_bits, down_bits, shifted_bits}
use Rattle.sv_circuits.proofs.OperatorBits.{unary_bits, binary_bits, all_bits, some_bit, odd_bits}
use Rattle.sv_circuits.proofs.OperatorBits.{top_bit, fill_bit, less_than_bits}
use Rattle.sv_circuits.proofs.BitNumbers.{number, number_low, truth_low, not_number, minus_number}
use Rattle.sv_circuits.proofs.BitNumbers.{sum_number, difference_number, and_number, or_number}
use Rattle.sv_circuits.proofs.BitNumbers.{xor_number, xnor_number, half_of, low_of}
use Rattle.sv_circuits.proofs.BitTests.{alike, all_number, some_number, equal_number}
use Rattle.sv_circuits.proofs.BitMoves.{product_number}
use Rattle.sv_circuits.proofs.BitShifts.{shifted_up_number, shifted_down_number, shifted_sign_number}
use Rattle.sv_circuits.proofs.BitOrder.{less_than_number, at_most}

one_number : (b : Bool) → number (b ∷ []) ≡ truth b
one_number true = refl
one_number false = refl

-- ---- parity

ones_of : (b : Bool) (bs : List Bool) →
    count_ones (number (b ∷ bs)) ≡ truth b + count_ones (number bs)
ones_of b bs =
    ones_step (number (b ∷ bs))
    ∙ ap₂ (λ x y. x + count_ones y) (low_of b (number bs)) (half_of b (number bs))

no_ones : count_ones 0 ≡ 0
no_ones = zero_from (ones_le_self 0)
  where
    zero_from : count_ones 0 ≤ 0 → count_ones 0 ≡ 0
    zero_from h = omega (arith, h)

differ_truth : (x y : Bool) (n : ℕ) → (truth (differ x y) + n) % 2 ≡ (truth x + (truth y + n)) % 2
differ_truth true true n = omega arith
differ_truth true false n = omega arith
differ_truth false true n = omega arith
differ_truth false false n = omega arith

truth_mod : (x : Bool) → truth x ≡ (truth x + 0) % 2
truth_mod true = refl
truth_mod false = refl

fold_differ : (x : Bool) (xs : List Bool) →
    truth (fold differ x xs) ≡ (truth x + count_ones (number xs)) % 2
fold_differ x [] = truth_mod x ∙ ap (λ n. (truth x + n) % 2) (sym no_ones)
fold_differ x (y ∷ xs) =
    fold_differ (differ x y) xs
    ∙ differ_truth x y (count_ones (number xs))
    ∙ ap (λ n. (truth x + n) % 2) (sym (ones_of y xs))

odd_number : (bs : List Bool) → truth (odd_bits bs) ≡ count_ones (number bs) % 2
odd_number [] = ap (λ n. n % 2) (sym no_ones)
odd_number (b ∷ bs) = fold_differ b bs ∙ ap (λ n. n % 2) (sym (ones_of b bs))

not_truth : (b : Bool) → truth (not b) ≡ 1 - truth b
not_truth true = refl
not_truth false = refl

-- ---- unary operators

pub unary_number : (op : UnOp) (signed : Bool) (a : List Bool) →
    number (unary_bits op a) ≡ unary_value op (length a) signed (number a)
unary_number Plus signed a = refl
unary_number Minus signed a =
    minus_number a
    ∙ sym (negated_is (length a) (is_negative (length a) signed (number a)) (number a)
    (number_low a))
unary_number LogicNot signed a =
    one_number (not (some_bit a)) ∙ ap (λ b. truth (not b)) (some_number a)
unary_number Invert signed a = omega (arith, not_number a)
unary_number AllOf signed a = one_number (all_bits a) ∙ ap truth (all_number a)
unary_number Nand signed a =
    one_number (not (all_bits a)) ∙ ap (λ b. truth (not b)) (all_number a)
unary_number SomeOf signed a = one_number (some_bit a) ∙ ap truth (some_number a)
unary_number Nor signed a =
    one_number (not (some_bit a)) ∙ ap (λ b. truth (not b)) (some_number a)
unary_number OddOf signed a = one_number (odd_bits a) ∙ odd_number a
unary_number EvenOf signed a =
    one_number (not (odd_bits a)) ∙ not_truth (odd_bits a) ∙ ap (λ n. 1 - n) (odd_number a)

-- ---- the highest bit

one_top : (b : Bool) → b ≡ leb 1 (truth b + 2 * 0)
one_top true = refl
one_top false = refl

leb_same : (p v q w : ℕ) → (p ≤ v → q ≤ w) → (q ≤ w → p ≤ v) → leb p v ≡ leb q w
leb_same p v q w there back = alike (leb p v) (leb q w)
    (λ e. le-leb q w (there (leb-true p v e))) (λ e. le-leb p v (back (leb-true q w e)))

pub top_number : (bs : List Bool) → 1 ≤ length bs →
    top_bit bs ≡ leb (2 ^ (length bs - 1)) (number bs)
top_number [] some = absurd (omega (arith, some))
top_number (b ∷ bs) some = below b bs
  where
    below : (b : Bool) (bs : List Bool) →
        top_bit (b ∷ bs) ≡ leb (2 ^ (length (b ∷ bs) - 1)) (number (b ∷ bs))
    below b [] = one_top b
    below b (c ∷ bs) =
        let rest = c ∷ bs in
        let e : length (b ∷ rest) - 1 ≡ suc (length rest - 1) = omega arith in
        let p : 2 ^ (length (b ∷ rest) - 1) ≡ 2 * 2 ^ (length rest - 1) =
        ap (λ k. 2 ^ k) e ∙ pow-suc 2 (length rest - 1) ∙ omega arith in
        ap (λ k. slice_index_or (b ∷ rest) k false) e
        ∙ below c bs
        ∙ leb_same (2 ^ (length rest - 1)) (number rest) (2 ^ (length (b ∷ rest) - 1))
        (number (b ∷ rest))
        (λ h. omega (arith, h, p)) (λ h. omega (arith, h, p, truth_low b))

-- ---- shifts

first_place : (n : ℕ) → 2 ^ 0 * n ≡ n
first_place n = omega arith

up_is : (a b : List Bool) → number (shifted_bits (up_bits false) 0 b a)
    ≡ number a * 2 ^ number b % 2 ^ length a
up_is a b =
    shifted_up_number 0 b a
    ∙ ap (λ k. number a * 2 ^ k % 2 ^ length a) (first_place (number b))

down_is : (a b : List Bool) → number (shifted_bits (down_bits false) 0 b a)
    ≡ number a / 2 ^ number b
down_is a b =
    shifted_down_number 0 b a ∙ ap (λ k. number a / 2 ^ k) (first_place (number b))

sign_is : (signed : Bool) (a b : List Bool) → 1 ≤ length a →
    number (shifted_bits (down_bits (fill_bit signed a)) 0 b a)
    ≡ binary_value SignShr (length a) signed (number a) (number b)
sign_is false a b some =
    down_is a b ∙ sym (shift_above (length a) (number a) (number b) (number_low a))
sign_is true a b some = by_top (leb (2 ^ (length a - 1)) (number a)) refl
  where
    by_top : (t : Bool) → leb (2 ^ (length a - 1)) (number a) ≡ t →
        number (shifted_bits (down_bits (fill_bit true a)) 0 b a)
        ≡ binary_value SignShr (length a) true (number a) (number b)
    by_top true e =
        let n = length a in
        ap (λ t. number (shifted_bits (down_bits t) 0 b a)) (top_number a some ∙ e)
        ∙ shifted_sign_number 0 b a
        ∙ ap (λ k. 2 ^ n - 1 - (2 ^ n - 1 - number a) / 2 ^ k) (first_place (number b))
        ∙ sym (ap (λ t. reduced n (int_shr (number_at n t (number a)) (number b))) e ∙ shift_below n (number a) (number b) (number_low a))
    by_top false e =
        let n = length a in
        ap (λ t. number (shifted_bits (down_bits t) 0 b a)) (top_number a some ∙ e)
        ∙ down_is a b
        ∙ sym (ap (λ t. reduced n (int_shr (number_at n t (number a)) (number b))) e ∙ shift_above n (number a) (number b) (number_low a))

-- ---- binary operators

-- the second operand is below the bound of the first
low_second : (a b : List Bool) → length a ≡ length b → number b < 2 ^ length a
low_second a b e = subst (λ k. number b < 2 ^ k) (sym e) (number_low b)

-- whether a value is negative
abbrev sign : (signed : Bool) → (bs : List Bool) → (n : ℕ) → Bool
sign signed bs n = is_negative n signed (number bs)

-- b < a, by the length of a
turned_around : (signed : Bool) (a b : List Bool) → length a ≡ length b → 1 ≤ length a →
    less_than_bits signed b a
    ≡ int_lt (as_number (length a) signed (number b)) (as_number (length a) signed (number a))
turned_around signed a b e some =
    less_than_number signed b a (sym e) (subst (λ k. 1 ≤ k) e some)
    ∙ ap (λ k. int_lt (as_number k signed (number b)) (as_number k signed (number a))) (sym e)

one_bits : (op : Bool → Bool → Bool) → ((x y : Bool) → truth (op x y) + 2 * 0
    ≡ truth (op (is_true (truth x + 2 * 0)) (is_true (truth y + 2 * 0)))) → (a b : List Bool) →
    length a ≡ 1 → length b ≡ 1 →
    number (joined_bits op a b) ≡ truth (op (is_true (number a)) (is_true (number b)))
one_bits op same [] b e f = absurd (omega (arith, e))
one_bits op same (x ∷ []) [] e f = absurd (omega (arith, f))
one_bits op same (x ∷ []) (y ∷ []) e f = same x y
one_bits op same (x ∷ []) (y ∷ z ∷ b) e f = absurd (omega (arith, f))
one_bits op same (x ∷ z ∷ a) b e f = absurd (omega (arith, e))

both_true : (x y : Bool) → truth (x && y) + 2 * 0
    ≡ truth (is_true (truth x + 2 * 0) && is_true (truth y + 2 * 0))
both_true true true = refl
both_true true false = refl
both_true false true = refl
both_true false false = refl

some_true : (x y : Bool) → truth (x || y) + 2 * 0
    ≡ truth (is_true (truth x + 2 * 0) || is_true (truth y + 2 * 0))
some_true true true = refl
some_true true false = refl
some_true false true = refl
some_true false false = refl

pub binary_number : (op : BinOp) (signed : Bool) (a b : List Bool) →
    HaveSizes op (length a) (length b) →
    number (binary_bits op signed a b) ≡ binary_value op (length a) signed (number a) (number b)
binary_number Mul signed a b sizes =
    product_number a b sizes.1.0
    ∙ sym (product_is (length a) (sign signed a (length a)) (sign signed b (length a)) (number a)
    (number b) (number_low a) (low_second a b sizes.1.0))
binary_number Div signed a b sizes = absurd (false≢true (sym sizes.0))
binary_number Rem signed a b sizes = absurd (false≢true (sym sizes.0))
binary_number Add signed a b sizes =
    let none : number a + number b + truth false ≡ number a + number b = omega arith in
    sum_number a b false sizes.1.0
    ∙ ap (λ n. n % 2 ^ length a) none
    ∙ sym (sum_is (length a) (sign signed a (length a)) (sign signed b (length a)) (number a)
    (number b) (number_low a) (low_second a b sizes.1.0))
binary_number Sub signed a b sizes =
    difference_number a b sizes.1.0
    ∙ sym (difference_is (length a) (sign signed a (length a)) (sign signed b (length a)) (number a)
    (number b) (number_low a) (low_second a b sizes.1.0))
binary_number Shl signed a b sizes = up_is a b
binary_number Shr signed a b sizes = down_is a b
binary_number SignShl signed a b sizes = up_is a b
binary_number SignShr signed a b sizes = sign_is signed a b sizes.1
binary_number Lt signed a b sizes =
    one_number (less_than_bits signed a b)
    ∙ ap truth (less_than_number signed a b sizes.1.0 sizes.1.1)
binary_number Le signed a b sizes =
    one_number (not (less_than_bits signed b a))
    ∙ ap truth (ap not (turned_around signed a b sizes.1.0 sizes.1.1)
    ∙ sym (at_most (as_number (length a) signed (number a)) (as_number (length a) signed (number b))))
binary_number Gt signed a b sizes =
    one_number (less_than_bits signed b a) ∙ ap truth (turned_around signed a b sizes.1.0 sizes.1.1)
binary_number Ge signed a b sizes =
    one_number (not (less_than_bits signed a b))
    ∙ ap truth (ap not (less_than_number signed a b sizes.1.0 sizes.1.1)
    ∙ sym (at_most (as_number (length a) signed (number b)) (as_number (length a) signed (number a))))
binary_number Eq signed a b sizes =
    one_number (equal_bits a b) ∙ ap truth (equal_number a b sizes.1.0)
binary_number Ne signed a b sizes =
    one_number (not (equal_bits a b)) ∙ ap (λ t. truth (not t)) (equal_number a b sizes.1.0)
binary_number And signed a b sizes = and_number a b sizes.1.0
binary_number Xor signed a b sizes = xor_number a b sizes.1.0
binary_number Xnor signed a b sizes = xnor_number a b sizes.1.0
binary_number Or signed a b sizes = or_number a b sizes.1.0
binary_number LogicAnd signed a b sizes = one_bits ◌&&◌ both_true a b sizes.1.0 sizes.1.1
binary_number LogicOr signed a b sizes = one_bits ◌||◌ some_true a b sizes.1.0 sizes.1.1
