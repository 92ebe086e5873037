-- The numbers that bits stand for, and those of sums, differences and joined bits.
use Rattle.std.proofs.Common.{◌≡◌, ℕ, zero, suc, ◌+◌, ◌-◌, ◌*◌, ◌/◌, ◌%◌, ◌^◌, ◌<◌, min, max, Bool}
use Rattle.std.proofs.Common.{true, false, not, ◌&&◌, ◌||◌, List, [], ◌∷◌, map, replicate}
use Rattle.std.proofs.Common.{length, refl, sym, ap, ap₂, ◌∙◌, subst, arith}
use Rattle.std.specs.Int.{bit_at}
use Rattle.std.specs.Prelude.{bit_and, bit_or, bit_xor}
use Rattle.std.proofs.Math.Nat.{add-mul-mod_self_right, mod-eq_of_lt, pow-suc}
use Rattle.std.proofs.lemmas.Nat.{and_shr, or_shr, xor_shr}
use Rattle.std.proofs.lemmas.Nat.Bits.{bit_at_and, bit_at_or, bit_at_xor, bit_at_lowest}
use Rattle.sv_num.specs.Vectors.{truth}
use Rattle.sv_clause.specs.Literals.{literal_true}
use Rattle.sv_circuits.specs.Words.{Word, word_value}
use Rattle.sv_circuits.specs.Circuits.{bits_of}
use Rattle.sv_circuits.proofs.BitPieces.{differ, joined_bits}
use Rattle.sv_circuits.proofs.Sums.{sum_bit, carry_bit, sum_bits}
use Rattle.sv_circuits.proofs.Comparisons.{same}

-- the number that bits stand for
abbrev pub number : List Bool → ℕ
number [] = 0
number (b ∷ bs) = truth b + 2 * number bs

pub word_number : (values : ℕ → Bool) (word : Word) →
    word_value values word ≡ number (bits_of values word)
word_number values [] = refl
word_number values (l ∷ word) =
    ap (λ n. truth (literal_true values l) + 2 * n) (word_number values word)

pub truth_low : (b : Bool) → truth b < 2
truth_low true = omega arith
truth_low false = omega arith

pub truth_not : (b : Bool) → truth (not b) + truth b ≡ 1
truth_not true = refl
truth_not false = refl

pub number_low : (bs : List Bool) → number bs < 2 ^ length bs
number_low [] = omega arith
number_low (b ∷ bs) = omega (arith, number_low bs, truth_low b, pow-suc 2 (length bs))

-- ---- sums

pub adder : (a b c : Bool) →
    truth (sum_bit a b c) + 2 * truth (carry_bit a b c) ≡ truth a + truth b + truth c
adder true true true = refl
adder true true false = refl
adder true false true = refl
adder true false false = refl
adder false true true = refl
adder false true false = refl
adder false false true = refl
adder false false false = refl

pub sum_length : (a b : List Bool) (c : Bool) → length a ≡ length b →
    length (sum_bits a b c) ≡ length a
sum_length [] b c e = refl
sum_length (x ∷ a) [] c e = absurd (omega (arith, e))
sum_length (x ∷ a) (y ∷ b) c e = ap suc (sum_length a b (carry_bit x y c) (omega (arith, e)))

-- the carry out of a sum
abbrev pub carry_out : (a b : List Bool) → (c : Bool) → Bool
carry_out [] b c = c
carry_out (x ∷ a) [] c = c
carry_out (x ∷ a) (y ∷ b) c = carry_out a b (carry_bit x y c)

double_power : (t n : ℕ) → t * 2 ^ suc n ≡ 2 * (t * 2 ^ n)
double_power t n = ap (λ p. t * p) (pow-suc 2 n) ∙ omega arith

pub sum_whole : (a b : List Bool) (c : Bool) → length a ≡ length b →
    number (sum_bits a b c) + truth (carry_out a b c) * 2 ^ length a
    ≡ number a + number b + truth c
sum_whole [] [] c e = omega arith
sum_whole [] (y ∷ b) c e = absurd (omega (arith, e))
sum_whole (x ∷ a) [] c e = absurd (omega (arith, e))
sum_whole (x ∷ a) (y ∷ b) c e =
    let d = carry_bit x y c in
    let rest = sum_whole a b d (omega (arith, e)) in
    omega (arith, rest, adder x y c, double_power (truth (carry_out a b d)) (length a))

-- the sum modulo 2 to the length
pub sum_number : (a b : List Bool) (c : Bool) → length a ≡ length b →
    number (sum_bits a b c) ≡ (number a + number b + truth c) % 2 ^ length a
sum_number a b c e =
    let s = number (sum_bits a b c) in
    let low : s < 2 ^ length a =
    subst (λ n. s < 2 ^ n) (sum_length a b c e) (number_low (sum_bits a b c)) in
    sym (ap (λ n. n % 2 ^ length a) (sym (sum_whole a b c e))
    ∙ add-mul-mod_self_right s (truth (carry_out a b c)) (2 ^ length a)
    ∙ mod-eq_of_lt low)

-- ---- negated bits

pub not_length : (bs : List Bool) → length (map not bs) ≡ length bs
not_length [] = refl
not_length (b ∷ bs) = ap suc (not_length bs)

pub not_number : (bs : List Bool) → number (map not bs) + number bs + 1 ≡ 2 ^ length bs
not_number [] = omega arith
not_number (b ∷ bs) = omega (arith, not_number bs, truth_not b, pow-suc 2 (length bs))

pub difference_number : (a b : List Bool) → length a ≡ length b →
    number (sum_bits a (map not b) true) ≡ (number a + (2 ^ length a - number b)) % 2 ^ length a
difference_number a b e =
    let whole : number (map not b) + number b + 1 ≡ 2 ^ length a =
    subst (λ n. number (map not b) + number b + 1 ≡ 2 ^ n) (sym e) (not_number b) in
    let gap : number a + number (map not b) + 1 ≡ number a + (2 ^ length a - number b) =
    omega (arith, whole) in
    sum_number a (map not b) true (e ∙ sym (not_length b)) ∙ ap (λ n. n % 2 ^ length a) gap

pub zeros_length : (n : ℕ) (b : Bool) → length (replicate n b) ≡ n
zeros_length zero b = refl
zeros_length (suc n) b = ap suc (zeros_length n b)

pub zeros_number : (n : ℕ) → number (replicate n false) ≡ 0
zeros_number zero = refl
zeros_number (suc n) = omega (arith, zeros_number n)

pub minus_number : (a : List Bool) → number (sum_bits (replicate (length a) false) (map not a) true)
    ≡ (2 ^ length a - number a) % 2 ^ length a
minus_number a =
    let zs = replicate (length a) false in
    let same_length : length zs ≡ length a = zeros_length (length a) false in
    let none : number zs + (2 ^ length a - number a) ≡ 2 ^ length a - number a =
    omega (arith, zeros_number (length a)) in
    difference_number zs a same_length
    ∙ ap (λ n. (number zs + (2 ^ n - number a)) % 2 ^ n) same_length
    ∙ ap (λ n. n % 2 ^ length a) none

-- ---- bits joined one by one

pub joined_length : (op : Bool → Bool → Bool) (a b : List Bool) → length a ≡ length b →
    length (joined_bits op a b) ≡ length a
joined_length op [] [] e = refl
joined_length op [] (y ∷ b) e = refl
joined_length op (x ∷ a) [] e = absurd (omega (arith, e))
joined_length op (x ∷ a) (y ∷ b) e = ap suc (joined_length op a b (omega (arith, e)))

-- a number by its lowest bit and the rest
from_half : (n low rest : ℕ) → n % 2 ≡ low → n / 2 ≡ rest → low + 2 * rest ≡ n
from_half n low rest e f = omega (arith, e, f)

pub half_of : (b : Bool) (n : ℕ) → (truth b + 2 * n) / 2 ≡ n
half_of true n = omega arith
half_of false n = omega arith

pub low_of : (b : Bool) (n : ℕ) → (truth b + 2 * n) % 2 ≡ truth b
low_of true n = omega arith
low_of false n = omega arith

truth_and : (a b : Bool) → truth (a && b) ≡ min (truth a) (truth b)
truth_and true true = refl
truth_and true false = refl
truth_and false true = refl
truth_and false false = refl

truth_or : (a b : Bool) → truth (a || b) ≡ max (truth a) (truth b)
truth_or true true = refl
truth_or true false = refl
truth_or false true = refl
truth_or false false = refl

truth_differ : (a b : Bool) → truth (differ a b) ≡ (truth a + truth b) % 2
truth_differ true true = refl
truth_differ true false = refl
truth_differ false true = refl
truth_differ false false = refl

-- a number of bits joined one by one, where the whole has each bit from bits and each half from
-- halves
joined_number : (op : Bool → Bool → Bool) (whole join : ℕ → ℕ → ℕ)
    → ((x y : Bool) → truth (op x y) ≡ join (truth x) (truth y))
    → ((m n : ℕ) → bit_at (whole m n) 0 ≡ join (bit_at m 0) (bit_at n 0))
    → ((m n : ℕ) → whole m n / 2 ≡ whole (m / 2) (n / 2))
    → whole 0 0 ≡ 0 → (a b : List Bool) → length a ≡ length b
    → number (joined_bits op a b) ≡ whole (number a) (number b)
joined_number op whole join truths bits halves none [] [] e = sym none
joined_number op whole join truths bits halves none [] (y ∷ b) e = absurd (omega (arith, e))
joined_number op whole join truths bits halves none (x ∷ a) [] e = absurd (omega (arith, e))
joined_number op whole join truths bits halves none (x ∷ a) (y ∷ b) e =
    let m = number (x ∷ a) in
    let n = number (y ∷ b) in
    let low : whole m n % 2 ≡ truth (op x y) =
    sym (bit_at_lowest (whole m n)) ∙ bits m n
    ∙ ap₂ join (bit_at_lowest m ∙ low_of x (number a)) (bit_at_lowest n ∙ low_of y (number b))
    ∙ sym (truths x y) in
    let half : whole m n / 2 ≡ whole (number a) (number b) =
    halves m n ∙ ap₂ whole (half_of x (number a)) (half_of y (number b)) in
    ap (λ r. truth (op x y) + 2 * r)
    (joined_number op whole join truths bits halves none a b (omega (arith, e)))
    ∙ from_half (whole m n) (truth (op x y)) (whole (number a) (number b)) low half

pub and_number : (a b : List Bool) → length a ≡ length b →
    number (joined_bits ◌&&◌ a b) ≡ bit_and (number a) (number b)
and_number = joined_number ◌&&◌ bit_and min truth_and (λ m n. bit_at_and m n 0)
    (λ m n. and_shr m n 1) refl

pub or_number : (a b : List Bool) → length a ≡ length b →
    number (joined_bits ◌||◌ a b) ≡ bit_or (number a) (number b)
or_number = joined_number ◌||◌ bit_or max truth_or (λ m n. bit_at_or m n 0)
    (λ m n. or_shr m n 1) refl

pub xor_number : (a b : List Bool) → length a ≡ length b →
    number (joined_bits differ a b) ≡ bit_xor (number a) (number b)
xor_number = joined_number differ bit_xor (λ k l. (k + l) % 2) truth_differ
    (λ m n. bit_at_xor m n 0) (λ m n. xor_shr m n 1) refl

same_is_not : (a b : List Bool) → joined_bits same a b ≡ map not (joined_bits differ a b)
same_is_not [] b = refl
same_is_not (x ∷ a) [] = refl
same_is_not (x ∷ a) (y ∷ b) = ap (λ bs. same x y ∷ bs) (same_is_not a b)

pub xnor_number : (a b : List Bool) → length a ≡ length b →
    number (joined_bits same a b) ≡ 2 ^ length a - 1 - bit_xor (number a) (number b)
xnor_number a b e =
    let ds = joined_bits differ a b in
    let whole : number (map not ds) + number ds + 1 ≡ 2 ^ length a =
    subst (λ n. number (map not ds) + number ds + 1 ≡ 2 ^ n) (joined_length differ a b e)
    (not_number ds) in
    ap number (same_is_not a b)
    ∙ omega (arith, whole)
    ∙ ap (λ n. 2 ^ length a - 1 - n) (xor_number a b e)
