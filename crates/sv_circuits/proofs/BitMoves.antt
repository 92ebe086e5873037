-- The numbers of bits that are taken, moved and multiplied.
use Rattle.std.proofs.Common.{◌≡◌, ℕ, zero, suc, ◌+◌, ◌-◌, ◌*◌, ◌/◌, ◌%◌, ◌^◌, ◌<◌, ◌≤◌, Bool, true}
use Rattle.std.proofs.Common.{false, ◌&&◌, List, [], ◌∷◌, ◌++◌, take, drop, replicate, length}
use Rattle.std.proofs.Common.{refl, sym, ap, ap₂, ◌∙◌, subst, arith, length-take}
use Rattle.std.proofs.Math.Nat.{add-mul-mod_self_right, mod-eq_of_lt, pow-suc, div-one, mod-add-mod}
use Rattle.std.proofs.Math.Nat.{add-mod-mod}
use Rattle.std.proofs.lemmas.Nat.{pow_pos, pow-add, shr-shr}
use Rattle.std.proofs.lemmas.Nat.{div-add-mod'}
use Rattle.sv_num.specs.Vectors.{truth}
use Rattle.sv_circuits.proofs.Sums.{sum_bits}
use Rattle.sv_circuits.proofs.Products.{masked_bits, row_bits, rows_bits, total_bits_from}
use Rattle.sv_circuits.proofs.Products.{product_bits}
use Rattle.sv_circuits.proofs.BitNumbers.{number, number_low, truth_low, sum_number, sum_length}
use Rattle.sv_circuits.proofs.BitNumbers.{zeros_number, zeros_length}

-- ---- lists of bits

pub both_length : (xs ys : List Bool) → length (xs ++ ys) ≡ length xs + length ys
both_length [] ys = omega arith
both_length (x ∷ xs) ys = omega (arith, both_length xs ys)

pub both_number : (xs ys : List Bool) →
    number (xs ++ ys) ≡ number xs + 2 ^ length xs * number ys
both_number [] ys = omega arith
both_number (x ∷ xs) ys =
    let rest = both_number xs ys in
    let power : 2 ^ suc (length xs) * number ys ≡ 2 * (2 ^ length xs * number ys) =
    ap (λ p. p * number ys) (pow-suc 2 (length xs)) ∙ omega arith in
    omega (arith, rest, power)

-- a bit and more, modulo twice as much
low_step : (t n m : ℕ) → t < 2 → 0 < m → (t + 2 * n) % (2 * m) ≡ t + 2 * (n % m)
low_step t n m low some =
    let whole : n / m * m + n % m ≡ n = div-add-mod' n m in
    let small : n % m < m = omega arith in
    let split : t + 2 * n ≡ (t + 2 * (n % m)) + n / m * (2 * m) = omega (arith, whole) in
    ap (λ k. k % (2 * m)) split
    ∙ add-mul-mod_self_right (t + 2 * (n % m)) (n / m) (2 * m)
    ∙ mod-eq_of_lt (omega (arith, small, low))

pub take_number : (k : ℕ) (bs : List Bool) → number (take k bs) ≡ number bs % 2 ^ k
take_number zero bs = omega arith
take_number (suc k) [] = sym (mod-eq_of_lt (pow_pos (suc k)))
take_number (suc k) (b ∷ bs) =
    let doubled : 2 * 2 ^ k ≡ 2 ^ suc k = omega (arith, pow-suc 2 k) in
    ap (λ n. truth b + 2 * n) (take_number k bs)
    ∙ sym (low_step (truth b) (number bs) (2 ^ k) (truth_low b) (pow_pos k))
    ∙ ap (λ m. (truth b + 2 * number bs) % m) doubled

half : (b : Bool) (n : ℕ) → (truth b + 2 * n) / 2 ≡ n
half true n = omega arith
half false n = omega arith

pub drop_number : (k : ℕ) (bs : List Bool) → number (drop k bs) ≡ number bs / 2 ^ k
drop_number zero bs = sym (div-one (number bs))
drop_number (suc k) [] = omega (arith, pow_pos (suc k))
drop_number (suc k) (b ∷ bs) =
    let one : 1 + k ≡ suc k = omega arith in
    drop_number k bs
    ∙ ap (λ n. n / 2 ^ k) (sym (half b (number bs)))
    ∙ shr-shr (truth b + 2 * number bs) 1 k
    ∙ ap (λ j. (truth b + 2 * number bs) / 2 ^ j) one

-- ---- products

masked_number : (xs : List Bool) (b : Bool) → number (masked_bits xs b) ≡ truth b * number xs
masked_number [] b = omega arith
masked_number (x ∷ xs) true = omega (arith, masked_number xs true, and_true x)
  where
    and_true : (x : Bool) → truth (x && true) ≡ truth x
    and_true true = refl
    and_true false = refl
masked_number (x ∷ xs) false = omega (arith, masked_number xs false, and_false x)
  where
    and_false : (x : Bool) → truth (x && false) ≡ 0
    and_false true = refl
    and_false false = refl

masked_length : (xs : List Bool) (b : Bool) → length (masked_bits xs b) ≡ length xs
masked_length [] b = refl
masked_length (x ∷ xs) b = ap suc (masked_length xs b)

row_length : (a : List Bool) (i : ℕ) (b : Bool) → i ≤ length a → length (row_bits a i b) ≡ length a
row_length a i b h =
    both_length (replicate i false) (masked_bits (take (length a - i) a) b)
    ∙ ap₂ ◌+◌ (zeros_length i false)
    (masked_length (take (length a - i) a) b ∙ length-take (length a - i) a)
    ∙ omega (arith, h)

-- the low bits of a number, moved up
moved_low : (i j n : ℕ) → 2 ^ i * (n % 2 ^ j) ≡ 2 ^ i * n % 2 ^ (i + j)
moved_low i j n =
    let p = 2 ^ i in
    let m = 2 ^ j in
    let some : 0 < m = pow_pos j in
    let up : 0 < p = pow_pos i in
    let whole : n / m * m + n % m ≡ n = div-add-mod' n m in
    let times : p * (n / m * m + n % m) ≡ p * n = ap (λ k. p * k) whole in
    let power : 2 ^ (i + j) ≡ p * m = pow-add 2 i j in
    let split : p * n ≡ p * (n % m) + n / m * 2 ^ (i + j) =
    omega (arith, times, ap (λ k. n / m * k) power) in
    let small : n % m < m = omega arith in
    let low : p * (n % m) < 2 ^ (i + j) = subst (λ k. p * (n % m) < k) (sym power) (below p (n % m) m up small) in
    sym (ap (λ k. k % 2 ^ (i + j)) split
    ∙ add-mul-mod_self_right (p * (n % m)) (n / m) (2 ^ (i + j)) ∙ mod-eq_of_lt low)
  where
    below : (p x m : ℕ) → 0 < p → x < m → p * x < p * m
    below p x m some h =
        let gap : m ≡ suc x + (m - suc x) = omega (arith, h) in
        let times : p * m ≡ p * (suc x + (m - suc x)) = ap (λ k. p * k) gap in
        omega (arith, times, some)

row_number : (a : List Bool) (i : ℕ) (b : Bool) → i ≤ length a →
    number (row_bits a i b) ≡ 2 ^ i * number a * truth b % 2 ^ length a
row_number a i b h =
    let low = take (length a - i) a in
    let j = length a - i in
    let joined : i + j ≡ length a = omega (arith, h) in
    both_number (replicate i false) (masked_bits low b)
    ∙ ap₂ (λ z k. z + 2 ^ k * number (masked_bits low b)) (zeros_number i) (zeros_length i false)
    ∙ ap (λ n. 0 + 2 ^ i * n) (masked_number low b ∙ ap (λ n. truth b * n) (take_number j a))
    ∙ by_bit b j joined
  where
    by_bit : (b : Bool) (j : ℕ) → i + j ≡ length a →
        0 + 2 ^ i * (truth b * (number a % 2 ^ j)) ≡ 2 ^ i * number a * truth b % 2 ^ length a
    by_bit true j joined =
        let one : 0 + 2 ^ i * (truth true * (number a % 2 ^ j)) ≡ 2 ^ i * (number a % 2 ^ j) =
        omega arith in
        let same : 2 ^ i * number a * truth true ≡ 2 ^ i * number a = omega arith in
        one ∙ moved_low i j (number a)
        ∙ ap₂ (λ n k. n % 2 ^ k) (sym same) joined
    by_bit false j joined =
        let one : 0 + 2 ^ i * (truth false * (number a % 2 ^ j)) ≡ 0 = omega arith in
        let none : 2 ^ i * number a * truth false ≡ 0 = omega arith in
        one ∙ sym (ap (λ n. n % 2 ^ length a) none ∙ mod-eq_of_lt (pow_pos (length a)))

-- rows of one length
abbrev pub HaveLength : ℕ → List (List Bool) → Type 0
HaveLength n [] = Unit {0}
HaveLength n (row ∷ rows) = (length row ≡ n) × HaveLength n rows

abbrev pub rows_number : List (List Bool) → ℕ
rows_number [] = 0
rows_number (row ∷ rows) = number row + rows_number rows

rows_length : (a : List Bool) (i : ℕ) (b : List Bool) → i + length b ≤ length a →
    HaveLength (length a) (rows_bits a i b)
rows_length a i [] h = tt
rows_length a i (b ∷ bs) h =
    (row_length a i b (omega (arith, h)), rows_length a (suc i) bs (omega (arith, h)))

total_number : (n : ℕ) (total : List Bool) (rows : List (List Bool)) → length total ≡ n →
    HaveLength n rows →
    number (total_bits_from total rows) ≡ (number total + rows_number rows) % 2 ^ n
total_number n total [] e have =
    let none : number total + 0 ≡ number total = omega arith in
    sym (ap (λ k. k % 2 ^ n) none
    ∙ mod-eq_of_lt (subst (λ k. number total < 2 ^ k) e (number_low total)))
total_number n total (row ∷ rows) e have =
    let same = e ∙ sym have.0 in
    let next = sum_bits total row false in
    let both : number total + number row + 0 ≡ number total + number row = omega arith in
    let grouped : number total + number row + rows_number rows
    ≡ number total + (number row + rows_number rows) = omega arith in
    total_number n next rows (sum_length total row false same ∙ e) have.1
    ∙ ap (λ k. (k + rows_number rows) % 2 ^ n)
    (sum_number total row false same
    ∙ ap₂ (λ k m. k % 2 ^ m) both e)
    ∙ mod-add-mod (number total + number row) (2 ^ n) (rows_number rows)
    ∙ ap (λ k. k % 2 ^ n) grouped

rows_total : (a : List Bool) (i : ℕ) (b : List Bool) → i + length b ≤ length a →
    rows_number (rows_bits a i b) % 2 ^ length a ≡ 2 ^ i * number a * number b % 2 ^ length a
rows_total a i [] h =
    let none : 2 ^ i * number a * 0 ≡ 0 = omega arith in
    ap (λ n. n % 2 ^ length a) (sym none)
rows_total a i (b ∷ bs) h =
    let m = 2 ^ length a in
    let p = 2 ^ i * number a in
    let rest = rows_number (rows_bits a (suc i) bs) in
    let twice : 2 ^ suc i * number a * number bs ≡ 2 * (p * number bs) =
    ap (λ q. q * number a * number bs) (pow-suc 2 i) ∙ omega arith in
    let spread : p * truth b + 2 ^ suc i * number a * number bs ≡ p * (truth b + 2 * number bs) =
    omega (arith, twice) in
    ap (λ n. (n + rest) % m) (row_number a i b (omega (arith, h)))
    ∙ mod-add-mod (p * truth b) m rest
    ∙ sym (add-mod-mod (p * truth b) rest m)
    ∙ ap (λ n. (p * truth b + n) % m) (rows_total a (suc i) bs (omega (arith, h)))
    ∙ add-mod-mod (p * truth b) (2 ^ suc i * number a * number bs) m
    ∙ ap (λ n. n % m) spread

pub product_number : (a b : List Bool) → length a ≡ length b →
    number (product_bits a b) ≡ number a * number b % 2 ^ length a
product_number [] [] e = refl
product_number [] (y ∷ b) e = absurd (omega (arith, e))
product_number (x ∷ a) [] e = absurd (omega (arith, e))
product_number (x ∷ a) (y ∷ b) e =
    let xs = x ∷ a in
    let n = length xs in
    let fits : 0 + length (y ∷ b) ≤ n = omega (arith, e) in
    let have = rows_length xs 0 (y ∷ b) fits in
    let one : 2 ^ 0 * number xs * number (y ∷ b) ≡ number xs * number (y ∷ b) = omega arith in
    total_number n (row_bits xs 0 y) (rows_bits xs 1 b) have.0 have.1
    ∙ rows_total xs 0 (y ∷ b) fits
    ∙ ap (λ k. k % 2 ^ n) one
