-- The numbers of shifted bits.
use Rattle.std.proofs.Common.{◌≡◌, ℕ, zero, suc, ◌+◌, ◌-◌, ◌*◌, ◌/◌, ◌%◌, ◌^◌, ◌<◌, ◌≤◌, min, Bool, true}
use Rattle.std.proofs.Common.{false, not, List, [], ◌∷◌, ◌++◌, map, drop, replicate, length, refl}
use Rattle.std.proofs.Common.{sym, ap, ap₂, ◌∙◌, subst, arith, length-take, length-drop}
use Rattle.std.proofs.Common.{◌⊎◌, inl, inr}
use Rattle.std.proofs.Math.Nat.{mod-eq_of_lt, pow-suc, div-one, mul-mod_left, min-eq_left}
use Rattle.std.proofs.lemmas.Nat.{pow-add, shr-shr, mul-mod_first}
use Rattle.std.proofs.lemmas.Bool.{cases_lt}
use Rattle.sv_num.specs.Vectors.{truth}
use Rattle.sv_circuits.proofs.BitPieces.{joined_bits}
use Rattle.sv_circuits.proofs.Shifts.{chosen_bit, up_bits, down_bits, shifted_bits}
use Rattle.sv_circuits.proofs.BitNumbers.{number, number_low, zeros_number, zeros_length, not_number}
use Rattle.sv_circuits.proofs.BitNumbers.{not_length}
use Rattle.sv_circuits.proofs.BitMoves.{both_length, both_number, take_number, drop_number}

-- ---- choices between bits

pub chosen_first : (a b : List Bool) → length a ≡ length b → joined_bits (chosen_bit true) a b ≡ a
chosen_first [] [] e = refl
chosen_first [] (y ∷ b) e = absurd (omega (arith, e))
chosen_first (x ∷ a) [] e = absurd (omega (arith, e))
chosen_first (x ∷ a) (y ∷ b) e = ap (λ bs. x ∷ bs) (chosen_first a b (omega (arith, e)))

pub chosen_second : (a b : List Bool) → length a ≡ length b → joined_bits (chosen_bit false) a b ≡ b
chosen_second [] [] e = refl
chosen_second [] (y ∷ b) e = absurd (omega (arith, e))
chosen_second (x ∷ a) [] e = absurd (omega (arith, e))
chosen_second (x ∷ a) (y ∷ b) e = ap (λ bs. y ∷ bs) (chosen_second a b (omega (arith, e)))

-- ---- moves by so many places

pub up_length : (fill : Bool) (by : ℕ) (bs : List Bool) → length (up_bits fill by bs) ≡ length bs
up_length fill by bs =
    length-take (length bs) (replicate (min by (length bs)) fill ++ bs)
    ∙ ap (min (length bs)) (both_length (replicate (min by (length bs)) fill) bs)
    ∙ omega arith

pub down_length : (fill : Bool) (by : ℕ) (bs : List Bool) →
    length (down_bits fill by bs) ≡ length bs
down_length fill by bs =
    both_length (drop by bs) (replicate (min by (length bs)) fill)
    ∙ ap₂ ◌+◌ (length-drop by bs) (zeros_length (min by (length bs)) fill)
    ∙ omega arith

pub up_number : (by : ℕ) (bs : List Bool) →
    number (up_bits false by bs) ≡ number bs * 2 ^ by % 2 ^ length bs
up_number by bs =
    let n = length bs in
    let k = min by n in
    let zs = replicate k false in
    take_number n (zs ++ bs)
    ∙ ap (λ m. m % 2 ^ n) (both_number zs bs
    ∙ ap₂ (λ z j. z + 2 ^ j * number bs) (zeros_number k) (zeros_length k false))
    ∙ by_size (cases_lt n by)
  where
    by_size : (length bs < by) ⊎ (by ≤ length bs) →
        (0 + 2 ^ min by (length bs) * number bs) % 2 ^ length bs
        ≡ number bs * 2 ^ by % 2 ^ length bs
    by_size (inr near) =
        let least : min by (length bs) ≡ by = min-eq_left near in
        ap (λ j. (0 + 2 ^ j * number bs) % 2 ^ length bs) least
        ∙ ap (λ m. m % 2 ^ length bs) (omega arith)
    by_size (inl far) =
        let n = length bs in
        let least : min by n ≡ n = omega (arith, far) in
        let first : 0 + 2 ^ n * number bs ≡ number bs * 2 ^ n = omega arith in
        let parts : by ≡ (by - n) + n = omega (arith, far) in
        let power : 2 ^ by ≡ 2 ^ (by - n) * 2 ^ n = ap (λ j. 2 ^ j) parts ∙ pow-add 2 (by - n) n in
        let second : number bs * 2 ^ by ≡ number bs * 2 ^ (by - n) * 2 ^ n =
        ap (λ p. number bs * p) power ∙ omega arith in
        ap (λ j. (0 + 2 ^ j * number bs) % 2 ^ n) least
        ∙ ap (λ m. m % 2 ^ n) first ∙ mul-mod_left (number bs) (2 ^ n)
        ∙ sym (ap (λ m. m % 2 ^ n) second ∙ mul-mod_left (number bs * 2 ^ (by - n)) (2 ^ n))

pub down_number : (by : ℕ) (bs : List Bool) → number (down_bits false by bs) ≡ number bs / 2 ^ by
down_number by bs =
    let zs = replicate (min by (length bs)) false in
    both_number (drop by bs) zs
    ∙ ap (λ z. number (drop by bs) + 2 ^ length (drop by bs) * z)
    (zeros_number (min by (length bs)))
    ∙ omega arith
    ∙ drop_number by bs

-- ---- shifts

-- how far an amount moves from its bit i on
power_of : (i : ℕ) (c : Bool) (n : ℕ) → 2 ^ i * (truth c + 2 * n) ≡ 2 ^ i * truth c + 2 ^ suc i * n
power_of i c n = omega (arith, ap (λ p. p * n) (pow-suc 2 i))

-- a false bit of the amount moves nothing
not_moved : (i n : ℕ) → 2 ^ suc i * n ≡ 2 ^ i * (truth false + 2 * n)
not_moved i n = omega (arith, power_of i false n)

pub shifted_length : (move : ℕ → List Bool → List Bool) →
    ((by : ℕ) (bs : List Bool) → length (move by bs) ≡ length bs) → (i : ℕ) (cs bs : List Bool) →
    length (shifted_bits move i cs bs) ≡ length bs
shifted_length move keeps i [] bs = refl
shifted_length move keeps i (true ∷ cs) bs =
    shifted_length move keeps (suc i) cs (joined_bits (chosen_bit true) (move (2 ^ i) bs) bs)
    ∙ ap length (chosen_first (move (2 ^ i) bs) bs (keeps (2 ^ i) bs)) ∙ keeps (2 ^ i) bs
shifted_length move keeps i (false ∷ cs) bs =
    shifted_length move keeps (suc i) cs (joined_bits (chosen_bit false) (move (2 ^ i) bs) bs)
    ∙ ap length (chosen_second (move (2 ^ i) bs) bs (keeps (2 ^ i) bs))

pub shifted_up_number : (i : ℕ) (cs bs : List Bool) →
    number (shifted_bits (up_bits false) i cs bs)
    ≡ number bs * 2 ^ (2 ^ i * number cs) % 2 ^ length bs
shifted_up_number i [] bs =
    let none : 2 ^ i * 0 ≡ 0 = omega arith in
    let one : number bs * 2 ^ 0 ≡ number bs = omega arith in
    sym (ap (λ j. number bs * 2 ^ j % 2 ^ length bs) none ∙ ap (λ m. m % 2 ^ length bs) one
    ∙ mod-eq_of_lt (number_low bs))
shifted_up_number i (true ∷ cs) bs =
    let by = 2 ^ i in
    let moved = up_bits false by bs in
    let n = length bs in
    let q = 2 ^ suc i * number cs in
    let far : by + q ≡ by * (truth true + 2 * number cs) =
    omega (arith, power_of i true (number cs)) in
    let grouped : number bs * 2 ^ by * 2 ^ q ≡ number bs * 2 ^ (by + q) =
    omega (arith, ap (λ p. number bs * p) (pow-add 2 by q)) in
    ap (λ xs. number (shifted_bits (up_bits false) (suc i) cs xs))
    (chosen_first moved bs (up_length false by bs))
    ∙ shifted_up_number (suc i) cs moved
    ∙ ap₂ (λ m k. m * 2 ^ q % 2 ^ k) (up_number by bs) (up_length false by bs)
    ∙ mul-mod_first (number bs * 2 ^ by) (2 ^ q) (2 ^ n)
    ∙ ap (λ m. m % 2 ^ n) (grouped ∙ ap (λ j. number bs * 2 ^ j) far)
shifted_up_number i (false ∷ cs) bs =
    ap (λ xs. number (shifted_bits (up_bits false) (suc i) cs xs))
    (chosen_second (up_bits false (2 ^ i) bs) bs (up_length false (2 ^ i) bs))
    ∙ shifted_up_number (suc i) cs bs
    ∙ ap (λ j. number bs * 2 ^ j % 2 ^ length bs) (not_moved i (number cs))

pub shifted_down_number : (i : ℕ) (cs bs : List Bool) →
    number (shifted_bits (down_bits false) i cs bs) ≡ number bs / 2 ^ (2 ^ i * number cs)
shifted_down_number i [] bs =
    let none : 2 ^ i * 0 ≡ 0 = omega arith in
    sym (ap (λ j. number bs / 2 ^ j) none ∙ div-one (number bs))
shifted_down_number i (true ∷ cs) bs =
    let by = 2 ^ i in
    let moved = down_bits false by bs in
    let q = 2 ^ suc i * number cs in
    let far : by + q ≡ by * (truth true + 2 * number cs) =
    omega (arith, power_of i true (number cs)) in
    ap (λ xs. number (shifted_bits (down_bits false) (suc i) cs xs))
    (chosen_first moved bs (down_length false by bs))
    ∙ shifted_down_number (suc i) cs moved
    ∙ ap (λ m. m / 2 ^ q) (down_number by bs)
    ∙ shr-shr (number bs) by q
    ∙ ap (λ j. number bs / 2 ^ j) far
shifted_down_number i (false ∷ cs) bs =
    ap (λ xs. number (shifted_bits (down_bits false) (suc i) cs xs))
    (chosen_second (down_bits false (2 ^ i) bs) bs (down_length false (2 ^ i) bs))
    ∙ shifted_down_number (suc i) cs bs
    ∙ ap (λ j. number bs / 2 ^ j) (not_moved i (number cs))

-- ---- true bits that fill: all is turned

not_both : (xs ys : List Bool) → map not (xs ++ ys) ≡ map not xs ++ map not ys
not_both [] ys = refl
not_both (x ∷ xs) ys = ap (λ bs. not x ∷ bs) (not_both xs ys)

not_drop : (k : ℕ) (xs : List Bool) → map not (drop k xs) ≡ drop k (map not xs)
not_drop zero xs = refl
not_drop (suc k) [] = refl
not_drop (suc k) (x ∷ xs) = not_drop k xs

not_fill : (k : ℕ) (b : Bool) → map not (replicate k b) ≡ replicate k (not b)
not_fill zero b = refl
not_fill (suc k) b = ap (λ bs. not b ∷ bs) (not_fill k b)

not_down : (b : Bool) (by : ℕ) (bs : List Bool) →
    map not (down_bits b by bs) ≡ down_bits (not b) by (map not bs)
not_down b by bs =
    not_both (drop by bs) (replicate (min by (length bs)) b)
    ∙ ap₂ ◌++◌ (not_drop by bs) (not_fill (min by (length bs)) b)
    ∙ ap (λ n. drop by (map not bs) ++ replicate (min by n) (not b)) (sym (not_length bs))

not_chosen : (c : Bool) (a b : List Bool) →
    map not (joined_bits (chosen_bit c) a b)
    ≡ joined_bits (chosen_bit c) (map not a) (map not b)
not_chosen c [] b = refl
not_chosen c (x ∷ a) [] = refl
not_chosen true (x ∷ a) (y ∷ b) = ap (λ bs. not x ∷ bs) (not_chosen true a b)
not_chosen false (x ∷ a) (y ∷ b) = ap (λ bs. not y ∷ bs) (not_chosen false a b)

not_shifted : (b : Bool) (i : ℕ) (cs bs : List Bool) →
    map not (shifted_bits (down_bits b) i cs bs)
    ≡ shifted_bits (down_bits (not b)) i cs (map not bs)
not_shifted b i [] bs = refl
not_shifted b i (c ∷ cs) bs =
    not_shifted b (suc i) cs (joined_bits (chosen_bit c) (down_bits b (2 ^ i) bs) bs)
    ∙ ap (shifted_bits (down_bits (not b)) (suc i) cs)
    (not_chosen c (down_bits b (2 ^ i) bs) bs
    ∙ ap (λ xs. joined_bits (chosen_bit c) xs (map not bs)) (not_down b (2 ^ i) bs))

pub shifted_sign_number : (i : ℕ) (cs bs : List Bool) →
    number (shifted_bits (down_bits true) i cs bs)
    ≡ 2 ^ length bs - 1 - (2 ^ length bs - 1 - number bs) / 2 ^ (2 ^ i * number cs)
shifted_sign_number i cs bs =
    let out = shifted_bits (down_bits true) i cs bs in
    let far = 2 ^ i * number cs in
    let size : length out ≡ length bs =
    shifted_length (down_bits true) (down_length true) i cs bs in
    let whole : number (map not out) + number out + 1 ≡ 2 ^ length bs =
    subst (λ n. number (map not out) + number out + 1 ≡ 2 ^ n) size (not_number out) in
    let gap : number (map not bs) ≡ 2 ^ length bs - 1 - number bs =
    omega (arith, not_number bs) in
    let turned : number (map not out) ≡ (2 ^ length bs - 1 - number bs) / 2 ^ far =
    ap number (not_shifted true i cs bs) ∙ shifted_down_number i cs (map not bs)
    ∙ ap (λ n. n / 2 ^ far) gap in
    omega (arith, whole, turned)
