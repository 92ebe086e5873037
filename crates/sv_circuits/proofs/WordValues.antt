-- What words that are made without gates spell.
use Rattle.std.proofs.Common.{◌≡◌, ℕ, zero, suc, ◌+◌, ◌-◌, ◌*◌, ◌/◌, ◌%◌, ◌^◌, ◌<◌, ◌≤◌, Bool, true}
use Rattle.std.proofs.Common.{false, leb, ◌==◌, ℤ, [], ◌∷◌, ◌++◌, take, drop, replicate, length, refl}
use Rattle.std.proofs.Common.{sym, ap, ap₂, ◌∙◌, subst, arith, if◌then◌else◌}
use Rattle.std.proofs.Math.Nat.{mod-eq_of_lt, add-mul-mod_self_right, pow-suc}
use Rattle.std.proofs.Math.Pow.{pow_mono}
use Rattle.std.proofs.lemmas.Nat.{pow_pos}
use Rattle.sv_num.specs.Vectors.{truth, reduced}
use Rattle.sv_num.specs.Parts.{extended}
use Rattle.sv_num.proofs.NumberLemmas.{number_at, wider_above, wider_below}
use Rattle.sv_clause.specs.Literals.{literal_true}
use Rattle.sv_gates.specs.Formulas.{IsLiteral}
use Rattle.sv_gates.specs.Gates.{true_literal, false_literal}
use Rattle.sv_gates.proofs.GateLaws.{literal_more}
use Rattle.sv_circuits.specs.Words.{Word, word_value, low_literal, number_word, filled_word}
use Rattle.sv_circuits.specs.Words.{zero_filled, extended_word}
use Rattle.sv_circuits.specs.Operators.{sign_fill}
use Rattle.sv_circuits.specs.Circuits.{bits_of, IsWord}
use Rattle.sv_circuits.proofs.BitPieces.{true_is, false_is, false_known, true_known}
use Rattle.sv_circuits.proofs.Products.{take_is, take_bits, joined_is, bits_length}
use Rattle.sv_circuits.proofs.Comparisons.{drop_bits}
use Rattle.sv_circuits.proofs.Shifts.{fills_are}
use Rattle.sv_circuits.proofs.OperatorBits.{fill_is, fill_known}
use Rattle.sv_circuits.proofs.BitNumbers.{number, number_low, word_number}
use Rattle.sv_circuits.proofs.BitMoves.{take_number, drop_number}
use Rattle.sv_circuits.proofs.OperatorValues.{top_number}

-- ---- words

pub word_low : (values : ℕ → Bool) (word : Word) → word_value values word < 2 ^ length word
word_low values word =
    subst (λ n. n < 2 ^ length word) (sym (word_number values word))
    (subst (λ k. number (bits_of values word) < 2 ^ k) (bits_length values word)
    (number_low (bits_of values word)))

pub both_value : (values : ℕ → Bool) (a b : Word) →
    word_value values (a ++ b) ≡ word_value values a + 2 ^ length a * word_value values b
both_value values [] b = omega arith
both_value values (l ∷ a) b =
    let power : 2 ^ suc (length a) * word_value values b ≡ 2 * (2 ^ length a * word_value values b) =
    ap (λ p. p * word_value values b) (pow-suc 2 (length a)) ∙ omega arith in
    omega (arith, both_value values a b, power)

pub taken_value : (values : ℕ → Bool) (k : ℕ) (word : Word) →
    word_value values (take k word) ≡ word_value values word % 2 ^ k
taken_value values k word =
    word_number values (take k word)
    ∙ ap number (take_bits values k word)
    ∙ take_number k (bits_of values word)
    ∙ ap (λ n. n % 2 ^ k) (sym (word_number values word))

pub dropped_value : (values : ℕ → Bool) (k : ℕ) (word : Word) →
    word_value values (drop k word) ≡ word_value values word / 2 ^ k
dropped_value values k word =
    word_number values (drop k word)
    ∙ ap number (drop_bits values k word)
    ∙ drop_number k (bits_of values word)
    ∙ ap (λ n. n / 2 ^ k) (sym (word_number values word))

-- ---- numbers

low_is : (n k : ℕ) → 1 ≤ n → IsLiteral n (low_literal k)
low_is n k some = by_test (k % 2 == 1)
  where
    by_test : (t : Bool) → IsLiteral n (if t then true_literal else false_literal)
    by_test true = literal_more 1 n true_literal some true_is
    by_test false = literal_more 1 n false_literal some false_is

low_known : (values : ℕ → Bool) → values 1 ≡ true → (k : ℕ) →
    truth (literal_true values (low_literal k)) ≡ k % 2
low_known values e k = by_rest (k % 2) refl
  where
    by_rest : (r : ℕ) → k % 2 ≡ r → truth (literal_true values (low_literal k)) ≡ k % 2
    by_rest zero f =
        ap (λ r. truth (literal_true values (if r == 1 then true_literal else false_literal))) f
        ∙ ap truth (false_known values e) ∙ sym f
    by_rest (suc zero) f =
        ap (λ r. truth (literal_true values (if r == 1 then true_literal else false_literal))) f
        ∙ ap truth (true_known values e) ∙ sym f
    by_rest (suc (suc r)) f = absurd (omega (arith, f))

pub number_is : (n width k : ℕ) → 1 ≤ n → IsWord n (number_word width k)
number_is n zero k some = tt
number_is n (suc width) k some = (low_is n k some, number_is n width (k / 2) some)

pub number_value : (values : ℕ → Bool) → values 1 ≡ true → (width k : ℕ) → k < 2 ^ width →
    word_value values (number_word width k) ≡ k
number_value values e zero k low = omega (arith, low)
number_value values e (suc width) k low =
    let rest = number_value values e width (k / 2) (omega (arith, low, pow-suc 2 width)) in
    omega (arith, rest, low_known values e k)

-- ---- other lengths

filled_is : (n : ℕ) (fill : ℤ) (width : ℕ) (word : Word) → IsLiteral n fill → IsWord n word →
    IsWord n (filled_word fill width word)
filled_is n fill width word is_fill is =
    take_is n width (word ++ replicate width fill)
    (joined_is n word (replicate width fill) is (fills_are n fill width is_fill))

pub zero_filled_is : (n width : ℕ) (word : Word) → 1 ≤ n → IsWord n word →
    IsWord n (zero_filled width word)
zero_filled_is n width word some is =
    filled_is n false_literal width word (literal_more 1 n false_literal some false_is) is

zeros_value : (values : ℕ → Bool) → values 1 ≡ true → (k : ℕ) →
    word_value values (replicate k false_literal) ≡ 0
zeros_value values e zero = refl
zeros_value values e (suc k) =
    omega (arith, zeros_value values e k, ap truth (false_known values e))

pub zero_filled_value : (values : ℕ → Bool) → values 1 ≡ true → (width : ℕ) (word : Word) →
    word_value values (zero_filled width word) ≡ word_value values word % 2 ^ width
zero_filled_value values e width word =
    let zs = replicate width false_literal in
    let none : word_value values word + 2 ^ length word * word_value values zs
    ≡ word_value values word =
    ap (λ z. word_value values word + 2 ^ length word * z) (zeros_value values e width)
    ∙ omega arith in
    taken_value values width (word ++ zs)
    ∙ ap (λ n. n % 2 ^ width) (both_value values word zs ∙ none)

pub extended_is : (n : ℕ) (signed : Bool) (width : ℕ) (word : Word) → 1 ≤ n → IsWord n word →
    IsWord n (extended_word signed width word)
extended_is n signed width word some is =
    filled_is n (sign_fill signed word) width word (fill_is n signed word some is) is

ones_value : (values : ℕ → Bool) (l : ℤ) → literal_true values l ≡ true → (k : ℕ) →
    word_value values (replicate k l) + 1 ≡ 2 ^ k
ones_value values l e zero = omega arith
ones_value values l e (suc k) =
    omega (arith, ones_value values l e k, ap truth e, pow-suc 2 k)

falses_value : (values : ℕ → Bool) (l : ℤ) → literal_true values l ≡ false → (k : ℕ) →
    word_value values (replicate k l) ≡ 0
falses_value values l e zero = refl
falses_value values l e (suc k) = omega (arith, falses_value values l e k, ap truth e)

-- the value at a greater length
pub extended_value : (values : ℕ → Bool) → values 1 ≡ true → (signed : Bool) (width : ℕ)
    (word : Word) → 1 ≤ length word → length word ≤ width →
    word_value values (extended_word signed width word)
    ≡ extended signed (length word) width (word_value values word)
extended_value values e false width word some wider =
    zero_filled_value values e width word
    ∙ mod-eq_of_lt (below values width word wider)
    ∙ sym (wider_above (length word) width (word_value values word) wider (word_low values word))
  where
    below : (values : ℕ → Bool) (width : ℕ) (word : Word) → length word ≤ width →
        word_value values word < 2 ^ width
    below values width word wider =
        let more : 2 ^ length word ≤ 2 ^ width = pow_mono wider in
        omega (arith, more, word_low values word)
extended_value values e true width word some wider =
    by_top (leb (2 ^ (length word - 1)) (word_value values word)) refl
  where
    top : literal_true values (sign_fill true word)
        ≡ leb (2 ^ (length word - 1)) (word_value values word)
    top =
        let bits = bits_of values word in
        fill_known values e true word
        ∙ top_number bits (subst (λ k. 1 ≤ k) (sym (bits_length values word)) some)
        ∙ ap₂ (λ k v. leb (2 ^ (k - 1)) v) (bits_length values word)
        (sym (word_number values word))

    whole : word_value values (extended_word true width word)
        ≡ (word_value values word + 2 ^ length word
        * word_value values (replicate width (sign_fill true word))) % 2 ^ width
    whole =
        taken_value values width (word ++ replicate width (sign_fill true word))
        ∙ ap (λ n. n % 2 ^ width) (both_value values word (replicate width (sign_fill true word)))

    split : (p w v ones : ℕ) → 0 < p → p ≤ w → v < p → p * (ones + 1) ≡ p * w →
        v + p * ones ≡ (w - 1 - (p - 1 - v)) + (p - 1) * w
    split p w v ones some more low times =
        let gap : p ≡ suc (p - 1) = omega (arith, some) in
        let spread : p * w ≡ suc (p - 1) * w = ap (λ k. k * w) gap in
        omega (arith, times, spread, some, more, low)

    by_top : (t : Bool) → leb (2 ^ (length word - 1)) (word_value values word) ≡ t →
        word_value values (extended_word true width word)
        ≡ extended true (length word) width (word_value values word)
    by_top false f =
        let n = length word in
        let v = word_value values word in
        let more : 2 ^ n ≤ 2 ^ width = pow_mono wider in
        let none : v + 2 ^ n * word_value values (replicate width (sign_fill true word)) ≡ v =
        ap (λ z. v + 2 ^ n * z) (falses_value values (sign_fill true word) (top ∙ f) width)
        ∙ omega arith in
        whole ∙ ap (λ k. k % 2 ^ width) none
        ∙ mod-eq_of_lt (omega (arith, more, word_low values word))
        ∙ sym (ap (λ s. reduced width (number_at (length word) s (word_value values word))) f ∙ wider_above n width v wider (word_low values word))
    by_top true f =
        let n = length word in
        let v = word_value values word in
        let ones = word_value values (replicate width (sign_fill true word)) in
        let more : 2 ^ n ≤ 2 ^ width = pow_mono wider in
        let all : ones + 1 ≡ 2 ^ width = ones_value values (sign_fill true word) (top ∙ f) width in
        let times : 2 ^ n * (ones + 1) ≡ 2 ^ n * 2 ^ width = ap (λ k. 2 ^ n * k) all in
        let some_n : 0 < 2 ^ n = pow_pos n in
        let value : v + 2 ^ n * ones ≡ (2 ^ width - 1 - (2 ^ n - 1 - v)) + (2 ^ n - 1) * 2 ^ width =
        split (2 ^ n) (2 ^ width) v ones some_n more (word_low values word) times in
        whole ∙ ap (λ k. k % 2 ^ width) value
        ∙ add-mul-mod_self_right (2 ^ width - 1 - (2 ^ n - 1 - v)) (2 ^ n - 1) (2 ^ width)
        ∙ mod-eq_of_lt (omega (arith, more, word_low values word))
        ∙ sym (ap (λ s. reduced width (number_at (length word) s (word_value values word))) f ∙ wider_below n width v wider (word_low values word))
