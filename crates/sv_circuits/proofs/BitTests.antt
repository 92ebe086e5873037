-- What tests of bits say of the numbers that they stand for.
use Rattle.std.proofs.Common.{◌≡◌, ℕ, zero, suc, ◌+◌, ◌-◌, ◌*◌, ◌/◌, ◌%◌, ◌^◌, ◌<◌, Bool, true}
use Rattle.std.proofs.Common.{false, not, ◌&&◌, ◌||◌, ◌==◌, nat_lt, List, [], ◌∷◌, fold}
use Rattle.std.proofs.Common.{length, refl, sym, ap, ◌∙◌, arith, if◌then◌else◌, ltb-true}
use Rattle.std.proofs.Math.Nat.{pow-suc}
use Rattle.std.proofs.lemmas.Nat.{pow_pos}
use Rattle.std.proofs.lemmas.Bool.{lt-ltb, eqb-true, eq-eqb, ne_eqb}
use Rattle.sv_num.specs.Vectors.{truth, is_true}
use Rattle.sv_circuits.proofs.BitPieces.{joined_bits}
use Rattle.sv_circuits.proofs.Comparisons.{same, equal_bits, less_bits}
use Rattle.sv_circuits.proofs.Picks.{agreeing, is_number_bits}
use Rattle.sv_circuits.proofs.OperatorBits.{all_bits, some_bit}
use Rattle.sv_circuits.proofs.BitNumbers.{number, truth_low}

-- ---- tests that tell the same

pub alike : (a b : Bool) → (a ≡ true → b ≡ true) → (b ≡ true → a ≡ true) → a ≡ b
alike true b there back = sym (there refl)
alike false true there back = back refl
alike false false there back = refl

-- two tests of numbers that hold of the same numbers
pub same_order : (m n p q : ℕ) → (m < n → p < q) → (p < q → m < n) → nat_lt m n ≡ nat_lt p q
same_order m n p q there back = alike (nat_lt m n) (nat_lt p q)
    (λ e. lt-ltb p q (there (ltb-true m n e))) (λ e. lt-ltb m n (back (ltb-true p q e)))

pub same_equal : (m n p q : ℕ) → (m ≡ n → p ≡ q) → (p ≡ q → m ≡ n) → (m == n) ≡ (p == q)
same_equal m n p q there back = alike (m == n) (p == q)
    (λ e. eq-eqb p q (there (eqb-true m n e))) (λ e. eq-eqb m n (back (eqb-true p q e)))

-- ---- chains

abbrev pub every : List Bool → Bool
every [] = true
every (b ∷ bs) = b && every bs

abbrev pub exists : List Bool → Bool
exists [] = false
exists (b ∷ bs) = b || exists bs

and_true : (b : Bool) → (b && true) ≡ b
and_true true = refl
and_true false = refl

or_false : (b : Bool) → (b || false) ≡ b
or_false true = refl
or_false false = refl

and_assoc : (a b c : Bool) → ((a && b) && c) ≡ (a && (b && c))
and_assoc true b c = refl
and_assoc false b c = refl

or_assoc : (a b c : Bool) → ((a || b) || c) ≡ (a || (b || c))
or_assoc true b c = refl
or_assoc false b c = refl

fold_and : (x : Bool) (xs : List Bool) → fold ◌&&◌ x xs ≡ (x && every xs)
fold_and x [] = sym (and_true x)
fold_and x (y ∷ xs) = fold_and (x && y) xs ∙ and_assoc x y (every xs)

fold_or : (x : Bool) (xs : List Bool) → fold ◌||◌ x xs ≡ (x || exists xs)
fold_or x [] = sym (or_false x)
fold_or x (y ∷ xs) = fold_or (x || y) xs ∙ or_assoc x y (exists xs)

pub all_is : (bs : List Bool) → all_bits bs ≡ every bs
all_is [] = refl
all_is (b ∷ bs) = fold_and b bs

pub some_is : (bs : List Bool) → some_bit bs ≡ exists bs
some_is [] = refl
some_is (b ∷ bs) = fold_or b bs

-- ---- all, some and an odd number of bits

pub every_number : (bs : List Bool) → every bs ≡ (number bs == 2 ^ length bs - 1)
every_number [] = refl
every_number (true ∷ bs) =
    every_number bs
    ∙ same_equal (number bs) (2 ^ length bs - 1) (number (true ∷ bs)) (2 ^ suc (length bs) - 1)
    (λ e. omega (arith, e, pow-suc 2 (length bs), pow_pos (length bs)))
    (λ e. omega (arith, e, pow-suc 2 (length bs), pow_pos (length bs)))
every_number (false ∷ bs) =
    sym (ne_eqb (number (false ∷ bs)) (2 ^ suc (length bs) - 1)
    (λ e. absurd (omega (arith, e, pow-suc 2 (length bs), pow_pos (length bs)))))

pub exists_number : (bs : List Bool) → exists bs ≡ is_true (number bs)
exists_number [] = refl
exists_number (true ∷ bs) =
    ap not (sym (ne_eqb (number (true ∷ bs)) 0 (λ e. absurd (omega (arith, e)))))
exists_number (false ∷ bs) =
    exists_number bs
    ∙ ap not (same_equal (number bs) 0 (number (false ∷ bs)) 0 (λ e. omega (arith, e))
    (λ e. omega (arith, e)))

pub all_number : (bs : List Bool) → all_bits bs ≡ (number bs == 2 ^ length bs - 1)
all_number bs = all_is bs ∙ every_number bs

pub some_number : (bs : List Bool) → some_bit bs ≡ is_true (number bs)
some_number bs = some_is bs ∙ exists_number bs

-- ---- equality

pub equal_number : (a b : List Bool) → length a ≡ length b →
    equal_bits a b ≡ (number a == number b)
equal_number a b e = all_is (joined_bits same a b) ∙ by_bits a b e
  where
    by_bits : (a b : List Bool) → length a ≡ length b →
        every (joined_bits same a b) ≡ (number a == number b)
    by_bits [] [] e = refl
    by_bits [] (y ∷ b) e = absurd (omega (arith, e))
    by_bits (x ∷ a) [] e = absurd (omega (arith, e))
    by_bits (true ∷ a) (true ∷ b) e =
        by_bits a b (omega (arith, e))
        ∙ same_equal (number a) (number b) (number (true ∷ a)) (number (true ∷ b))
        (λ e. omega (arith, e)) (λ e. omega (arith, e))
    by_bits (false ∷ a) (false ∷ b) e =
        by_bits a b (omega (arith, e))
        ∙ same_equal (number a) (number b) (number (false ∷ a)) (number (false ∷ b))
        (λ e. omega (arith, e)) (λ e. omega (arith, e))
    by_bits (true ∷ a) (false ∷ b) e =
        sym (ne_eqb (number (true ∷ a)) (number (false ∷ b)) (λ e. absurd (omega (arith, e))))
    by_bits (false ∷ a) (true ∷ b) e =
        sym (ne_eqb (number (false ∷ a)) (number (true ∷ b)) (λ e. absurd (omega (arith, e))))

-- the bits are those of the number
pub is_number_tells : (bs : List Bool) (n : ℕ) → n < 2 ^ length bs →
    is_number_bits bs n ≡ (number bs == n)
is_number_tells bs n low = all_is (agreeing bs n) ∙ by_bits bs n low
  where
    by_bit : (b : Bool) (bs : List Bool) (n : ℕ) → n / 2 < 2 ^ length bs →
        every (agreeing bs (n / 2)) ≡ (number bs == n / 2) → (d : ℕ) → n % 2 ≡ d →
        ((if n % 2 == 1 then b else not b) && every (agreeing bs (n / 2)))
        ≡ (truth b + 2 * number bs == n)
    by_bit true bs n low rest (suc zero) e =
        ap (λ d. (if d == 1 then true else false) && every (agreeing bs (n / 2))) e
        ∙ rest ∙ same_equal (number bs) (n / 2) (number (true ∷ bs)) n (λ f. omega (arith, e, f))
        (λ f. omega (arith, e, f))
    by_bit false bs n low rest (suc zero) e =
        ap (λ d. (if d == 1 then false else true) && every (agreeing bs (n / 2))) e
        ∙ sym (ne_eqb (number (false ∷ bs)) n (λ f. absurd (omega (arith, e, f))))
    by_bit true bs n low rest zero e =
        ap (λ d. (if d == 1 then true else false) && every (agreeing bs (n / 2))) e
        ∙ sym (ne_eqb (number (true ∷ bs)) n (λ f. absurd (omega (arith, e, f))))
    by_bit false bs n low rest zero e =
        ap (λ d. (if d == 1 then false else true) && every (agreeing bs (n / 2))) e
        ∙ rest ∙ same_equal (number bs) (n / 2) (number (false ∷ bs)) n (λ f. omega (arith, e, f))
        (λ f. omega (arith, e, f))
    by_bit b bs n low rest (suc (suc d)) e = absurd (omega (arith, e))

    by_bits : (bs : List Bool) (n : ℕ) → n < 2 ^ length bs →
        every (agreeing bs n) ≡ (number bs == n)
    by_bits [] n low = sym (eq-eqb 0 n (omega (arith, low)))
    by_bits (b ∷ bs) n low =
        let half : n / 2 < 2 ^ length bs = omega (arith, low, pow-suc 2 (length bs)) in
        by_bit b bs n half (by_bits bs (n / 2) half) (n % 2) refl

-- ---- order

-- less, where the bits below are or are not
pub less_number : (a b : List Bool) (l : Bool) → length a ≡ length b →
    less_bits a b l ≡ nat_lt (number a) (number b + truth l)
less_number [] [] true e = refl
less_number [] [] false e = refl
less_number [] (y ∷ b) l e = absurd (omega (arith, e))
less_number (x ∷ a) [] l e = absurd (omega (arith, e))
less_number (true ∷ a) (true ∷ b) l e =
    less_number a b l (omega (arith, e))
    ∙ same_order (number a) (number b + truth l) (number (true ∷ a)) (number (true ∷ b) + truth l)
    (λ h. omega (arith, h, truth_low l)) (λ h. omega (arith, h, truth_low l))
less_number (false ∷ a) (false ∷ b) l e =
    less_number a b l (omega (arith, e))
    ∙ same_order (number a) (number b + truth l) (number (false ∷ a)) (number (false ∷ b) + truth l)
    (λ h. omega (arith, h, truth_low l)) (λ h. omega (arith, h, truth_low l))
less_number (true ∷ a) (false ∷ b) l e =
    less_number a b false (omega (arith, e))
    ∙ same_order (number a) (number b + 0) (number (true ∷ a)) (number (false ∷ b) + truth l)
    (λ h. omega (arith, h, truth_low l)) (λ h. omega (arith, h, truth_low l))
less_number (false ∷ a) (true ∷ b) l e =
    less_number a b true (omega (arith, e))
    ∙ same_order (number a) (number b + 1) (number (false ∷ a)) (number (true ∷ b) + truth l)
    (λ h. omega (arith, h, truth_low l)) (λ h. omega (arith, h, truth_low l))
