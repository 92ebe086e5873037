-- Words and lines: where the first separator stands, and what is spelled with it.
use Rattle.std.proofs.Common.{◌≡◌, ℕ, suc, ◌<◌, ◌≤◌, ◌^◌, ℤ, pos, negsuc, unsigned_abs, List, []}
use Rattle.std.proofs.Common.{◌∷◌, ◌++◌, refl, sym, ap, ◌∙◌, subst, get_or, codes, decimal, arith}
use Rattle.std.specs.Fmt.{signed_decimal}
use Rattle.std.specs.Str.Parse.{AllDigits, digits_value}
use Rattle.std.specs.Char.{digit_value}
use Rattle.std.proofs.lemmas.Str.Parse.{IsNumeralModel, numerals_by_value, tells_digits}
use Rattle.std.proofs.lemmas.Fmt.{digits_decimal, decimal_digit, decimal_injective}
use Rattle.std.proofs.lemmas.Bool.Decides.{nat_tests}
use Rattle.sv_proof.specs.Lines.{Lacks}

-- where both fronts lack the separator, what stands before the first one is the same, and so is
-- what follows
pub same_split : (s : ℕ) (xs ys us vs : List ℕ) → Lacks s xs → Lacks s ys →
    xs ++ s ∷ us ≡ ys ++ s ∷ vs → (xs ≡ ys) × (us ≡ vs)
same_split s [] [] us vs lx ly e = let same : us ≡ vs = cc in (refl, same)
same_split s [] (y ∷ ys) us vs lx ly e = let same : y ≡ s = cc in absurd (ly.0 same)
same_split s (x ∷ xs) [] us vs lx ly e = let same : x ≡ s = cc in absurd (lx.0 same)
same_split s (x ∷ xs) (y ∷ ys) us vs lx ly e =
    let head : x ≡ y = cc in
    let tail : xs ++ s ∷ us ≡ ys ++ s ∷ vs = cc in
    let rest = same_split s xs ys us vs lx.1 ly.1 tail in
    (ap (λ z. z ∷ xs) head ∙ ap (λ z. y ∷ z) rest.0, rest.1)

-- what lacks a separator has none inside
pub lacks_split : (s : ℕ) (xs us whole : List ℕ) → Lacks s whole → whole ≡ xs ++ s ∷ us → ⊥
lacks_split s [] us [] l e = cc
lacks_split s [] us (w ∷ ws) l e = let same : w ≡ s = cc in l.0 same
lacks_split s (x ∷ xs) us [] l e = cc
lacks_split s (x ∷ xs) us (w ∷ ws) l e =
    let tail : ws ≡ xs ++ s ∷ us = cc in lacks_split s xs us ws l.1 tail

pub Lacks-append : (s : ℕ) (xs ys : List ℕ) → Lacks s xs → Lacks s ys → Lacks s (xs ++ ys)
Lacks-append s [] ys lx ly = ly
Lacks-append s (x ∷ xs) ys lx ly = (lx.0, Lacks-append s xs ys lx.1 ly)

digit_above : (c : ℕ) → digit_value c < 10 → 48 ≤ c
digit_above c h = grind (arith, nat_tests)

lacks_digits : (s : ℕ) (ds : List ℕ) → s < 48 → AllDigits 10 ds → Lacks s ds
lacks_digits s [] h d = tt
lacks_digits s (c ∷ cs) h d = (
  (λ same. let low : 48 ≤ c = digit_above c d.0 in
      absurd (omega arith)),
  lacks_digits s cs h d.1,
)

own : IsNumeralModel (AllDigits 10) (digits_value 10)
own = numerals_by_value (AllDigits 10) tells_digits

pub lacks_decimal : (s n : ℕ) → s < 48 → n < 2 ^ 64 → Lacks s (decimal n)
lacks_decimal s n h small = lacks_digits s (decimal n) h (digits_decimal own n small)

pub lacks_signed : (s : ℕ) (l : ℤ) → s < 45 → unsigned_abs l < 2 ^ 31 → Lacks s (signed_decimal l)
lacks_signed s (pos n) h small = lacks_decimal s n (omega arith) (omega arith)
lacks_signed s (negsuc n) h small =
    ((λ same. absurd (omega arith)), lacks_decimal s (suc n) (omega arith) (omega arith))

pub decimal_zero : decimal 0 ≡ codes "0"
decimal_zero = decimal_digit 0 (omega arith)

-- a literal that is written as 0 is 0
pub zero_is : (l : ℤ) → unsigned_abs l < 2 ^ 31 → signed_decimal l ≡ codes "0" → l ≡ pos 0
zero_is (pos n) small e =
    ap pos (decimal_injective n 0 (omega arith) (omega arith) (e ∙ sym decimal_zero))
zero_is (negsuc n) small e =
    let first : ◌≡◌ {A = ℕ} 45 48 = ap (λ z. get_or z 0 0) e in absurd (omega arith)

pub same_literal : (x y : ℤ) → unsigned_abs x < 2 ^ 31 → unsigned_abs y < 2 ^ 31 →
    signed_decimal x ≡ signed_decimal y → x ≡ y
same_literal (pos m) (pos n) sx sy e = ap pos (decimal_injective m n (omega arith) (omega arith) e)
same_literal (pos m) (negsuc n) sx sy e = absurd (signed_apart m (decimal (suc n)) (omega arith) e)
  where
    signed_apart : (k : ℕ) (rest : List ℕ) → k < 2 ^ 64 → decimal k ≡ 45 ∷ rest → ⊥
    signed_apart k rest small f =
        (subst (Lacks 45) f (lacks_decimal 45 k (omega arith) small)).0 refl
same_literal (negsuc m) (pos n) sx sy e =
    absurd ((subst (Lacks 45) (sym e) (lacks_decimal 45 n (omega arith) (omega arith))).0 refl)
same_literal (negsuc m) (negsuc n) sx sy e =
    let digits : decimal (suc m) ≡ decimal (suc n) = cc in
    let same : suc m ≡ suc n =
    decimal_injective (suc m) (suc n) (omega arith) (omega arith) digits in
    let less : m ≡ n = omega arith in ap negsuc less
