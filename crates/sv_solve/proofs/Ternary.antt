-- Numbers by their digits in base 3.
use Rattle.std.proofs.Common.{◌≡◌, ℕ, zero, suc, ◌+◌, ◌*◌, ◌<◌, ◌≤◌, ◌^◌, refl, sym, ap, ◌∙◌}
use Rattle.std.proofs.Common.{⊎_elim, arith}
use Rattle.std.proofs.Math.Nat.{pow-suc, mul-le-mul_left}
use Rattle.std.proofs.lemmas.Bool.{cases_order}

-- digits, one for each variable
abbrev pub AreTernary : (ℕ → ℕ) → Type 0
AreTernary digit = (v : ℕ) → digit v ≤ 2

-- the digits of the variables up to one, as a number
pub number : (ℕ → ℕ) → ℕ → ℕ
number digit zero = 0
number digit (suc n) = number digit n + 3 ^ n * digit (suc n)

pub number-below : (digit : ℕ → ℕ) (n : ℕ) → AreTernary digit → number digit n < 3 ^ n
unfolding number
number-below digit zero small = omega arith
number-below digit (suc n) small =
    let below : number digit n < 3 ^ n = number-below digit n small in
    let top : 3 ^ n * digit (suc n) ≤ 3 ^ n * 2 = mul-le-mul_left (3 ^ n) (small (suc n)) in
    let size : 3 ^ suc n ≡ 3 ^ n * 3 = pow-suc 3 n in
    omega arith

lower_top : (a b x y p : ℕ) → a < p → x < y → a + p * x ≡ b + p * y → ⊥
lower_top a b x y p h lt e =
    let step : x + 1 ≤ y = omega arith in
    let more : p * (x + 1) ≤ p * y = mul-le-mul_left p step in
    absurd (omega arith)

same_top : (a b x y p : ℕ) → a < p → b < p → a + p * x ≡ b + p * y → (a ≡ b) × (x ≡ y)
same_top a b x y p ha hb e =
    let top : x ≡ y = ⊎_elim (λ same. same) (λ other.
    ⊎_elim (λ lt. absurd (lower_top a b x y p ha lt e)) (λ gt.
    absurd (lower_top b a y x p hb gt (sym e))) other) (cases_order x y) in
    (let e' : a + p * y ≡ b + p * y = ap (λ z. a + p * z) (sym top) ∙ e in omega arith, top)

-- digits are known by their number
pub same_digits : (first second : ℕ → ℕ) (n : ℕ) → AreTernary first → AreTernary second
    → number first n ≡ number second n → (v : ℕ) → 0 < v → v ≤ n → first v ≡ second v
unfolding number
same_digits first second zero small small' e v low high = absurd (omega arith)
same_digits first second (suc n) small small' e v low high =
    let parts = same_top (number first n) (number second n) (first (suc n)) (second (suc n)) (3 ^ n)
    (number-below first n small) (number-below second n small') e in
    ⊎_elim
    (λ same. ap first same ∙ parts.1 ∙ ap second (sym same))
    (λ other. ⊎_elim (λ lt.
    same_digits first second n small small' parts.0 v low (omega arith)) (λ gt.
    absurd (omega arith)) other)
    (cases_order v (suc n))

zeros : (n : ℕ) → number (λ v. 0) n ≡ 0
unfolding number
zeros zero = refl
zeros (suc n) = let lower = zeros n in omega arith

-- the digits of 0 are all 0
pub zero_digits : (digit : ℕ → ℕ) (n : ℕ) → AreTernary digit → number digit n ≡ 0
    → (v : ℕ) → 0 < v → v ≤ n → digit v ≡ 0
zero_digits digit n small e =
    same_digits digit (λ v. 0) n small (λ v. omega arith) (e ∙ sym (zeros n))
