-- Private: how the code goes. Literals as numbers that index tables.
use Rattle.std.specs.Prelude.{◌≡◌, ℕ, zero, suc, ◌+◌, ◌*◌, ◌/◌, ◌%◌, ◌<◌, ◌≤◌, nat_eq, ℤ, pos}
use Rattle.std.specs.Prelude.{negsuc, neg_ℤ, unsigned_abs, if◌then◌else◌}
use Rattle.std.proofs.Common.{ap, ◌∙◌, ⊎_elim, arith}
use Rattle.std.proofs.lemmas.Bool.{cases_Bool, cond-true, cond-false, eqb-true, eqb-false}

-- the number of a literal: twice its variable, and one more where it is negated
unfoldable pub code_of : ℤ → ℕ
code_of (pos n) = 2 * n
code_of (negsuc n) = 2 * n + 3

-- the literal of a number
abbrev pub literal_of : ℕ → ℤ
literal_of code = if nat_eq (code % 2) 0 then pos (code / 2) else neg_ℤ (pos (code / 2))

-- the literal is of a variable from 1 to this one
abbrev pub IsOf : ℕ → ℤ → Type 0
IsOf variables literal = (0 < unsigned_abs literal) × (unsigned_abs literal ≤ variables)

code-neg_pos : (n : ℕ) → 0 < n → code_of (neg_ℤ (pos n)) ≡ 2 * n + 1
unfolding code_of
code-neg_pos zero h = absurd (omega arith)
code-neg_pos (suc n) h = omega arith

-- the number of the literal of a number from 2 is that number
pub code-literal : (c : ℕ) → 2 ≤ c → code_of (literal_of c) ≡ c
unfolding code_of
code-literal c h =
    ⊎_elim
    (λ even. let e : c % 2 ≡ 0 = eqb-true (c % 2) 0 even in
    ap code_of (cond-true (nat_eq (c % 2) 0) (pos (c / 2)) (neg_ℤ (pos (c / 2))) even)
    ∙ omega arith)
    (λ odd. let e : (c % 2 ≡ 0 → ⊥) = eqb-false (c % 2) 0 odd in
    ap code_of (cond-false (nat_eq (c % 2) 0) (pos (c / 2)) (neg_ℤ (pos (c / 2))) odd)
    ∙ (code-neg_pos (c / 2) (omega arith) ∙ omega arith))
    (cases_Bool (nat_eq (c % 2) 0))
