-- Laws of the numbers of literals.
use Rattle.std.proofs.Common.{◌≡◌, ℕ, suc, ◌+◌, ◌*◌, ◌<◌, ◌≤◌, ℤ, pos, negsuc, ap, arith}
use Rattle.sv_solve.specs.Codes.{code_of, IsOf}

pub code-below : (variables : ℕ) (l : ℤ) → IsOf variables l → code_of l < 2 * variables + 2
unfolding code_of
code-below variables (pos n) h = let small : n ≤ variables = h.1 in omega arith
code-below variables (negsuc n) h = let small : suc n ≤ variables = h.1 in omega arith

pub code-inj : (a b : ℤ) → code_of a ≡ code_of b → a ≡ b
unfolding code_of
code-inj (pos m) (pos n) e = let same : m ≡ n = omega arith in ap pos same
code-inj (pos m) (negsuc n) e = absurd (omega arith)
code-inj (negsuc m) (pos n) e = absurd (omega arith)
code-inj (negsuc m) (negsuc n) e = let same : m ≡ n = omega arith in ap negsuc same
