-- The clause that is learned.
use Rattle.std.proofs.Common.{◌≡◌, ℕ, ◌<◌, ◌≤◌, ◌^◌, true, ℤ, neg_ℤ, unsigned_abs, List, sym, ap}
use Rattle.std.proofs.Common.{◌∙◌, subst, ⊎_elim, arith}
use Rattle.std.proofs.lemmas.Bool.{false≢true}
use Rattle.sv_clause.specs.Literals.{stands, SameLiterals, IsClause, MakeNoClause}
use Rattle.sv_clause.proofs.Merging.{neg-neg}
use Rattle.sv_solve.specs.Codes.{IsOf}
use Rattle.sv_solve.specs.Search.{AllFalse, IsConsistent, IsClauseOf}
use Rattle.sv_solve.proofs.Clauses.{of_neg}

-- a false literal is of a variable
false_of : (variables : ℕ) (learned trail : List ℤ) →
    ((l : ℤ) → stands l trail ≡ true → IsOf variables l) → AllFalse trail learned → (l : ℤ) →
    stands l learned ≡ true → IsOf variables l
false_of variables learned trail of all l e =
    subst (IsOf variables) (neg-neg l) (of_neg variables (neg_ℤ l) (of (neg_ℤ l) (all l e)))

pub learned_makes : (variables : ℕ) (learned trail : List ℤ) → variables < 2 ^ 31 →
    IsConsistent trail → ((l : ℤ) → stands l trail ≡ true → IsOf variables l) →
    AllFalse trail learned → MakeNoClause learned → ⊥
learned_makes variables learned trail small consistent of all (l, e, why) =
    let o = false_of variables learned trail of all l e in
    let low : 0 < unsigned_abs l = o.0 in
    let high : unsigned_abs l ≤ variables = o.1 in
    ⊎_elim
    (λ none. let zero_is : unsigned_abs l ≡ 0 = ap unsigned_abs none in absurd (omega arith))
    (λ more. ⊎_elim
    (λ least. absurd (omega arith))
    (λ both. false≢true (sym (consistent (neg_ℤ l) (all l e)) ∙ all (neg_ℤ l) both))
    more)
    why

pub learned_clause_of : (variables : ℕ) (clause learned trail : List ℤ) → IsClause clause →
    SameLiterals clause learned → ((l : ℤ) → stands l trail ≡ true → IsOf variables l) →
    AllFalse trail learned → IsClauseOf variables clause
learned_clause_of variables clause learned trail normal same of all =
    record {
      normal = normal;
      within = λ l e. (false_of variables learned trail of all l (sym (same l) ∙ e)).1;
    }
