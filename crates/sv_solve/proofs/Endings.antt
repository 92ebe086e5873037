-- How the solver ends: with values, with a refutation, or with a spent log.
use Rattle.std.proofs.Common.{◌≡◌, ℕ, ◌+◌, ◌^◌, ◌<◌, ◌≤◌, Bool, ℤ, List, [], ◌∷◌, length, refl, sym}
use Rattle.std.proofs.Common.{subst, min, arith}
use Rattle.std.specs.Prelude.{All, Result, Ok, Err, IfOk}
use Rattle.std.proofs.Math.Nat.{pow-le-pow_right}
use Rattle.sv_clause.specs.Literals.{Satisfies}
use Rattle.sv_clause.specs.Logs.{plain_log, clauses_of}
use Rattle.sv_clause.specs.Units.{IsSpentLog}
use Rattle.sv_solve.specs.Lists.{Assigned, AllAssigned}
use Rattle.sv_solve.specs.Search.{IsClauseOf}
use Rattle.sv_solve.specs.Known.{Known, clauses_known}
use Rattle.sv_solve.specs.Answers.{value_of, IsAnswer}
use Rattle.sv_solve.specs.Values.{AreValues}
use Rattle.sv_solve.specs.Outcomes.{IsFound, IsSpending}
use Rattle.sv_solve.specs.declared.solver.Solved.{Solved}
use Rattle.sv_solve.specs.declared.solver.Solved.TheVariants.{Found, Refuted, Spent}
use Rattle.sv_solve.proofs.Knowing.{found_answer}

-- no number is below none
pub none_below : (xs : List ℕ) → All (λ x. x < 0) xs → xs ≡ []
none_below [] all = refl
none_below (x ∷ xs) all = let low : x < 0 = all 0 0 (omega arith) in absurd (omega arith)

-- values under a trail that was found
pub found_ending : (variables : ℕ) (clauses : List (List ℤ)) (known : Known) (trail : Assigned)
    (values : List Bool) → known.given ≡ clauses → known.variables ≡ min variables 2147483647
    → IsFound known trail → AreValues variables trail values
    → (length values ≡ variables) × Satisfies (value_of values) clauses
found_ending variables clauses known trail values given most found are =
    let same : trail.variables ≡ known.variables = found.variables in
    let answer = found_answer variables known.given (clauses_known known) (clauses_of known.steps)
    trail values refl are (omega arith) found.rest
    (subst (λ v. AllAssigned v trail.literals) (sym same) found.assigned)
    (subst (λ v. All (IsClauseOf v) (clauses_known known)) (sym same) found.of) in
    subst (λ z. (length values ≡ variables) × Satisfies (value_of values) z) given answer

spending : (variables budget : ℕ) (known : Known) (answer : Solved) → known.variables ≤ variables →
    length known.steps ≡ budget → IsSpending known answer →
    IsAnswer variables known.given budget answer
spending variables budget known (Found values) most count never = absurd never
spending variables budget known (Refuted log) most count refutation =
    let size : length (plain_log log) ≡ length known.steps + 1 = refutation.size in
    (refutation.refutes, refutation.last, omega arith)
spending variables budget known (Spent log) most count spent =
    let few : length known.steps < 3 ^ known.variables = spent.2 in
    let wider : 3 ^ known.variables ≤ 3 ^ variables = pow-le-pow_right (omega arith) most in
    (subst (IsSpentLog known.given (plain_log log)) count spent.0, spent.1, omega arith)

-- what is answered once the budget is spent
pub spent_ending : {E : Type 0} (variables budget : ℕ) (clauses : List (List ℤ)) (known : Known)
    (result : Result Solved E) → known.given ≡ clauses → known.variables ≡ min variables 2147483647
    → length known.steps ≡ budget → IfOk result (IsSpending known)
    → IfOk result (IsAnswer variables clauses budget)
spent_ending variables budget clauses known (Ok answer) given most count h =
    subst (λ z. IsAnswer variables z budget answer) given
    (spending variables budget known answer (omega arith) count h)
spent_ending variables budget clauses known (Err e) given most count h = tt
