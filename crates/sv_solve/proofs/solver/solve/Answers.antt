use Rattle.std.proofs.Common.{◌^◌, ◌<◌, ◌≤◌, arith, ℕ, ℤ, List}
use Rattle.std.specs.Prelude.{Result, Ok, Err, IfOk}
use Rattle.sv_clause.specs.Logs.{plain_log, clauses_of}
use Rattle.sv_clause.specs.Units.{IsUnitConflict}
use Rattle.sv_solve.specs.Answers.{IsAnswer, IsNotSpent}
use Rattle.sv_solve.specs.declared.solver.Solved.{Solved}
use Rattle.sv_solve.specs.declared.solver.Solved.TheVariants.{Found, Refuted, Spent}
use Rattle.sv_solve.proofs.Knowing.{conflict_more}
use Rattle.sv_solve.proofs.solver.solve.Goals as goal

never_spent : (variables budget : ℕ) (clauses : List (List ℤ)) (literals : List ℤ)
    (answer : Solved) → IsUnitConflict clauses literals → IsAnswer variables clauses budget answer →
    IsNotSpent answer
never_spent variables budget clauses literals (Found values) conflict h = tt
never_spent variables budget clauses literals (Refuted log) conflict h = tt
never_spent variables budget clauses literals (Spent log) conflict h =
    h.0.no_conflict literals (conflict_more clauses (clauses_of (plain_log log)) literals conflict)

never_large : (variables budget : ℕ) (clauses : List (List ℤ)) (answer : Solved) →
    3 ^ variables ≤ budget → IsAnswer variables clauses budget answer → IsNotSpent answer
never_large variables budget clauses (Found values) large h = tt
never_large variables budget clauses (Refuted log) large h = tt
never_large variables budget clauses (Spent log) large h =
    let few : budget < 3 ^ variables = h.2 in absurd (omega arith)

in_ok : {E : Type 0} (result : Result Solved E) (P Q : Solved → Type 0) →
    ((answer : Solved) → P answer → Q answer) → IfOk result P → IfOk result Q
in_ok (Ok answer) P Q weaker h = weaker answer h
in_ok (Err e) P Q weaker h = tt

pub returns-clause-units_never_spent : goal.returns-clause-units_never_spent
returns-clause-units_never_spent c =
    λ literals conflict.
    in_ok c.answer.result (IsAnswer c.args.variables c.args.clauses.now c.args.budget)
    IsNotSpent (λ answer h.
    never_spent c.args.variables c.args.budget c.args.clauses.now literals answer conflict h)
    c.answer.ensures

pub returns-clause-large_budget_never_spent : goal.returns-clause-large_budget_never_spent
returns-clause-large_budget_never_spent c =
    λ large. in_ok c.answer.result (IsAnswer c.args.variables c.args.clauses.now c.args.budget)
    IsNotSpent (λ answer h.
    never_large c.args.variables c.args.budget c.args.clauses.now answer large h)
    c.answer.ensures
