use Rattle.std.proofs.Common.{◌≡◌, ◌≤◌, ◌-◌, length, min}
use Rattle.sv_solve.proofs.solver.learn.Given as goal

abbrev pub invariant-budget : goal.invariant-budget
invariant-budget l =
    (l.state.known.given ≡ l.initial.state.known.given) × (length l.state.known.steps ≡ l.learned)
    × (l.learned ≤ l.budget) × (l.state.known.variables ≡ min l.variables 2147483647)
    × (l.seen.variables ≡ l.state.known.variables)

abbrev pub decreases-budget : goal.decreases-budget
decreases-budget l = l.budget - l.learned
