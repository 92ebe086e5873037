use Rattle.std.proofs.Common.{◌≡◌, ◌≤◌, length, arith}
use Rattle.sv_solve.proofs.Endings.{found_ending, spent_ending}
use Rattle.sv_solve.proofs.solver.learn.Goals as goal

pub returns-in-Found : goal.returns-in-Found
returns-in-Found c =
    found_ending c.args.variables c.args.state.known.given c.budget.state.known c.in-Found.trail
    c.in_ok-values_under-in-Found.field-0.items
    c.budget.invariant.0 c.budget.invariant.3 (rw c.in-Found.is at c.in_ok-trail.ensures.outcome)
    c.in_ok-values_under-in-Found.ensures

pub returns : goal.returns
returns c =
    let most : c.budget.learned ≤ c.args.budget = c.budget.invariant.2 in
    let count : length c.budget.state.known.steps ≡ c.budget.learned = c.budget.invariant.1 in
    spent_ending c.args.variables c.args.budget c.args.state.known.given c.budget.state.known
    c.spend.result c.budget.invariant.0 c.budget.invariant.3 (omega arith) c.spend.ensures
