use Rattle.std.proofs.Common.{◌+◌, ◌<◌, ◌≤◌, ℕ, pos, Option, Some, None, IfNone, arith, rules}
use Rattle.std.proofs.lemmas.Iterator.{first_from_Range}
use Rattle.std.specs.Bool.{⊤}
use Rattle.sv_solve.specs.Lists.{IsAssigned, AllAssigned}
use Rattle.sv_solve.proofs.order.first_open.Goals as goal

if_none : {X : Type 0} (found : Option X) (P : Type 0) → P → IfNone found P
if_none None P h = h
if_none (Some x) P h = tt

pub returns-in_err-variable-clause-none : goal.returns-in_err-variable-clause-none
returns-in_err-variable-clause-none c =
    let P : ℕ → Type 0 = λ k. IsAssigned c.args.trail.now.literals (pos k) in
    let first = first_from_Range _ _ _ c.find.result (λ _. ⊤) P c.find.ensures.ran
    (λ k q called. tt) (λ k q called. search rules) in
    let each : (k : ℕ) → 1 ≤ k → k < c.variables-past.result + 1 → P k =
    rw c.in_err-variable.was at first in
    if_none _ (AllAssigned c.args.trail.now.variables c.args.trail.now.literals)
    (λ v some most. each v (omega arith) (omega arith))
