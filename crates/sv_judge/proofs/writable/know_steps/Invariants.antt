use Rattle.std.proofs.Common.{take, All}
use Rattle.sv_clause.specs.Logs.{plain_step}
use Rattle.sv_clause.specs.declared.logs.Derived.{Derived}
use Rattle.sv_judge.specs.Writable.{IsTyped}
use Rattle.sv_judge.proofs.writable.know_steps.Given as goal

-- the steps so far
abbrev pub invariant-steps : goal.invariant-steps
invariant-steps l = All (λ (d : Derived). IsTyped (plain_step d)) (take l.step-index l.steps)
