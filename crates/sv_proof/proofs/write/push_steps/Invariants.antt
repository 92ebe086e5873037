use Rattle.std.proofs.Common.{◌≡◌, ◌∷◌, [], ◌++◌, take}
use Rattle.std.specs.List.{flat_map}
use Rattle.sv_clause.specs.Logs.{plain_step}
use Rattle.sv_proof.specs.Certificate.{step_line}
use Rattle.sv_proof.proofs.write.push_steps.Given as goal

abbrev pub invariant-steps : goal.invariant-steps
invariant-steps l =
    l.text.items ≡ l.fn.text.items ++ flat_map (λ step.
    step_line (plain_step step) ++ 10 ∷ []) (take l.step-index l.steps)
