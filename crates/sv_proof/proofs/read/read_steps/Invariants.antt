use Rattle.std.proofs.Common.{◌≡◌, ◌+◌, ◌-◌, ◌≤◌, length, map}
use Rattle.sv_clause.specs.Logs.{plain_step}
use Rattle.sv_proof.specs.Reading.{BeginWithSteps}
use Rattle.sv_proof.proofs.read.read_steps.Given as goal

abbrev pub invariant-steps : goal.invariant-steps
invariant-steps l =
    BeginWithSteps l.bytes (map plain_step l.steps.items) l.rest
    × (length (map plain_step l.steps.items) ≡ l.done) × (l.done ≤ l.count)
    × (l.done + length l.rest ≤ length l.bytes)

abbrev pub decreases-steps : goal.decreases-steps
decreases-steps l = l.count - l.done
