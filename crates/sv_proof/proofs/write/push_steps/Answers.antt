use Rattle.std.proofs.Common.{arith}
use Rattle.sv_clause.specs.Logs.{plain_step}
use Rattle.sv_proof.specs.Certificate.{step_line}
use Rattle.sv_proof.proofs.Writing.{steps_written}
use Rattle.sv_proof.proofs.write.push_steps.Goals as goal

pub returns : goal.returns
returns c =
    steps_written step_line plain_step c.args.steps.now c.steps.step-index _ _ (omega arith)
    c.steps.invariant
