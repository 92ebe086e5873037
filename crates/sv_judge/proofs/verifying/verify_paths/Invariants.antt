use Rattle.std.proofs.Common.{◌+◌}
use Rattle.sv_flat.specs.Views.{design_of}
use Rattle.sv_blast.specs.Coders.{IsCoder}
use Rattle.sv_proof.specs.Certificate.{plain_logs}
use Rattle.sv_judge.specs.Certified.{EarlierAreShown}
use Rattle.sv_judge.proofs.verifying.verify_paths.Given as goal

-- the coder is still one, and the logs of the obligations so far refute their encodings
abbrev pub invariant-loop-path : goal.invariant-loop-path
invariant-loop-path l = record {
  coder : IsCoder (design_of l.design) l.coder;
  shown : EarlierAreShown (design_of l.design) (l.first + l.path) (plain_logs l.logs);
}
