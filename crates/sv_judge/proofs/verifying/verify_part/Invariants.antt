use Rattle.std.proofs.Common.{◌≡◌, ◌+◌}
use Rattle.sv_flat.specs.Views.{design_of}
use Rattle.sv_blast.specs.Coders.{IsCoder}
use Rattle.sv_proof.specs.Certificate.{plain_logs}
use Rattle.sv_judge.specs.Certified.{EarlierAreShown}
use Rattle.sv_judge.proofs.verifying.verify_part.Given as goal

-- the coder is still one, and the logs of the obligations so far refute their encodings
abbrev pub invariant-loop-query : goal.invariant-loop-query
invariant-loop-query l = record {
  coder : IsCoder (design_of l.design) l.coder;
  counted : l.place ≡ l.first + l.query-index;
  shown : EarlierAreShown (design_of l.design) l.place (plain_logs l.logs);
}
