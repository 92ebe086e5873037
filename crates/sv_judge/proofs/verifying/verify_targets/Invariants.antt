use Rattle.sv_flat.specs.Views.{design_of}
use Rattle.sv_paths.specs.ListParts.{IsAt}
use Rattle.sv_blast.specs.Coders.{IsCoder}
use Rattle.sv_proof.specs.Certificate.{plain_logs}
use Rattle.sv_judge.specs.Certified.{EarlierAreShown}
use Rattle.sv_judge.proofs.verifying.verify_targets.Given as goal

-- the coder is still one, and the logs of the obligations of the targets so far refute their
-- encodings
abbrev pub invariant-loop-s : goal.invariant-loop-s
invariant-loop-s l = record {
  coder : IsCoder (design_of l.design) l.coder;
  at : IsAt (design_of l.design) l.s l.listing;
  shown : EarlierAreShown (design_of l.design) l.listing.count (plain_logs l.logs);
}
