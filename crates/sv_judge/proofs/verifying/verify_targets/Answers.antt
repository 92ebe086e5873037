use Rattle.std.proofs.Common.{sym, subst}
use Rattle.sv_flat.specs.Views.{design_of}
use Rattle.sv_proof.specs.Certificate.{plain_logs}
use Rattle.sv_judge.specs.Certified.{EarlierAreShown}
use Rattle.sv_judge.proofs.VerifyFacts.{none_shown}
use Rattle.sv_judge.proofs.verifying.verify_targets.Goals as goal

pub loop-s-init : goal.loop-s-init
loop-s-init c = record {
  coder = c.requires.coder;
  at = c.requires.at;
  shown =
      none_shown (design_of c.args.design.now) (plain_logs c.args.logs.now)
      c.args.listing.now.count c.requires.at.counted.count;
}

pub loop-s-preserved : goal.loop-s-preserved
loop-s-preserved c = record {
  coder = c.in_ok-verify_paths.ensures.coder;
  at = c.in_ok-paths.ensures.at;
  shown =
      subst (λ n. EarlierAreShown (design_of c.args.design.now) n (plain_logs c.args.logs.now))
      (sym c.in_ok-paths.ensures.count) c.in_ok-verify_paths.ensures.shown;
}
