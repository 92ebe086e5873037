use Rattle.std.proofs.Common.{◌<◌, sym, subst}
use Rattle.sv_flat.specs.Views.{signal_form}
use Rattle.sv_obl.proofs.FormLists.{length_mapped}
use Rattle.sv_paths.proofs.list_parts.Listing.target_paths.Goals as goal

pub returns-clause-paths : goal.returns-clause-paths
returns-clause-paths c = record {
  inside =
      subst (λ n. c.args.target.0 < n)
      (sym (length_mapped signal_form c.args.design.now.signals.items)) c.requires.known;
  total = c.args.self.now.count;
  driven = c.in_ok-paths.ensures.driven;
}
