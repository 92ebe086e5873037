use Rattle.std.proofs.Common.{[], ◌++◌, sym, ap, ap₂, ◌∙◌}
use Rattle.sv_flat.specs.Views.{design_of}
use Rattle.sv_flat.specs.declared.signals.SigId.{SigId}
use Rattle.sv_obl.specs.Obligations.{target_obligations}
use Rattle.sv_paths.proofs.WrittenFacts.{next_before}
use Rattle.sv_paths.proofs.listing.queries_of_targets.Goals as goal

pub loop-s-preserved : goal.loop-s-preserved
loop-s-preserved c =
    let design = design_of c.args.design.now in
    record {
      at = c.in_ok-paths.ensures.next;
      listed =
          c.in_ok-add_queries.ensures
          ∙ ap₂ (λ one other. one ++ other) c.loop-s.invariant.listed
          (ap (λ (target : SigId). target_obligations [] design target.0)
          c.in_ok-paths.ensures.target)
          ∙ sym (next_before design c.loop-s.s);
    }
