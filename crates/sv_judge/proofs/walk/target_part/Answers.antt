use Rattle.std.proofs.Common.{◌<◌, ◌+◌, [], length, sym, ap, subst, ◌∙◌}
use Rattle.sv_flat.specs.Views.{design_of, signal_form}
use Rattle.sv_flat.specs.declared.signals.SigId.{SigId}
use Rattle.sv_obl.specs.Obligations.{target_obligations}
use Rattle.sv_obl.proofs.FormLists.{length_mapped}
use Rattle.sv_judge.proofs.WalkFacts.{target_counted, target_next}
use Rattle.sv_judge.proofs.walk.target_part.Goals as goal

pub returns-in-Ok-clause-next : goal.returns-in-Ok-clause-next
returns-in-Ok-clause-next c =
    target_next (design_of c.args.design.now) c.args.target.0 c.args.listing.now
    c.target_paths.new.self c.in-Ok.paths
    (subst (λ n. c.args.target.0 < n)
    (sym (length_mapped signal_form c.args.design.now.signals.items)) c.requires.known)
    c.requires.at c.in-Ok.ensures.next c.in-Ok.ensures.paths
    (ap (λ (target : SigId). target.0) c.in-Ok.ensures.target)

pub returns-in-Ok-clause-count : goal.returns-in-Ok-clause-count
returns-in-Ok-clause-count c =
    let design = design_of c.args.design.now in
    target_counted design c.args.target.0 c.args.listing.now c.target_paths.new.self
    c.requires.at c.in-Ok.ensures.next
    ∙ ap (λ (target : SigId).
    c.args.listing.now.count + length (target_obligations [] design target.0))
    (sym c.in-Ok.ensures.target)
