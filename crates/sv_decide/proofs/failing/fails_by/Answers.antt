use Rattle.std.proofs.Common.{not, map, sym, ap, ◌∙◌}
use Rattle.sv_flat.specs.declared.signals.SigId.{SigId}
use Rattle.sv_flat.specs.ByNumber.{by_number}
use Rattle.sv_flat.specs.FlatSystem.{flat_system}
use Rattle.sv_flat.specs.Views.{design_of}
use Rattle.sv_obl.proofs.PieceFacts.{any_formed}
use Rattle.sv_decide.specs.declared.failing.EvaluatedGoal.{EvaluatedGoal}
use Rattle.sv_decide.specs.Simulating.{fails_by}
use Rattle.sv_decide.proofs.failing.fails_by.Goals as goal

pub returns-in-Flow : goal.returns-in-Flow
returns-in-Flow c =
    let design = design_of c.args.design.now in
    let now = by_number c.args.values.now in
    let system = flat_system design in
    c.some_stays.ensures
    ∙ any_formed (λ (s : SigId). s.0)
    (λ t. not (system.flows (system.label t now) c.in-Flow.point)) c.args.reads.now
    ∙ ap (λ (asked : EvaluatedGoal).
    fails_by design (map (λ (s : SigId). s.0) c.args.reads.now) now asked) (sym c.in-Flow.is)
