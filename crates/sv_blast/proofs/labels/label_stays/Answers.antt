use Rattle.std.proofs.Common.{◌+◌, drop, rules}
use Rattle.std.specs.Result.{IsErrOf}
use Rattle.sv_gates.specs.declared.gates.GateFault.TheVariants.{Full}
use Rattle.sv_blast.specs.LabelViews.{point_form, label_form}
use Rattle.sv_blast.specs.LabelSteps.{point_stays, label_stays}
use Rattle.sv_blast.proofs.OrChains.{join_step, join_full, chain_more, chain_left_full}
use Rattle.sv_blast.proofs.FlowSteps.{label_here, labels_grow}
use Rattle.sv_blast.proofs.SignalLabels.{entry_up}
use Rattle.sv_blast.proofs.SignalTurns.{turn_at}
use Rattle.sv_blast.proofs.labels.label_stays.Goals as goal

pub point_stays-requires-clause-literal : goal.point_stays-requires-clause-literal
point_stays-requires-clause-literal c =
    entry_up c.args.gates.now.variables c.points.gates.variables c.args.label.now
    c.points.from-index c.from-item.result c.requires.label c.points-test.true c.from-item.is
    c.points.invariant.begins.grows

pub returns-in_err-after-clause-full : goal.returns-in_err-after-clause-full
returns-in_err-after-clause-full c =
    let same : IsErrOf c.from_residual.result Full → IsErrOf c.point_stays.result Full =
    search rules in
    let lattice = c.args.lattice.now in
    let target = label_form c.args.target.now in
    let from = c.from-item.result in
    let left = drop c.points.from-index c.args.label.now in
    let more = drop (c.points.from-index + 1) c.args.label.now in
    λ e. chain_left_full _ _ _ _ _ _ c.points.invariant
    (join_full c.points.after (point_stays lattice (point_form from) target)
    (label_stays lattice (label_form more) target)
    (label_stays lattice (label_form left) target) c.points.gates _
    (label_here lattice left more c.args.target.now from
    (turn_at c.args.label.now c.points.from-index from c.points-test.true c.from-item.is))
    (labels_grow lattice (label_form more) target)
    (c.point_stays.ensures.full (same e)))

pub points-preserved : goal.points-preserved
points-preserved c =
    let lattice = c.args.lattice.now in
    let target = label_form c.args.target.now in
    let from = c.from-item.result in
    let left = drop c.points.from-index c.args.label.now in
    let more = drop (c.points.from-index + 1) c.args.label.now in
    chain_more _ _ _ _ _ _ _ _ c.points.invariant
    (join_step c.points.after c.in_ok-after.after
    (point_stays lattice (point_form from) target)
    (label_stays lattice (label_form more) target)
    (label_stays lattice (label_form left) target) c.points.gates
    c.point_stays.new.gates (label_here lattice left more c.args.target.now from
    (turn_at c.args.label.now c.points.from-index from c.points-test.true c.from-item.is))
    c.in_ok-after.ensures.made)
    c.in_ok-after.ensures.begins c.in_ok-after.ensures.within
