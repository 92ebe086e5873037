use Rattle.std.proofs.Common.{◌+◌, drop, sym, rules}
use Rattle.std.specs.Result.{IsErrOf}
use Rattle.sv_gates.specs.Gates.{and_gate}
use Rattle.sv_gates.specs.declared.gates.GateFault.TheVariants.{Full}
use Rattle.sv_blast.specs.LabelViews.{point_form, label_form}
use Rattle.sv_blast.specs.LabelSteps.{point_stays}
use Rattle.sv_blast.proofs.OrChains.{member_full, chain_left_full}
use Rattle.sv_blast.proofs.FlowSteps.{stay_here, stays_grow}
use Rattle.sv_blast.proofs.SignalLabels.{entry_up}
use Rattle.sv_blast.proofs.SignalTurns.{turn_at}
use Rattle.sv_blast.proofs.labels.point_stays.Goals as goal

pub or_both-requires-clause-b : goal.or_both-requires-clause-b
or_both-requires-clause-b c =
    entry_up c.args.gates.now.variables c.targets.gates.variables c.args.target.now
    c.targets.to-index c.to-item.result c.requires.target c.targets-test.true c.to-item.is
    c.targets.invariant.begins.grows

pub returns-in_err-member-clause-full : goal.returns-in_err-member-clause-full
returns-in_err-member-clause-full c =
    let same : IsErrOf c.from_residual.result Full → IsErrOf c.or_both.result Full = search rules in
    let lattice = c.args.lattice.now in
    let from = point_form c.args.from in
    let to = c.to-item.result in
    let left = drop c.targets.to-index c.args.target.now in
    let more = drop (c.targets.to-index + 1) c.args.target.now in
    let turn = turn_at c.args.target.now c.targets.to-index to c.targets-test.true c.to-item.is in
    λ e. chain_left_full _ _ _ _ _ _ c.targets.invariant
    (member_full c.targets.after (and_gate from.literal to.literal)
    (point_stays lattice from (label_form more)) (point_stays lattice from (label_form left))
    c.targets.gates _
    (stay_here lattice from left more to turn (sym c.if-flows.ensures.flows))
    (stays_grow lattice from (label_form more)) (c.or_both.ensures.full (same e)))
