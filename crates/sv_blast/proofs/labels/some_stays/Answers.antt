use Rattle.std.proofs.Common.{◌≡◌, ℕ, ◌+◌, ◌<◌, ◌++◌, drop, get_or, length, map, ap, ◌∙◌, List}
use Rattle.std.proofs.Common.{rules, Vec, Global}
use Rattle.std.specs.Prelude.{All}
use Rattle.std.specs.Result.{IsErrOf}
use Rattle.std.proofs.lemmas.List.{drop_all}
use Rattle.sv_gates.specs.declared.gates.GateFault.TheVariants.{Full}
use Rattle.sv_encoding.specs.Labels.{LabelForm}
use Rattle.sv_blast.specs.declared.labels.PointLiteral.{PointLiteral}
use Rattle.sv_blast.specs.LabelViews.{label_form, AreWithin}
use Rattle.sv_blast.specs.LabelSteps.{chain_with, label_stays}
use Rattle.sv_blast.proofs.OrChains.{join_step, join_full, chain_more, chain_left_full}
use Rattle.sv_blast.proofs.OrChains.{or_done, or_full}
use Rattle.sv_blast.proofs.PointSteps.{label_up}
use Rattle.sv_blast.proofs.FlowSteps.{all_stays, all_grow}
use Rattle.sv_blast.proofs.SignalLabels.{mapped_at}
use Rattle.sv_blast.proofs.SignalTurns.{turn_at}
use Rattle.sv_blast.proofs.labels.some_stays.Goals as goal

abbrev form : Vec PointLiteral Global → LabelForm
form label = label_form label.items

abbrev entries : Vec PointLiteral Global → List PointLiteral
entries label = label.items

-- the pairs of one more label
turn : (lattice : List ℕ) (target : LabelForm) (labels : List (Vec PointLiteral Global)) (i : ℕ)
    (label : Vec PointLiteral Global) → i < length labels → label ≡ get_or labels i label →
    all_stays lattice target (map form (drop i labels))
    ≡ label_stays lattice (form label) target
    ++ all_stays lattice target (map form (drop (i + 1) labels))
turn lattice target labels i label inside is =
    ap (λ z. all_stays lattice target (map form z)) (turn_at labels i label inside is)

pub label_stays-requires-clause-points : goal.label_stays-requires-clause-points
label_stays-requires-clause-points c =
    let n = length c.args.design.now.lattice in
    rw (c.lattice.ensures.lattice, c.deref.ensures.value)
    (mapped_at (All (λ (p : PointLiteral). p.point.0 < n)) entries c.args.labels.now
    c.labels.label-index c.label-item.result c.requires.points c.labels-test.true c.label-item.is)

pub label_stays-requires-clause-label : goal.label_stays-requires-clause-label
label_stays-requires-clause-label c =
    rw c.deref.ensures.value (label_up c.args.gates.now.variables c.labels.gates.variables
    (form c.label-item.result) c.labels.invariant.begins.grows
    (mapped_at (AreWithin c.args.gates.now.variables) form c.args.labels.now
    c.labels.label-index c.label-item.result c.requires.labels c.labels-test.true c.label-item.is))

pub returns-in_err-chain-clause-full : goal.returns-in_err-chain-clause-full
returns-in_err-chain-clause-full c =
    let same : IsErrOf c.from_residual.result Full → IsErrOf c.label_stays.result Full =
    search rules in
    let lattice = c.args.design.now.lattice in
    let target = label_form c.args.target.now in
    let labels = c.args.labels.now in
    let label = c.label-item.result in
    let more = drop (c.labels.label-index + 1) labels in
    let full = rw (c.lattice.ensures.lattice, c.deref.ensures.value) at c.label_stays.ensures.full in
    λ e. or_full (all_stays lattice target (map form labels)) c.args.gates.now _
    (chain_left_full _ _ _ _ _ _ c.labels.invariant
    (join_full c.labels.chain (label_stays lattice (form label) target)
    (all_stays lattice target (map form more))
    (all_stays lattice target (map form (drop c.labels.label-index labels))) c.labels.gates _
    (turn lattice target labels c.labels.label-index label c.labels-test.true c.label-item.is)
    (all_grow lattice target (map form more)) (full (same e))))

pub labels-preserved : goal.labels-preserved
labels-preserved c =
    let lattice = c.args.design.now.lattice in
    let target = label_form c.args.target.now in
    let labels = c.args.labels.now in
    let i = c.labels.label-index in
    let label = c.label-item.result in
    let made = rw (c.lattice.ensures.lattice, c.deref.ensures.value) at c.in_ok-chain.ensures.made in
    chain_more _ _ _ _ _ _ _ _ c.labels.invariant
    (join_step c.labels.chain c.in_ok-chain.chain (label_stays lattice (form label) target)
    (all_stays lattice target (map form (drop (i + 1) labels)))
    (all_stays lattice target (map form (drop i labels))) c.labels.gates c.label_stays.new.gates
    (turn lattice target labels i label c.labels-test.true c.label-item.is) made)
    c.in_ok-chain.ensures.begins c.in_ok-chain.ensures.within

pub returns-clause-made : goal.returns-clause-made
returns-clause-made c =
    let lattice = c.args.design.now.lattice in
    let target = label_form c.args.target.now in
    let labels = c.args.labels.now in
    or_done (all_stays lattice target (map form labels)) c.args.gates.now c.labels.gates
    c.labels.chain c.chain_end.result
    (c.labels.invariant.made
    ∙ ap (λ z. chain_with c.labels.chain (all_stays lattice target (map form z)) c.labels.gates)
    (drop_all c.labels.label-index labels c.labels-test.false))
    c.chain_end.ensures.value
