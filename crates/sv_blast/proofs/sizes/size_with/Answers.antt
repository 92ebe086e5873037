use Rattle.std.proofs.Common.{ℕ, ◌+◌, map, min, sym, ap, ◌∙◌}
use Rattle.std.specs.Prelude.{sum}
use Rattle.sv_design.specs.Numbers.{numbers}
use Rattle.sv_flat.specs.ByNumber.{signal_forms}
use Rattle.sv_flat.specs.Views.{design_of}
use Rattle.sv_obl.specs.Views.{obligation_of}
use Rattle.sv_encoding.specs.Cones.{now_cone, next_cone, conditions_of}
use Rattle.sv_encoding.specs.Sizes.{truth_size, label_size, label_of_signal, target_size}
use Rattle.sv_encoding.specs.Sizes.{violation_size}
use Rattle.sv_blast.specs.Framed.{frames_size}
use Rattle.sv_blast.proofs.ConeSums.{all_sizes}
use Rattle.sv_blast.proofs.QuerySignals.{listed_known}
use Rattle.sv_blast.proofs.SizeSums.{capped_parts}
use Rattle.sv_blast.proofs.sizes.size_with.Goals as goal

pub labels_size-labels-requires : goal.labels_size-labels-requires
labels_size-labels-requires c =
    let is = c.signals-signals.ensures.design in
    listed_known c.args.design.now is.is_sound is.is_admitted c.args.query.now c.requires.query
    c.deref.result.now c.deref.ensures.value

pub returns : goal.returns
returns c =
    let design = design_of c.args.design.now in
    let o = obligation_of c.args.query.now in
    let is = c.signals-signals.ensures.design in
    let most = λ (n : ℕ). min n 4194305 in
    capped_parts (frames_size design (now_cone design o) (next_cone design o))
    (sum (map (truth_size design.signals) (conditions_of o)))
    (sum (map (λ t. label_size design (label_of_signal design t)) o.reads))
    (target_size design o.goal + violation_size design o.reads o.goal)
    c.args.frames c.asked_size-conditions.result c.labels_size-labels.result
    c.goal_size-goal.result c.sum-3.result
    c.requires.frames
    (c.asked_size-conditions.ensures
    ∙ ap (λ ss. most (sum (map (truth_size (signal_forms ss)) (conditions_of o))))
    c.signals-signals.ensures.signals)
    (c.labels_size-labels.ensures
    ∙ ap (λ reads. most (sum (map (λ t. label_size design (label_of_signal design t))
    (numbers reads)))) c.deref.ensures.value)
    c.goal_size-goal.ensures
    (c.sum-3.ensures
    ∙ ap (λ m. most (c.args.frames + m))
    (c.sum-2.ensures ∙ ap (λ m. most (m + c.goal_size-goal.result)) c.sum.ensures))
    ∙ sym (ap most (all_sizes design is.is_sound is.is_admitted o c.requires.query))
