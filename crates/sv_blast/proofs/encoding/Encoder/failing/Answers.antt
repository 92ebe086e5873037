use Rattle.std.proofs.Common.{rules, ◌≡◌, ◌∙◌, ◌<◌, ℤ, List, length, map, sym, ap, subst, arith}
use Rattle.std.specs.Prelude.{All, Contains}
use Rattle.std.specs.Result.{IsErrOf}
use Rattle.sv_design.specs.Numbers.{numbers}
use Rattle.sv_gates.specs.Formulas.{Formula, most_variables}
use Rattle.sv_gates.specs.declared.gates.GateFault.TheVariants.{Full}
use Rattle.sv_encoding.specs.Encoding.{violation}
use Rattle.sv_encoding.specs.Labels.{LabelForm}
use Rattle.sv_blast.specs.Encoders.{design_in, obligation_in}
use Rattle.sv_blast.specs.Goals.{IsTargetReady, IsHeldReady}
use Rattle.sv_blast.specs.LabelViews.{label_form, AreWithin}
use Rattle.sv_blast.specs.Steps.{after_violation}
use Rattle.sv_blast.specs.WordTables.{words_of, StandsOf}
use Rattle.sv_encoding_laws.proofs.Chain.{p9, p10}
use Rattle.sv_blast.proofs.LiteralFacts.{target_ready, reads_stand, held_ready}
use Rattle.sv_blast.proofs.LiteralSteps.{within_up, target_path, in_hand, target_gates, reads_from}
use Rattle.sv_blast.proofs.LiteralSteps.{reads_gates, violation_from}
use Rattle.sv_blast.proofs.QuerySignals.{reads_known}
use Rattle.sv_blast.proofs.encoding.Encoder.failing.Goals as goal
use Rattle.sv_blast.proofs.encoding.Encoder.failing.Goals.{After-violation}

pub target_label-requires : goal.target_label-requires
target_label-requires c =
    let design = design_in c.args.self.now in
    let asked = (obligation_in c.args.self.now).goal in
    in_hand (design_in c.args.self.now) (obligation_in c.args.self.now) (words_of c.args.now.now)
    (words_of c.args.next.now) c.requires.now c.requires.next
    (λ gates w v. IsTargetReady design gates.variables w v asked) c.args.gates.now _
    c.requires.gates
    (target_ready c.args.self.now.design.now c.know_design.ensures.checked
    (obligation_in c.args.self.now)
    c.requires.encoder.query)

pub signal_labels-requires-clause-known : goal.signal_labels-requires-clause-known
signal_labels-requires-clause-known c =
    let checked = c.know_design.ensures.checked in
    subst (All (λ s. s < length c.args.self.now.design.now.signals.items))
    (sym (ap numbers c.deref.ensures.value))
    (reads_known c.args.self.now.design.now checked.is_sound checked.admitted
    (obligation_in c.args.self.now) c.requires.encoder.query)

pub signal_labels-requires-clause-words : goal.signal_labels-requires-clause-words
signal_labels-requires-clause-words c =
    let design = design_in c.args.self.now in
    λ s t at selects.
    in_hand (design_in c.args.self.now) (obligation_in c.args.self.now) (words_of c.args.now.now)
    (words_of c.args.next.now) c.requires.now c.requires.next
    (λ gates w v. StandsOf design.signals gates.variables w t) c.target_label.new.gates _
    (target_gates (design_in c.args.self.now) (obligation_in c.args.self.now)
    (words_of c.args.now.now)
    (words_of c.args.next.now) c.requires.now c.requires.next
    c.args.gates.now c.requires.gates _ _
    c.in_ok-target.ensures.made)
    (reads_stand c.args.self.now.design.now c.know_design.ensures.checked
    (obligation_in c.args.self.now)
    c.requires.encoder.query
    s t (subst (λ z. Contains z s) (ap numbers c.deref.ensures.value) at) selects)

pub violation-requires-clause-held : goal.violation-requires-clause-held
violation-requires-clause-held c =
    let design = design_in c.args.self.now in
    let asked = (obligation_in c.args.self.now).goal in
    in_hand (design_in c.args.self.now) (obligation_in c.args.self.now) (words_of c.args.now.now)
    (words_of c.args.next.now) c.requires.now c.requires.next
    (λ gates w v. IsHeldReady design gates.variables w v asked) c.signal_labels.new.gates _
    (reads_gates (design_in c.args.self.now) (obligation_in c.args.self.now)
    (words_of c.args.now.now)
    (words_of c.args.next.now) c.requires.now c.requires.next
    c.args.gates.now c.requires.gates _ _
    c.in_ok-target.ensures.made _ (ap numbers c.deref.ensures.value) _ _ c.in_ok-reads.ensures.made)
    (held_ready c.args.self.now.design.now c.know_design.ensures.checked
    (obligation_in c.args.self.now)
    c.requires.encoder.query)

pub violation-requires-clause-target : goal.violation-requires-clause-target
violation-requires-clause-target c =
    within_up c.target_label.new.gates.variables c.signal_labels.new.gates.variables
    (label_form c.deref-2.result.now) c.in_ok-reads.ensures.begins.grows
    (subst (λ z. AreWithin c.target_label.new.gates.variables (label_form z))
    (sym c.deref-2.ensures.value) c.in_ok-target.ensures.within)

-- the violation of what is in hand
violated : (c : After-violation) →
    violation (design_in c.args.self.now) (words_of c.args.now.now) (words_of c.args.next.now)
    (label_form c.deref-2.result.now) (map (λ label. label_form label.items) c.deref-3.result.now)
    (obligation_in c.args.self.now).goal c.signal_labels.new.gates
    ≡ after_violation (design_in c.args.self.now) (obligation_in c.args.self.now)
violated c =
    violation_from (design_in c.args.self.now) (obligation_in c.args.self.now)
    (words_of c.args.now.now)
    (words_of c.args.next.now) c.requires.now c.requires.next
    c.args.gates.now c.requires.gates _ _
    c.in_ok-target.ensures.made _ (ap numbers c.deref.ensures.value) _ _ c.in_ok-reads.ensures.made
    (label_form c.deref-2.result.now) (ap label_form c.deref-2.ensures.value)
    (map (λ label. label_form label.items) c.deref-3.result.now)
    (ap (map (λ label. label_form label.items)) c.deref-3.ensures.value)

pub returns-clause-made : goal.returns-clause-made
returns-clause-made c =
    sym (violated (goal.at.returns-clause-made c).After-violation) ∙ c.in_ok-fails.ensures.made

pub returns-in_err-target-clause-full : goal.returns-in_err-target-clause-full
returns-in_err-target-clause-full c =
    let same : IsErrOf c.from_residual.result Full →
    IsErrOf c.target_label.result Full = search rules in
    let g = (p9 (design_in c.args.self.now) c.know_design.ensures.checked
    (obligation_in c.args.self.now) c.requires.encoder.query).extends.begins.grows in
    let h = (p10 (design_in c.args.self.now) c.know_design.ensures.checked
    (obligation_in c.args.self.now) c.requires.encoder.query).extends.begins.grows in
    λ e.
    let most = subst (λ (z : Formula × LabelForm). most_variables < (z.0).variables)
    (target_path (design_in c.args.self.now) (obligation_in c.args.self.now)
    (words_of c.args.now.now)
    (words_of c.args.next.now) c.requires.now c.requires.next
    c.args.gates.now c.requires.gates) (c.target_label.ensures.full (same e)) in
    omega (arith, most, g, h)

pub returns-in_err-reads-clause-full : goal.returns-in_err-reads-clause-full
returns-in_err-reads-clause-full c =
    let same : IsErrOf c.from_residual-in_err-reads.result Full →
    IsErrOf c.signal_labels.result Full = search rules in
    let h = (p10 (design_in c.args.self.now) c.know_design.ensures.checked
    (obligation_in c.args.self.now) c.requires.encoder.query).extends.begins.grows in
    λ e.
    let most = subst (λ (z : Formula × List LabelForm). most_variables < (z.0).variables)
    (reads_from (design_in c.args.self.now) (obligation_in c.args.self.now)
    (words_of c.args.now.now)
    (words_of c.args.next.now) c.requires.now c.requires.next
    c.args.gates.now c.requires.gates _ _
    c.in_ok-target.ensures.made _ (ap numbers c.deref.ensures.value))
    (c.signal_labels.ensures.full (same e)) in
    omega (arith, most, h)

pub returns-in_err-fails-clause-full : goal.returns-in_err-fails-clause-full
returns-in_err-fails-clause-full c =
    let same : IsErrOf c.from_residual-in_err-fails.result Full →
    IsErrOf c.violation.result Full = search rules in
    λ e. subst (λ (z : Formula × ℤ). most_variables < (z.0).variables)
    (violated (goal.at.returns-in_err-fails-clause-full c).After-violation)
    (c.violation.ensures.full (same e))
