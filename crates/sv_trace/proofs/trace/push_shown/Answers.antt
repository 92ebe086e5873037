use Rattle.std.proofs.Common.{◌++◌, not, length, refl, sym, ap, ◌∙◌}
use Rattle.std.specs.Prelude.{flat_map}
use Rattle.std.proofs.lemmas.List.{take_all}
use Rattle.sv_flat.specs.ByNumber.{by_number}
use Rattle.sv_flat.specs.Clocks.{is_clock}
use Rattle.sv_flat.specs.Views.{design_of}
use Rattle.sv_design.specs.Numbers.{numbers}
use Rattle.sv_trace.specs.Traces.{text_of_signal}
use Rattle.sv_trace.proofs.FormFacts.{known_at, all_known}
use Rattle.sv_trace.proofs.Shown.{shown_text}
use Rattle.sv_trace.proofs.trace.push_shown.Goals as goal

pub push_signal-requires-clause-known : goal.push_signal-requires-clause-known
push_signal-requires-clause-known c =
    let flat = c.args.design.now in
    known_at (length flat.signals.items) c.seen-seen.result.now c.signals.s-index
    (record { 0 = 0 })
    (all_known flat flat.signals.items refl (λ s. not (is_clock (design_of flat) s))
    c.seen-seen.result.now c.seen-seen.ensures.seen)
    c.signals-test.true

pub returns : goal.returns
returns c =
    let design = design_of c.args.design.now in
    let environment = by_number c.args.table.now in
    c.signals.invariant
    ∙ ap (λ text. c.args.line.now.items ++ text)
    (ap (λ ss. flat_map (text_of_signal design c.args.level environment) (numbers ss))
    (take_all c.signals.s-index c.seen-seen.result.now c.signals-test.false)
    ∙ ap (flat_map (text_of_signal design c.args.level environment)) c.seen-seen.ensures.seen
    ∙ sym (shown_text design c.args.level environment))
