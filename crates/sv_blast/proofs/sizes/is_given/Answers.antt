use Rattle.std.proofs.Common.{◌≡◌, ◌<◌, Some, length, get_or, subst, sym, ap, ◌∙◌}
use Rattle.std.proofs.lemmas.List.{length-map, get_or-map}
use Rattle.std.proofs.lemmas.List.Quantifiers.{position-Some}
use Rattle.sv_flat.specs.Assigned.{assigns}
use Rattle.sv_flat.specs.Clocks.{processes_of}
use Rattle.sv_flat.specs.Design.{ProcessForm}
use Rattle.sv_flat.specs.Processes.{is_clocked}
use Rattle.sv_flat.specs.SignalLists.{driver_of}
use Rattle.sv_flat.specs.Views.{process_form, design_of}
use Rattle.sv_blast.proofs.KnownSignals.{known_signal}
use Rattle.sv_blast.proofs.ConeSums.{driven_given, undriven_given}
use Rattle.sv_blast.proofs.sizes.is_given.Goals as goal

pub returns-in-Some : goal.returns-in-Some
returns-in-Some c =
    let design = design_of c.args.design.now in
    let s = c.args.signal.0 in
    let k = c.in-Some.place in
    let p = c.index-processes-place.result in
    let d = process_form p in
    let now = c.processes.result.now in
    let is = c.driver.ensures.design in
    let driver : driver_of design s ≡ Some k = sym c.driver.ensures.driver ∙ c.in-Some.is in
    let first = position-Some (λ (q : ProcessForm). assigns q.body s) (processes_of design) k d
    driver in
    let inside : k < length now = subst (λ n. k < n)
    (ap length (sym c.processes.ensures.processes) ∙ length-map now process_form) first.0 in
    c.is_clocked.ensures
    ∙ sym (ap (λ (q : ProcessForm). is_clocked q.kind)
    (ap (λ ps. get_or ps k d) (sym c.processes.ensures.processes)
    ∙ get_or-map process_form now k p d inside))
    ∙ sym (driven_given design is.is_sound is.is_admitted s k d
    (known_signal c.args.design.now s c.requires) driver)

pub returns-in-None : goal.returns-in-None
returns-in-None c =
    let design = design_of c.args.design.now in
    let s = c.args.signal.0 in
    let is = c.driver.ensures.design in
    c.is_top_input.ensures
    ∙ sym (undriven_given design is.is_sound is.is_admitted s
    (known_signal c.args.design.now s c.requires) (sym c.driver.ensures.driver ∙ c.in-None.is))
