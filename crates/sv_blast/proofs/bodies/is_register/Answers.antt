use Rattle.std.proofs.Common.{◌≡◌, get_or, sym, ap, ◌∙◌}
use Rattle.sv_flat.specs.Clocks.{processes_of}
use Rattle.sv_flat.specs.Design.{ProcessForm}
use Rattle.sv_flat.specs.Processes.{is_clocked}
use Rattle.sv_flat.specs.Views.{design_of, process_form, process_kind}
use Rattle.sv_flat.specs.declared.designs.Process.{Process}
use Rattle.sv_obl.proofs.FormLists.{form_at}
use Rattle.sv_blast.proofs.SliceWords.{driver_kind, some_driver}
use Rattle.sv_blast.proofs.bodies.is_register.Goals as goal

pub returns-in-Some : goal.returns-in-Some
returns-in-Some c =
    let design = design_of c.args.design.now in
    let x = c.index-processes-place.result in
    let k = c.in-Some.place in
    let there : get_or (processes_of design) k (process_form x) ≡ process_form x =
    form_at process_form c.processes.result.now (processes_of design) k x
    c.index-processes-place.is c.processes.ensures.processes in
    c.is_clocked.ensures
    ∙ ap (λ (p : Process). is_clocked (process_kind p.kind)) (sym c.index-processes-place.is)
    ∙ ap (λ (p : ProcessForm). is_clocked p.kind) (sym there)
    ∙ driver_kind design c.driver.ensures.design c.args.signal.0 c.requires.driven k (process_form x)
    (sym c.driver.ensures.driver ∙ c.in-Some.is)

pub returns-in-None : goal.returns-in-None
returns-in-None c =
    absurd (some_driver (design_of c.args.design.now) c.driver.ensures.design c.args.signal.0
    c.requires.driven (sym c.driver.ensures.driver ∙ c.in-None.is))
