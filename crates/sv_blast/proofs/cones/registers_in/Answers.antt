use Rattle.std.proofs.Common.{◌≡◌, Vec, Global, subst, ◌∙◌}
use Rattle.std.specs.Prelude.{IfOk}
use Rattle.std.proofs.lemmas.List.Elements.{filter_agree}
use Rattle.sv_flat.specs.declared.signals.SigId.{SigId}
use Rattle.sv_flat.specs.Processes.{is_register}
use Rattle.sv_flat.specs.Views.{design_of}
use Rattle.sv_graph.specs.Marks.{is_marked}
use Rattle.sv_design.specs.Numbers.{numbers}
use Rattle.sv_blast.proofs.ConeStarts.{registers_marked, empty_is}
use Rattle.sv_blast.proofs.cones.registers_in.Goals as goal

pub returns : goal.returns
returns c =
    let design = design_of c.args.design.now in
    let marks = c.mark_all.new.table in
    let ss = numbers c.args.cone.now in
    let known = c.registers.ensures.design in
    subst (λ ks. IfOk c.kept.result (λ (found : Vec SigId Global). numbers found.items ≡ ks))
    (filter_agree (is_marked marks) (is_register design)
    (registers_marked design known.is_sound known.is_admitted c.as_mut_slice-marks.result.now marks
    (numbers c.registers.result.now)
    (c.as_mut_slice-marks.ensures.value ∙ empty_is c.args.design.now _ c.in_ok-table.ensures.table)
    c.mark_all.auto.table c.registers.ensures.registers c.mark_all.ensures) ss)
    c.kept.ensures
