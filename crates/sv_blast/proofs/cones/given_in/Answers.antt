use Rattle.std.proofs.Common.{◌≡◌, ◌||◌, Vec, Global, length, sym, ap, subst, ◌∙◌}
use Rattle.std.specs.Prelude.{IfOk}
use Rattle.std.proofs.lemmas.List.Elements.{filter_agree}
use Rattle.sv_flat.specs.declared.signals.SigId.{SigId}
use Rattle.sv_flat.specs.Processes.{is_register, is_top_input}
use Rattle.sv_flat.specs.Views.{design_of}
use Rattle.sv_graph.specs.Marks.{is_marked}
use Rattle.sv_design.specs.Numbers.{numbers}
use Rattle.sv_blast.proofs.ConeStarts.{given_marked, count_is}
use Rattle.sv_blast.proofs.cones.given_in.Goals as goal

pub returns : goal.returns
returns c =
    let design = design_of c.args.design.now in
    let inputs = c.as_mut_slice-marks.result.now in
    let marks = c.mark_all.new.table in
    let ss = numbers c.args.cone.now in
    let known = c.registers.ensures.design in
    let same = c.as_mut_slice-marks.ensures.value in
    subst (λ ks. IfOk c.kept.result (λ (found : Vec SigId Global). numbers found.items ≡ ks))
    (filter_agree (is_marked marks) (λ s. is_top_input design s || is_register design s)
    (given_marked design known.is_sound known.is_admitted inputs marks
    (numbers c.registers.result.now)
    (ap length same ∙ c.in_ok-table.ensures.size ∙ sym (count_is c.args.design.now))
    c.mark_all.auto.table (λ s. ap (λ t. is_marked t s) same ∙ c.in_ok-table.ensures.marked s)
    c.registers.ensures.registers c.mark_all.ensures) ss)
    c.kept.ensures
