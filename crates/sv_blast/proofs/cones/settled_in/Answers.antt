use Rattle.std.proofs.Common.{◌≡◌, Vec, Global, subst, ◌∙◌}
use Rattle.std.specs.Prelude.{IfOk}
use Rattle.sv_flat.specs.declared.signals.SigId.{SigId}
use Rattle.sv_flat.specs.Views.{design_of}
use Rattle.sv_design.specs.Numbers.{numbers}
use Rattle.sv_blast.proofs.ConeStarts.{settled_marked, empty_is}
use Rattle.sv_blast.proofs.cones.settled_in.Goals as goal

pub returns : goal.returns
returns c =
    let design = design_of c.args.design.now in
    let known = c.order.ensures.design in
    subst (λ ks. IfOk c.kept.result (λ (found : Vec SigId Global). numbers found.items ≡ ks))
    (settled_marked design known.is_sound known.is_admitted c.as_mut_slice-marks.result.now
    c.mark_all.new.table (numbers c.args.cone.now) (numbers c.order.result.now)
    (c.as_mut_slice-marks.ensures.value ∙ empty_is c.args.design.now _ c.in_ok-table.ensures.table)
    c.mark_all.auto.table c.mark_all.ensures c.order.ensures.order)
    c.kept.ensures
