use Rattle.std.proofs.Common.{◌∙◌, length}
use Rattle.sv_flat.specs.Sets.{holds}
use Rattle.sv_flat.specs.Views.{design_of}
use Rattle.sv_obl.specs.Views.{obligation_of}
use Rattle.sv_encoding.specs.Cones.{asked_next}
use Rattle.sv_blast.proofs.ConeStarts.{goal_below, next_below}
use Rattle.sv_blast.proofs.MarkTables.{first_marks}
use Rattle.sv_blast.proofs.cones.next_cone.Goals as goal

pub mark_asked_next-requires-clause-known : goal.mark_asked_next-requires-clause-known
mark_asked_next-requires-clause-known c =
    goal_below c.args.design.now c.in_ok-table.ensures.design (obligation_of c.args.query.now)
    c.requires

pub returns : goal.returns
returns c =
    let flat = c.args.design.now in
    let o = obligation_of c.args.query.now in
    let starts = asked_next (design_of flat) o.goal in
    c.closed.ensures starts (next_below flat c.in_ok-table.ensures.design o c.requires)
    (first_marks (length flat.signals.items) c.as_mut_slice-marks.result.now
    c.mark_asked_next.new.table (holds starts)
    (c.as_mut_slice-marks.ensures.value ∙ c.in_ok-table.ensures.table)
    c.mark_asked_next.auto.table c.mark_asked_next.ensures)
