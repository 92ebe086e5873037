use Rattle.std.proofs.Common.{◌∙◌, length}
use Rattle.sv_flat.specs.Sets.{holds}
use Rattle.sv_flat.specs.Views.{design_of}
use Rattle.sv_obl.specs.Views.{obligation_of}
use Rattle.sv_blast.specs.NamedMarks.{starts_now}
use Rattle.sv_blast.proofs.ConeStarts.{now_below}
use Rattle.sv_blast.proofs.MarkTables.{first_marks}
use Rattle.sv_blast.proofs.cones.now_cone.Goals as goal

pub returns : goal.returns
returns c =
    let flat = c.args.design.now in
    let o = obligation_of c.args.query.now in
    let starts = starts_now (design_of flat) o in
    c.closed.ensures starts (now_below flat c.in_ok-table.ensures.design o c.requires.query)
    (first_marks (length flat.signals.items) c.as_mut_slice-marks.result.now
    c.mark_starts.new.table (holds starts)
    (c.as_mut_slice-marks.ensures.value ∙ c.in_ok-table.ensures.table)
    c.mark_starts.auto.table c.mark_starts.ensures)
