use Rattle.sv_encoding.specs.Labels.{point_literals}
use Rattle.sv_blast.specs.LabelViews.{label_form}
use Rattle.sv_blast.specs.LabelSteps.{points_below}
use Rattle.sv_blast.proofs.PointSteps.{PointsAt, those_from, is_among}
use Rattle.sv_blast.proofs.labels.point_literals.Given as goal

abbrev pub invariant-points : goal.invariant-points
invariant-points l =
    PointsAt (point_literals l.fn.table l.fn.selector (points_below l.fn.points l.fn.table) l.fn.gates)
    l.table l.selector (those_from l.number l.points (is_among l.table)) l.fn.gates l.gates l.points
    (label_form l.label.items)
