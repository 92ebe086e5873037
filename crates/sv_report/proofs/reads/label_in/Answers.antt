use Rattle.std.proofs.Common.{◌<◌, length, sym, ap, subst, ◌∙◌, arith}
use Rattle.sv_lattice.specs.declared.points.Point.{Point}
use Rattle.sv_trace.proofs.Shown.{readable_at, point_at}
use Rattle.sv_report.proofs.LabelFacts.{label_seen}
use Rattle.sv_report.proofs.reads.label_in.Goals as goal

pub label_at-requires : goal.label_at-requires
label_at-requires c =
    readable_at c.args.design.now c.signals-signals.result.now c.maps.result.now c.args.s.0
    c.index-signals-s.result c.args.values.now c.signals-signals.ensures.signals
    c.maps.ensures.maps c.maps.ensures.design.is_sound c.requires.known c.requires.fit

pub returns-clause-point : goal.returns-clause-point
returns-clause-point c =
    let least = c.least-least.ensures.point in
    let size = ap length c.lattice.ensures.lattice in
    subst (λ (p : Point). p.0 < length c.args.design.now.lattice) (sym c.label_at.ensures)
    (point_at c.args.design.now c.signals-signals.result.now c.maps.result.now c.args.s.0
    c.index-signals-s.result c.args.values.now c.signals-signals.ensures.signals
    c.maps.ensures.maps c.maps.ensures.design.is_sound c.requires.known (omega (arith, least, size)))

pub returns-clause-label : goal.returns-clause-label
returns-clause-label c =
    c.label_at.ensures
    ∙ label_seen c.args.design.now c.signals-signals.result.now c.maps.result.now c.args.s.0
    c.index-signals-s.result c.args.values.now c.signals-signals.ensures.signals
    c.maps.ensures.maps c.requires.known
