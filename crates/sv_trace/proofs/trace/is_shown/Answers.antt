use Rattle.std.proofs.Common.{◌<◌, get_or, length, sym, subst, arith}
use Rattle.sv_lattice.specs.declared.points.Point.{Point}
use Rattle.sv_lattice.specs.Labels.{label_of}
use Rattle.sv_trace.proofs.Shown.{readable_at, point_at}
use Rattle.sv_trace.proofs.trace.is_shown.Goals as goal

pub label_at-label-requires : goal.label_at-label-requires
label_at-label-requires c =
    readable_at c.args.design.now c.signals-signals.result.now c.maps.result.now c.args.s.0
    c.index-signals-s.result c.args.table.now c.signals-signals.ensures.signals c.maps.ensures.maps
    c.maps.ensures.design.is_sound c.requires.known c.requires.fit

pub flows-requires-clause-a : goal.flows-requires-clause-a
flows-requires-clause-a c =
    let level = c.requires.level c.in-Some.level c.in-Some.is in
    let some : 0 < length c.args.design.now.lattice = omega (arith, level) in
    subst (λ (p : Point). p.0 < length c.lattice.result.now) (sym c.label_at-label.ensures)
    (subst (λ l. (label_of c.maps.result.now
    (get_or c.signals-signals.result.now c.args.s.0 c.index-signals-s.result).label
    c.args.table.now).0 < length l) (sym c.lattice.ensures.lattice)
    (point_at c.args.design.now c.signals-signals.result.now c.maps.result.now c.args.s.0
    c.index-signals-s.result c.args.table.now c.signals-signals.ensures.signals c.maps.ensures.maps
    c.maps.ensures.design.is_sound c.requires.known some))
