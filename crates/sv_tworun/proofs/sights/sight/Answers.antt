use Rattle.std.proofs.Common.{length, ap, arith}
use Rattle.sv_lattice.specs.declared.points.Point.{Point}
use Rattle.sv_encoding_laws.proofs.LabelPoints.{readable_there, point_there}
use Rattle.sv_tworun.proofs.sights.sight.Goals as goal

pub label_at-label-requires : goal.label_at-label-requires
label_at-label-requires c =
    readable_there c.args.design.now c.maps.ensures.design c.maps.result.now c.maps.ensures.maps
    c.signals.result.now c.signals.ensures.signals c.args.signal.0 c.requires.signal
    c.index-signals-place.result c.args.values.now c.requires.fit

pub flows-requires-clause-a : goal.flows-requires-clause-a
flows-requires-clause-a c =
    let here = point_there c.args.design.now c.maps.ensures.design c.maps.result.now
    c.maps.ensures.maps c.signals.result.now c.signals.ensures.signals c.args.signal.0
    c.requires.signal c.index-signals-place.result c.args.values.now c.requires.fit
    (let some = c.requires.level in omega arith) in
    let is = ap (λ (p : Point). p.0) c.label_at-label.ensures in
    let size = ap length c.lattice.ensures.lattice in
    omega (arith, is, size, here)
