use Rattle.std.proofs.Common.{◌<◌, length, sym, subst, ◌∙◌, arith}
use Rattle.sv_lattice.specs.declared.points.Point.{Point}
use Rattle.sv_encoding_laws.proofs.LabelPoints.{readable_there, point_there, label_seen}
use Rattle.sv_decide.proofs.failing.point_of.Goals as goal

pub label_at-requires : goal.label_at-requires
label_at-requires c =
    readable_there c.args.design.now c.maps.ensures.design c.maps.result.now c.maps.ensures.maps
    c.signals-signals.result.now c.signals-signals.ensures.signals c.args.signal.0
    c.requires.signal c.index-signals-signal.result c.args.values.now c.requires.fit

pub returns-clause-point : goal.returns-clause-point
returns-clause-point c =
    c.label_at.ensures
    ∙ label_seen c.args.design.now c.maps.ensures.design c.maps.result.now c.maps.ensures.maps
    c.signals-signals.result.now c.signals-signals.ensures.signals c.args.signal.0
    c.requires.signal c.index-signals-signal.result c.args.values.now c.requires.fit

pub returns-clause-known : goal.returns-clause-known
returns-clause-known c =
    let lattice = c.lattice-lattice.ensures.lattice in
    let some : 0 < length c.lattice-lattice.result.now =
    (let count = c.size-size.ensures.lattice.count.0 in omega arith) in
    let here = point_there c.args.design.now c.maps.ensures.design c.maps.result.now
    c.maps.ensures.maps c.signals-signals.result.now c.signals-signals.ensures.signals
    c.args.signal.0 c.requires.signal c.index-signals-signal.result c.args.values.now
    c.requires.fit (subst (λ z. 0 < length z) lattice some) in
    subst (λ (p : Point). p.0 < length c.args.design.now.lattice) (sym c.label_at.ensures) here
