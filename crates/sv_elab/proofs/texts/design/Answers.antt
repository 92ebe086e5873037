use Rattle.std.proofs.Common.{sym}
use Rattle.sv_elab.specs.Instances.{built_form}
use Rattle.sv_elab.proofs.TextCode.{design_same}
use Rattle.sv_elab.proofs.texts.design.Goals as goal

pub returns : goal.returns
returns c = λ modules.
    sym (design_same c.args.points c.args.maps.entries modules (built_form c.args.built)
    c.in_ok-points.lattice c.in_ok-points.points.items c.in_ok-maps.maps.items
    c.new.result.items c.in_ok-points.ensures.table c.in_ok-points.ensures.names
    c.in_ok-maps.ensures c.new.ensures.items)
