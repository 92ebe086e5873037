use Rattle.std.proofs.Common.{ap, ◌∙◌}
use Rattle.sv_elab_rules.specs.Lattices.{PointOrder, least_point}
use Rattle.sv_elab.proofs.LeastLemmas.{least_is}
use Rattle.sv_elab.proofs.lattices.Points.least.Goals as goal

pub returns : goal.returns
returns c =
    least_is c.self.inside.lattice c.least.ensures.lattice c.least.result.0 c.least.ensures.point
    c.least.ensures.least
    ∙ ap (λ (o : PointOrder). least_point o.table) c.self.view_is
