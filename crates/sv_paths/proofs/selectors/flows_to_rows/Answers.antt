use Rattle.std.proofs.Common.{rules, tests}
use Rattle.std.proofs.lemmas.Iterator.{YieldsList-from_slice}
use Rattle.std.proofs.lemmas.Iterator.Search.{all_from_yields_List}
use Rattle.sv_lattice.specs.declared.points.Point.{Point}
use Rattle.sv_lattice.specs.Tables.{flow_test}
use Rattle.sv_paths.proofs.selectors.flows_to_rows.Goals as goal

pub returns : goal.returns
returns c =
    all_from_yields_List (λ (row : Point). flow_test c.args.lattice.now c.args.point.0 row.0) _ _
    c.all.result c.all.ensures.ran (YieldsList-from_slice c.args.rows.now cc)
    (λ x b q k. search (rules, tests))
