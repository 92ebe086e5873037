use Rattle.sv_ast.specs.Views.{map_tree}
use Rattle.sv_elab_rules.specs.Rules.{map_row}
use Rattle.sv_width.proofs.Breaches.{breach_by}
use Rattle.sv_elab.specs.MapParts.{own_walk}
use Rattle.sv_elab.proofs.MapEnds.{ranges_broken}
use Rattle.sv_elab.proofs.maps.label_map.Goals as goal

pub returns-in-None-clause-broken : goal.returns-in-None-clause-broken
returns-in-None-clause-broken c =
    let t = map_tree c.args.text.now in
    breach_by c.refusal_naming.result (map_row t.place t.name) c.refusal_naming.ensures
    (own_walk c.args.points.now.points t).end
    (ranges_broken c.args.points.now.points t c.in-None.ensures)
