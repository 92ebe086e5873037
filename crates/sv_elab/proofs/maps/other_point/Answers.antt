use Rattle.std.proofs.Common.{ap, sym, ◌∙◌}
use Rattle.sv_ast.specs.Views.{map_tree}
use Rattle.sv_elab_rules.specs.Rules.{map_row}
use Rattle.sv_elab_rules.specs.LabelMaps.{default_walk}
use Rattle.sv_width.proofs.Breaches.{breach_by}
use Rattle.sv_elab.proofs.MapLemmas.{other_none, other_found, other_broken}
use Rattle.sv_elab.proofs.maps.other_point.Goals as goal

pub returns-in-None-clause-found : goal.returns-in-None-clause-found
returns-in-None-clause-found c =
    let t = map_tree c.args.text.now in
    ap (λ o. (default_walk c.args.points.now.points t o).end) c.in-None.is
    ∙ other_none c.args.points.now.points t

pub returns-in-Some-find-clause-found : goal.returns-in-Some-find-clause-found
returns-in-Some-find-clause-found c =
    let t = map_tree c.args.text.now in
    ap (λ o. (default_walk c.args.points.now.points t o).end) c.in-Some.is
    ∙ other_found c.args.points.now.points t c.in-Some.name c.in-Some-find.point.0
    (sym c.in-Some-find.ensures)

pub returns-in-None-find-clause-broken : goal.returns-in-None-find-clause-broken
returns-in-None-find-clause-broken c =
    let t = map_tree c.args.text.now in
    breach_by c.refusal_naming.result (map_row t.place t.name) c.refusal_naming.ensures
    (default_walk c.args.points.now.points t t.other).end
    (ap (λ o. (default_walk c.args.points.now.points t o).end) c.in-Some.is
    ∙ other_broken c.args.points.now.points t c.in-Some.name (sym c.in-None-find.ensures))
