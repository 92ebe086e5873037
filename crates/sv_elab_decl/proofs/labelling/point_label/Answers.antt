use Rattle.std.proofs.Common.{◌≡◌, Some, None, sym, ◌∙◌}
use Rattle.sv_ast.specs.Tree.{point_label}
use Rattle.sv_elab_rules.specs.Rules.{bad_label}
use Rattle.sv_elab_rules.specs.LabelSteps.{label_walk}
use Rattle.sv_width.proofs.Breaches.{breach_by}
use Rattle.sv_elab_decl.specs.Sites.{tables_of}
use Rattle.sv_elab_decl.proofs.LabelEnds.{point_found, point_unknown}
use Rattle.sv_elab_decl.proofs.labelling.point_label.Goals as goal

pub returns-in-Some-clause-found : goal.returns-in-Some-clause-found
returns-in-Some-clause-found c = λ names.
    let is : c.get_index_of.result ≡ Some c.in-Some.index = cc in
    point_found (tables_of c.args.tables.now) names c.args.name.now c.args.place c.in-Some.index
    (sym c.get_index_of.ensures.index ∙ is)

pub returns-in-None-clause-broken : goal.returns-in-None-clause-broken
returns-in-None-clause-broken c = λ names.
    let is : c.get_index_of.result ≡ None = cc in
    let tables = tables_of c.args.tables.now in
    breach_by c.refusal_naming.result (bad_label c.args.place c.args.name.now)
    c.refusal_naming.ensures
    (label_walk tables names (point_label c.args.name.now c.args.place)).end
    (point_unknown tables names c.args.name.now c.args.place
    (sym c.get_index_of.ensures.index ∙ is))
