use Rattle.std.proofs.Common.{◌≡◌, Option, Some, None, ap, ◌∙◌}
use Rattle.std.specs.Prelude.{Ok, option_map}
use Rattle.sv_lattice.specs.declared.labels.Label.{Label}
use Rattle.sv_ast.specs.declared.declarations.LabelText.{LabelText}
use Rattle.sv_ast.specs.Views.{declaration_tree, label_tree}
use Rattle.sv_elab_rules.specs.LabelSteps.{label_walk, given_label}
use Rattle.sv_width.specs.Scopes.{names_of}
use Rattle.sv_elab_decl.specs.Sites.{tables_of}
use Rattle.sv_elab_decl.proofs.Faults.{breach_on, ok_each, err_each}
use Rattle.sv_elab_decl.proofs.LabelEnds.{label_kept, label_given, label_stops}
use Rattle.sv_elab_decl.proofs.labelling.given_label.Goals as goal
use Rattle.sv_elab_decl.proofs.labelling.given_label.Goals.{In-Some}

-- the label that is given
is_given : (c : In-Some) → (declaration_tree c.args.decl.now).label
    ≡ Some (label_tree c.in-Some.text)
is_given c =
    let is : c.args.decl.now.label ≡ Some c.in-Some.text = cc in
    ap (λ (o : Option LabelText). option_map label_tree o) is

pub returns-in-Some-clause-found : goal.returns-in-Some-clause-found
returns-in-Some-clause-found c =
    ok_each c.label.result _ _
    (λ label h s so_far. label_given (tables_of c.args.tables.now) (names_of c.args.scope.now)
    (declaration_tree c.args.decl.now).label s (label_tree c.in-Some.text) label
    (is_given (goal.at.returns-in-Some-clause-found c).In-Some) h) c.label.ensures.found

pub returns-in-Some-clause-broken : goal.returns-in-Some-clause-broken
returns-in-Some-clause-broken c =
    let tables = tables_of c.args.tables.now in
    let names = names_of c.args.scope.now in
    let d = declaration_tree c.args.decl.now in
    let is = is_given (goal.at.returns-in-Some-clause-broken c).In-Some in
    err_each c.label.result _ _
    (λ f h s. breach_on f (label_walk tables names (label_tree c.in-Some.text)).end
    (given_label tables names d.label s).end
    (λ u e. label_stops tables names d.label s (label_tree c.in-Some.text) u is e) h)
    c.label.ensures.broken

pub returns-in-None-clause-found : goal.returns-in-None-clause-found
returns-in-None-clause-found c = λ s so_far.
    let is : c.args.decl.now.label ≡ None = cc in
    label_kept (tables_of c.args.tables.now) (names_of c.args.scope.now)
    (declaration_tree c.args.decl.now).label s
    (ap (λ (o : Option LabelText). option_map label_tree o) is)
    ∙ ap (λ (l : Label). Ok (record s { label = l })) so_far
