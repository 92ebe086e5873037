use Rattle.std.proofs.Common.{◌≡◌, ℕ, true, false, sym, ap, ◌∙◌}
use Rattle.std.specs.Prelude.{Option, Ok, ◌==◌}
use Rattle.std.proofs.lemmas.Result.{err_from_is_err_and}
use Rattle.sv_lattice.specs.declared.labels.Label.TheVariants.{Table}
use Rattle.sv_ast.specs.Instances.{is_signal}
use Rattle.sv_elab_rules.specs.Walks.{ask}
use Rattle.sv_elab_rules.specs.Rules.{bad_label}
use Rattle.sv_elab_rules.specs.LabelSteps.{second_selector, second_fits, label_walk}
use Rattle.sv_width.specs.Scopes.{bindings_of, names_of}
use Rattle.sv_width.proofs.Breaches.{breach_by}
use Rattle.sv_elab_decl.specs.Selectors.{map_label}
use Rattle.sv_elab_decl.specs.Sites.{tables_of}
use Rattle.sv_elab_decl.proofs.Faults.{breach_on}
use Rattle.sv_elab_decl.proofs.LabelEnds.{selector_asked, map_unknown, first_stops, second_stops}
use Rattle.sv_elab_decl.proofs.LabelEnds.{number_differs, first_misfits, second_misfits, row_made}
use Rattle.sv_elab_decl.proofs.labelling.table_label.Goals as goal

pub returns-in_default-clause-broken : goal.returns-in_default-clause-broken
returns-in_default-clause-broken c =
    let tables = tables_of c.args.tables.now in
    let names = names_of c.args.scope.now in
    let text = c.args.text.now in
    breach_by c.refusal_naming.result (bad_label text.place text.name.now) c.refusal_naming.ensures
    (label_walk tables names (map_label text)).end
    (map_unknown tables names text.name.now text.first.now text.second.now text.place
    c.in_default.ensures)

pub returns-in_err-first_signal-clause-broken : goal.returns-in_err-first_signal-clause-broken
returns-in_err-first_signal-clause-broken c =
    let tables = tables_of c.args.tables.now in
    let names = names_of c.args.scope.now in
    let text = c.args.text.now in
    let q = err_from_is_err_and c.from_residual.result c.from_residual.ensures.1 in
    rw (q.1, q.2)
    (breach_on c.in_err-first_signal.field-0.0
    (ask (is_signal (names.scope text.first.now)) (bad_label text.place text.first.now)).end
    (label_walk tables names (map_label text)).end
    (λ s e. first_stops tables names text.name.now text.first.now text.second.now text.place
    c.in-Some.found.number c.in-Some.ensures.0 s e)
    c.in_err-first_signal.ensures.broken)

pub returns-in_err-second_signal-clause-broken : goal.returns-in_err-second_signal-clause-broken
returns-in_err-second_signal-clause-broken c =
    let tables = tables_of c.args.tables.now in
    let names = names_of c.args.scope.now in
    let text = c.args.text.now in
    let q = err_from_is_err_and c.from_residual-in_err-second_signal.result
    c.from_residual-in_err-second_signal.ensures.1 in
    rw (q.1, q.2)
    (breach_on c.in_err-second_signal.field-0.0
    (second_selector names text.place text.second.now).end
    (label_walk tables names (map_label text)).end
    (λ s e. second_stops tables names text.name.now text.first.now text.second.now text.place
    c.in-Some.found.number c.in-Some.ensures.0
    (selector_asked c.args.scope.now text.first.now c.in_ok-first_signal.first_signal
    (bad_label text.place text.first.now) c.in_ok-first_signal.ensures.found) s e)
    c.in_err-second_signal.ensures.broken)

pub returns-then-not-same_number-clause-broken : goal.returns-then-not-same_number-clause-broken
returns-then-not-same_number-clause-broken c =
    let tables = tables_of c.args.tables.now in
    let known = c.args.scope.now in
    let text = c.args.text.now in
    let wrong : c.same_number.result ≡ false = cc in
    breach_by c.refusal_naming-then-not-same_number.result (bad_label text.place text.name.now)
    c.refusal_naming-then-not-same_number.ensures
    (label_walk tables (names_of known) (map_label text)).end
    (number_differs tables known text c.in-Some.found c.in-Some.ensures
    c.in_ok-first_signal.first_signal c.in_ok-first_signal.ensures.found
    c.in_ok-second_signal.second_signal c.in_ok-second_signal.ensures.found
    (sym c.same_number.ensures ∙ wrong))

pub returns-in_err-fits-clause-broken : goal.returns-in_err-fits-clause-broken
returns-in_err-fits-clause-broken c =
    let tables = tables_of c.args.tables.now in
    let known = c.args.scope.now in
    let text = c.args.text.now in
    let right : c.same_number.result ≡ true = cc in
    let s = c.in_ok-first_signal.first_signal in
    let q = err_from_is_err_and c.from_residual-in_err-fits.result
    c.from_residual-in_err-fits.ensures.1 in
    rw (q.1, q.2)
    (breach_on c.in_err-fits.field-0.0
    (ask (s.width == c.in-Some.found.first) (bad_label text.place text.first.now)).end
    (label_walk tables (names_of known) (map_label text)).end
    (first_misfits tables known text c.in-Some.found c.in-Some.ensures
    s c.in_ok-first_signal.ensures.found
    c.in_ok-second_signal.second_signal c.in_ok-second_signal.ensures.found
    (sym c.same_number.ensures ∙ right))
    c.in_err-fits.ensures.broken)

pub returns-in_err-second_fits-clause-broken : goal.returns-in_err-second_fits-clause-broken
returns-in_err-second_fits-clause-broken c =
    let tables = tables_of c.args.tables.now in
    let known = c.args.scope.now in
    let names = names_of known in
    let text = c.args.text.now in
    let right : c.same_number.result ≡ true = cc in
    let q = err_from_is_err_and c.from_residual-in_err-second_fits.result
    c.from_residual-in_err-second_fits.ensures.1 in
    rw (q.1, q.2)
    (breach_on c.in_err-second_fits.field-0.0
    (second_fits names text.place text.second.now c.in-Some.found.second).end
    (label_walk tables names (map_label text)).end
    (second_misfits tables known text c.in-Some.found c.in-Some.ensures
    c.in_ok-first_signal.first_signal c.in_ok-first_signal.ensures.found
    c.in_ok-second_signal.second_signal c.in_ok-second_signal.ensures.found
    (sym c.same_number.ensures ∙ right) c.in_ok-fits.ensures.asked)
    (c.in_err-second_fits.ensures.broken known c.in_ok-second_signal.ensures.found))

pub returns-clause-found : goal.returns-clause-found
returns-clause-found c =
    let known = c.args.scope.now in
    let right : c.same_number.result ≡ true = cc in
    let found = c.in-Some.found in
    let s = c.in_ok-first_signal.first_signal in
    row_made (tables_of c.args.tables.now) known c.args.text.now found c.in-Some.ensures
    s c.in_ok-first_signal.ensures.found
    c.in_ok-second_signal.second_signal c.in_ok-second_signal.ensures.found
    (sym c.same_number.ensures ∙ right) c.in_ok-fits.ensures.asked
    (c.in_ok-second_fits.ensures.asked known c.in_ok-second_signal.ensures.found)
    ∙ ap (λ (o : Option ℕ). Ok (Table found.number s.signal.0 o)) (sym c.second_number.ensures)
