use Rattle.std.proofs.Common.{◌≡◌, length, refl, sym, ap, ◌∙◌}
use Rattle.std.proofs.lemmas.List.{length-map}
use Rattle.std.proofs.lemmas.Result.{err_from_is_err_and}
use Rattle.sv_ast.specs.Instances.{entry}
use Rattle.sv_ast.specs.Views.{module_tree}
use Rattle.sv_flat.specs.Views.{signal_form}
use Rattle.sv_elab_rules.specs.Declarations.{Site}
use Rattle.sv_elab_rules.specs.InstanceSteps.{Built}
use Rattle.sv_elab_rules.specs.Walks.{Walk}
use Rattle.sv_width.proofs.Breaches.{ok_weaker, err_weaker}
use Rattle.sv_elab_decl.specs.Sites.{SameSite, tables_of, settings_of}
use Rattle.sv_elab.specs.Instances.{Opened, built_form, opened_walk, nothing_built, top_site}
use Rattle.sv_elab.proofs.DeclaredLattices.{breach_on}
use Rattle.sv_elab.proofs.InstanceEnds.{header_stops, opened_same}
use Rattle.sv_elab.proofs.instances.set_up_top.Goals as goal
use Rattle.sv_elab.proofs.instances.set_up_top.Goals.{After-path}

-- the site that the code has
abbrev there : After-path → Site
there c = record (top_site (module_tree c.args.master.now)) {
  path = c.path.result.now;
  set = settings_of c.new-set.result.entries;
}

-- it sets nothing, as that of the walk
same : (c : After-path) → SameSite (top_site (module_tree c.args.master.now)) (there c)
same c = record {
  path = sym (c.path.ensures ∙ c.requires.top);
  master = refl;
  set = λ n. ap (λ es. entry (settings_of es) n) (sym c.new-set.ensures.empty);
}

-- the walk goes on as from what is built
opens : (c : After-path) →
    (opened_walk (tables_of c.args.shared.now.tables) (top_site (module_tree c.args.master.now))
    nothing_built).end
    ≡ (opened_walk (tables_of c.args.shared.now.tables) (there c)
    (built_form c.args.built.now)).end
opens c =
    let tables = tables_of c.args.shared.now.tables in
    ap (λ (w : Walk Opened). w.end) (opened_same tables (top_site (module_tree c.args.master.now))
    (there c) (same c) nothing_built)
    ∙ ap (λ (b : Built). (opened_walk tables (there c) b).end) (sym c.requires.first)

pub returns-in_err-declared-clause-broken : goal.returns-in_err-declared-clause-broken
returns-in_err-declared-clause-broken c =
    let a = (goal.at.returns-in_err-declared-clause-broken c).After-path in
    let tables = tables_of c.args.shared.now.tables in
    let m = module_tree c.args.master.now in
    let p = err_from_is_err_and c.from_residual.result c.from_residual.ensures.1 in
    rw (p.1, p.2) (breach_on c.in_err-declared.field-0.0 _ _
    (header_stops tables (top_site m) (there a) (same a) nothing_built)
    c.in_err-declared.ensures.broken)

pub opened-requires-clause-base : goal.opened-requires-clause-base
opened-requires-clause-base c =
    sym (sym (length-map c.args.built.now.signals.items signal_form)
    ∙ ap (λ (b : Built). length b.signals) c.requires.first)

pub returns-clause-found : goal.returns-clause-found
returns-clause-found c =
    let from = opens (goal.at.returns-clause-found c).After-path in
    ok_weaker c.opened.result _ _ (λ o h. from ∙ h) c.opened.ensures.found

pub returns-clause-broken : goal.returns-clause-broken
returns-clause-broken c =
    let from = opens (goal.at.returns-clause-broken c).After-path in
    err_weaker c.opened.result _ _ (λ f h. breach_on f _ _ (λ s e. from ∙ e) h)
    c.opened.ensures.broken
