use Rattle.std.proofs.Common.{◌≡◌, ◌+◌, List, [], length, map, refl, sym, ◌∙◌, arith}
use Rattle.std.specs.Prelude.{Ok}
use Rattle.std.proofs.lemmas.List.{length-map}
use Rattle.std.proofs.lemmas.Result.{err_from_is_err_and}
use Rattle.sv_ast.specs.Views.{instance_tree, module_tree}
use Rattle.sv_flat.specs.Design.{ProcessForm}
use Rattle.sv_flat.specs.Views.{signal_form, process_form}
use Rattle.sv_elab_rules.specs.Declarations.{Site}
use Rattle.sv_elab_rules.specs.InstanceSteps.{ports_of}
use Rattle.sv_elab_rules.specs.Links.{links_walk}
use Rattle.sv_width.specs.Scopes.{names_of}
use Rattle.sv_width.proofs.Breaches.{ok_weaker, err_weaker}
use Rattle.sv_elab_decl.specs.Sites.{SameSite, tables_of, settings_of}
use Rattle.sv_elab.specs.Instances.{built_form, opened_walk, set_up_walk}
use Rattle.sv_elab.proofs.DeclaredLattices.{breach_on}
use Rattle.sv_elab.proofs.InstanceCode.{unset, unlinked, from_opened}
use Rattle.sv_elab.proofs.instances.set_up.Goals as goal
use Rattle.sv_elab.proofs.instances.set_up.Goals.{After-len}

-- the site that the code has
abbrev there : After-len → Site
there c = record {
  path = c.path.result.now;
  around = [];
  master = module_tree c.args.master.now;
  set = settings_of c.in_ok-set.set.entries;
}

-- it sets the same as that of the walk
same : (c : After-len) → SameSite (record {
  path = c.args.nest.now.path;
  around = [];
  master = module_tree c.args.master.now;
  set = c.in_ok-set.ensures.found.0;
}) (there c)
same c = record { path = sym c.path.ensures; master = refl; set = c.in_ok-set.ensures.found.2 }

sized : (c : After-len) →
    length (map signal_form c.args.built.now.signals.items) ≡ c.len.result
sized c =
    let signals = c.args.built.now.signals in
    omega (arith, length-map signals.items signal_form, signals.ok.0)

-- the walk goes on behind the links
opens : (c : After-len) (ps : List ProcessForm)
    → (links_walk (names_of c.args.outer.now)
    (ports_of c.args.shared.now.tables.least.0 (there c) c.len.result)
    (built_form c.args.built.now).processes (instance_tree c.args.instance.now).links).end ≡ Ok ps
    → (set_up_walk (tables_of c.args.shared.now.tables) (names_of c.args.outer.now)
    c.args.nest.now.path (module_tree c.args.master.now) (built_form c.args.built.now)
    (instance_tree c.args.instance.now)).end
    ≡ (opened_walk (tables_of c.args.shared.now.tables) (there c) (record {
      signals = (built_form c.args.built.now).signals;
      processes = ps;
      instances = (built_form c.args.built.now).instances + 1;
    })).end
opens c ps h =
    from_opened (tables_of c.args.shared.now.tables) (names_of c.args.outer.now)
    c.args.nest.now.path (module_tree c.args.master.now) (built_form c.args.built.now)
    (instance_tree c.args.instance.now) c.in_ok-set.ensures.found.0 c.in_ok-set.ensures.found.1
    (there c) (same c) c.len.result (sized c) ps h

pub returns-in_err-set-clause-broken : goal.returns-in_err-set-clause-broken
returns-in_err-set-clause-broken c =
    let p = err_from_is_err_and c.from_residual.result c.from_residual.ensures.1 in
    rw (p.1, p.2) (breach_on c.in_err-set.field-0.0 _ _
    (unset (tables_of c.args.shared.now.tables) (names_of c.args.outer.now) c.args.nest.now.path
    (module_tree c.args.master.now) (built_form c.args.built.now)
    (instance_tree c.args.instance.now))
    c.in_err-set.ensures.broken)

pub returns-in_err-declared-clause-broken : goal.returns-in_err-declared-clause-broken
returns-in_err-declared-clause-broken c =
    let a = (goal.at.returns-in_err-declared-clause-broken c).After-len in
    let tables = tables_of c.args.shared.now.tables in
    let outer = names_of c.args.outer.now in
    let m = module_tree c.args.master.now in
    let built = built_form c.args.built.now in
    let i = instance_tree c.args.instance.now in
    let path = c.args.nest.now.path in
    let p = err_from_is_err_and c.from_residual-in_err-declared.result
    c.from_residual-in_err-declared.ensures.1 in
    rw (p.1, p.2) (breach_on c.in_err-declared.field-0.0 _ _
    (unlinked tables outer path m built i c.in_ok-set.ensures.found.0 c.in_ok-set.ensures.found.1
    (there a) (same a) c.len.result (sized a))
    c.in_err-declared.ensures.broken)

pub returns-clause-found : goal.returns-clause-found
returns-clause-found c =
    let a = (goal.at.returns-clause-found c).After-len in
    let from = opens a (map process_form c.linked.new.processes.items)
    c.in_ok-declared.ensures.found in
    ok_weaker c.opened.result _ _ (λ o h. from ∙ h) c.opened.ensures.found

pub returns-clause-broken : goal.returns-clause-broken
returns-clause-broken c =
    let a = (goal.at.returns-clause-broken c).After-len in
    let from = opens a (map process_form c.linked.new.processes.items)
    c.in_ok-declared.ensures.found in
    err_weaker c.opened.result _ _ (λ f h. breach_on f _ _ (λ s e. from ∙ e) h)
    c.opened.ensures.broken
