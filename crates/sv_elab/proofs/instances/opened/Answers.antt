use Rattle.std.proofs.Common.{◌≡◌, ◌+◌, ◌≤◌, ◌++◌, length, map, sym, ap, ◌∙◌, arith}
use Rattle.std.specs.Prelude.{Ok, is_ok}
use Rattle.std.proofs.lemmas.List.{length-map, map-append}
use Rattle.std.proofs.lemmas.Result.{err_from_is_err_and}
use Rattle.sv_ast.specs.Parts.{declarations}
use Rattle.sv_ast.specs.Views.{module_tree}
use Rattle.sv_flat.specs.Views.{signal_form}
use Rattle.sv_elab_rules.specs.LabelSteps.{labels_walk}
use Rattle.sv_elab_rules.specs.Names.{Names}
use Rattle.sv_elab_decl.specs.Sites.{site_of, tables_of, declared_of}
use Rattle.sv_elab.specs.Instances.{built_form, opened_walk}
use Rattle.sv_elab.proofs.CountLemmas.{all_declared, labels_length, few_either}
use Rattle.sv_elab.proofs.DeclaredLattices.{breach_on}
use Rattle.sv_elab.proofs.OpenedEnds.{labels_broken, names_taken, opened_end}
use Rattle.sv_elab.proofs.instances.opened.Goals as goal

pub labels-requires-clause-signals : goal.labels-requires-clause-signals
labels-requires-clause-signals c =
    let d = c.in_ok-scope.field-0 in
    sym (length-map d.signals.items signal_form)
    ∙ all_declared c.args.site.now.base c.args.tables.now.least.0 (site_of c.args.site.now)
    (module_tree c.args.site.now.master.now)
    (declared_of d) c.in_ok-scope.ensures.found

pub returns-in_err-signals-clause-broken : goal.returns-in_err-signals-clause-broken
returns-in_err-signals-clause-broken c =
    let tables = tables_of c.args.tables.now in
    let site = site_of c.args.site.now in
    let built = built_form c.args.built.now in
    let d = c.in_ok-scope.field-0 in
    let p = err_from_is_err_and c.from_residual-in_err-signals.result
    c.from_residual-in_err-signals.ensures.1 in
    rw (p.1, p.2)
    (breach_on c.in_err-signals.field-0.0 _ (opened_walk tables site built).end
    (λ s h. labels_broken tables site built c.args.site.now.base
    (length-map c.args.built.now.signals.items signal_form ∙ sym c.requires.base)
    (declared_of d) c.in_ok-scope.ensures.found s
    (ap (λ (n : Names).
    (labels_walk tables n (declarations (module_tree c.args.site.now.master.now))
    (map signal_form d.signals.items)).end)
    (sym c.in_ok-scope.ensures.names) ∙ h))
    c.in_err-signals.ensures.broken)

pub invariant_of-built : goal.invariant_of-built
invariant_of-built c =
    let d = c.in_ok-scope.field-0 in
    let m = module_tree c.args.site.now.master.now in
    let old = c.args.built.now.signals.items in
    let after = c.in_ok-signals.signals.items in
    let labelled = labels_length (tables_of c.args.tables.now) _ (declarations m)
    (map signal_form d.signals.items) (map signal_form after) c.in_ok-signals.ensures.found in
    let same : length after ≡ length d.signals.items =
    sym (length-map after signal_form) ∙ labelled ∙ length-map d.signals.items signal_form in
    let few : length old + length after ≤ 4096 =
    omega (arith, c.in_ok-scope.ensures.few, c.requires.base, same) in
    record {
      few_signals =
          few_either (is_ok c.append.result) old after c.append.new.self.items 4096
          c.append.ensures.items few;
      few_instances = c.args.built.now.few_instances;
    }

pub returns-clause-found : goal.returns-clause-found
returns-clause-found c =
    let tables = tables_of c.args.tables.now in
    let site = site_of c.args.site.now in
    let m = module_tree c.args.site.now.master.now in
    let built = built_form c.args.built.now in
    let base = c.args.site.now.base in
    let d = c.in_ok-scope.field-0 in
    let old = c.args.built.now.signals.items in
    let after = c.in_ok-signals.signals.items in
    let names = sym c.in_ok-scope.ensures.names in
    let taken = names_taken d.scope in
    let signals : map signal_form old ++ map signal_form after ≡
    map signal_form c.append.new.self.items =
    sym (map-append signal_form old after)
    ∙ ap (map signal_form) (sym c.in_ok-append.ensures.items) in
    opened_end tables site built base (length-map old signal_form ∙ sym c.requires.base)
    (declared_of d) c.in_ok-scope.ensures.found
    (map signal_form after)
    (ap (λ (n : Names).
    (labels_walk tables n (declarations m) (map signal_form d.signals.items)).end) names
    ∙ c.in_ok-signals.ensures.found)
    ∙ (λ j. Ok (record {
      names = names j;
      taken = taken j;
      built =
          record { signals = signals j; processes = built.processes; instances = built.instances };
    }))
