use Rattle.std.proofs.Common.{◌≡◌, ℕ, List, [], ◌∷◌, ◌++◌, Option}
use Rattle.std.proofs.Common.{sym, ap, subst, ◌∙◌}
use Rattle.std.specs.Prelude.{Result, Ok, Err, is_some}
use Rattle.std.proofs.lemmas.Result.{err_from_is_err_and}
use Rattle.sv_ast.specs.Scopes.{Number, Binding, parameter}
use Rattle.sv_ast.specs.Views.{parameter_tree, module_tree}
use Rattle.sv_elab_rules.specs.Walks.{WalkStep}
use Rattle.sv_elab_rules.specs.Declarations.{Declared as WalkDeclared, range_steps, override_of}
use Rattle.sv_elab_rules.specs.Declarations.{final_walk, parameter_walk}
use Rattle.sv_elab_rules.specs.Names.{names_at}
use Rattle.sv_width.specs.declared.meanings.Meaning.{Meaning}
use Rattle.sv_width.specs.declared.meanings.Meaning.TheVariants as meaning
use Rattle.sv_width.specs.Scopes.{Known, names_ahead, number_of, meaning_of}
use Rattle.sv_elab_decl.specs.Sites.{site_of, bindings_in, declared_of, signal_count}
use Rattle.sv_elab_decl.specs.Steps.{Stops}
use Rattle.sv_elab_decl.proofs.Faults.{breach_on, breach_twice, stops_at, ok_two, err_two}
use Rattle.sv_elab_decl.proofs.NameLemmas.{bindings_more, bound_is, names_parameter}
use Rattle.sv_elab_decl.proofs.NameLemmas.{count_with_parameter, ranged_is}
use Rattle.sv_elab_decl.proofs.StepLemmas.{parameter_range_stops, value_stops, parameter_twice}
use Rattle.sv_elab_decl.proofs.StepLemmas.{parameter_made}
use Rattle.sv_elab_decl.proofs.parameters.declare_param.Goals as goal

pub returns-in_err-width-clause-stopped : goal.returns-in_err-width-clause-stopped
returns-in_err-width-clause-stopped c =
    let d = declared_of c.args.declared.now in
    let p = parameter_tree c.args.param.now in
    let end = (parameter_walk c.args.site.now.base (site_of c.args.site.now) d p).end in
    let q = err_from_is_err_and c.from_residual.result c.from_residual.ensures.1 in
    rw (q.1, q.2)
    (stops_at c.in_err-width.field-0.0 end c.args.declared.now
    (breach_on c.in_err-width.field-0.0
    (range_steps (names_ahead c.args.declared.now.scope) p.span).end end
    (λ s e. parameter_range_stops c.args.site.now.base (site_of c.args.site.now) d p
    (names_ahead c.args.declared.now.scope) c.requires.so_far.names s e)
    c.in_err-width.ensures.broken))

pub returns-in_err-value-clause-stopped : goal.returns-in_err-value-clause-stopped
returns-in_err-value-clause-stopped c =
    let base = c.args.site.now.base in
    let site = site_of c.args.site.now in
    let d = declared_of c.args.declared.now in
    let p = parameter_tree c.args.param.now in
    let names = names_ahead c.args.declared.now.scope in
    let q = err_from_is_err_and c.from_residual-in_err-value.result
    c.from_residual-in_err-value.ensures.1 in
    rw (q.1, q.2)
    (stops_at c.in_err-value.field-0.0 (parameter_walk base site d p).end c.args.declared.now
    (breach_on c.in_err-value.field-0.0
    (final_walk names (override_of site d.bindings p) p.value).end
    (parameter_walk base site d p).end
    (λ s e. value_stops base site d p names c.requires.so_far.names
    c.in_ok-width.ensures.found.0 s e)
    c.in_err-value.ensures.broken))

pub returns-clause-found : goal.returns-clause-found
returns-clause-found c =
    let old = c.args.declared.now in
    let d = declared_of old in
    let p = parameter_tree c.args.param.now in
    let names = names_ahead old.scope in
    let value = c.in_range-value.result in
    let same : c.in_ok-name.name ≡ p.name = c.in_ok-name.ensures in
    let number = c.in_range-value.ensures
    ∙ ranged_is names.scope p.signed p.span c.in_ok-width.width (number_of c.in_ok-value.value)
    c.in_ok-width.ensures.found.1 in
    ok_two c.add_param.result _ _ _
    (λ added new.
    parameter_made c.args.site.now.base (site_of c.args.site.now) d p names
    c.requires.so_far.names c.in_ok-width.ensures.found.0
    (number_of c.in_ok-value.value) c.in_ok-value.ensures.found
    (bound_is old.scope p.name ∙ ap (λ (n : List ℕ). is_some (meaning_of old.scope n)) (sym same)
    ∙ ap (λ (r : Option Meaning). is_some r) new)
    ∙ ap (λ (bs : List (List ℕ × Binding)). Ok (record { bindings = bs; signals = d.signals }))
    (ap (λ (n : Number). d.bindings ++ (p.name, parameter n) ∷ []) (sym number)
    ∙ ap (λ (n : List ℕ). d.bindings ++ (n, parameter (number_of value)) ∷ []) (sym same)
    ∙ sym (bindings_more old.scope c.in_ok-name.name (meaning.Param value))
    ∙ ap bindings_in (sym added)))
    c.add_param.ensures.added c.add_param.ensures.new

pub returns-clause-so_far : goal.returns-clause-so_far
returns-clause-so_far c =
    let base = c.args.site.now.base in
    let m = module_tree c.args.site.now.master.now in
    let old = c.args.declared.now in
    let value = c.in_range-value.result in
    let name = c.in_ok-name.name in
    ok_two c.add_param.result _ _ _
    (λ added new. record {
      names = subst (λ (k : Known). names_ahead k ≡ names_at base m (bindings_in k)) (sym added)
          (names_parameter base m old.scope c.requires.so_far.names name value);
      counted = ap (λ (k : Known). signal_count (bindings_in k)) added
          ∙ count_with_parameter old.scope name value ∙ c.requires.so_far.counted;
      few = c.requires.so_far.few;
    })
    c.add_param.ensures.added c.add_param.ensures.new

pub returns-clause-stopped : goal.returns-clause-stopped
returns-clause-stopped c =
    let base = c.args.site.now.base in
    let site = site_of c.args.site.now in
    let old = c.args.declared.now in
    let d = declared_of old in
    let p = parameter_tree c.args.param.now in
    let names = names_ahead old.scope in
    let same : c.in_ok-name.name ≡ p.name = c.in_ok-name.ensures in
    let end : Result WalkDeclared WalkStep = (parameter_walk base site d p).end in
    err_two c.add_param.result _ _ _
    (λ f twice unchanged.
    subst (λ (k : Known). Stops end d (record { scope = k; signals = old.signals }) f)
    (sym unchanged)
    (stops_at f end old
    (breach_twice f old.scope c.in_ok-name.name p.place end
    (λ there. parameter_twice base site d p names c.requires.so_far.names
    c.in_ok-width.ensures.found.0
    (number_of c.in_ok-value.value) c.in_ok-value.ensures.found
    (bound_is old.scope p.name ∙ ap (λ (n : List ℕ). is_some (meaning_of old.scope n)) (sym same)
    ∙ there)
    ∙ ap (λ (n : List ℕ). Err (Rattle.sv_elab_rules.specs.Rules.twice p.place n)) (sym same))
    twice)))
    c.add_param.ensures.refusal c.add_param.ensures.unchanged
