use Rattle.std.proofs.Common.{◌≡◌, ◌+◌, sym, ap, ◌∙◌, arith}
use Rattle.std.specs.Prelude.{Err, Some, ℤ}
use Rattle.std.proofs.lemmas.Result.{err_from_is_err_and}
use Rattle.sv_num.specs.declared.faults.Place.{Place}
use Rattle.sv_ast.specs.Values.{natural}
use Rattle.sv_ast.specs.Views.{span_tree}
use Rattle.sv_elab_rules.specs.Rules.{bad_range}
use Rattle.sv_elab_rules.specs.ExpressionSteps.{constant_walk}
use Rattle.sv_elab_rules.specs.Declarations.{range_steps}
use Rattle.sv_width.specs.Scopes.{names_ahead, number_of}
use Rattle.sv_width.proofs.Breaches.{breach_by}
use Rattle.sv_elab_decl.proofs.Faults.{breach_on}
use Rattle.sv_elab_decl.proofs.StepLemmas.{constant_is, whole_is, high_stops, low_stops}
use Rattle.sv_elab_decl.proofs.StepLemmas.{range_refused, range_passed}
use Rattle.sv_elab_decl.proofs.ranges.range_width.Goals as goal

pub returns-in_err-high-clause-broken : goal.returns-in_err-high-clause-broken
returns-in_err-high-clause-broken c =
    let names = names_ahead c.args.scope.now in
    let span = span_tree c.args.span.now in
    let p = err_from_is_err_and c.from_residual.result c.from_residual.ensures.1 in
    rw (p.1, p.2)
    (breach_on c.in_err-high.field-0.0 (constant_walk names span.high).end
    (range_steps names (Some span)).end
    (λ s e. high_stops names span s e) c.in_err-high.ensures.broken)

pub returns-in_err-low-clause-broken : goal.returns-in_err-low-clause-broken
returns-in_err-low-clause-broken c =
    let names = names_ahead c.args.scope.now in
    let span = span_tree c.args.span.now in
    let p = err_from_is_err_and c.from_residual-in_err-low.result
    c.from_residual-in_err-low.ensures.1 in
    rw (p.1, p.2)
    (breach_on c.in_err-low.field-0.0 (constant_walk names span.low).end
    (range_steps names (Some span)).end
    (λ s e. low_stops names span (number_of c.in_ok-high.high) c.in_ok-high.ensures.found s e)
    c.in_err-low.ensures.broken)

pub returns-in-Some-clause-found : goal.returns-in-Some-clause-found
returns-in-Some-clause-found c =
    let names = names_ahead c.args.scope.now in
    let span = span_tree c.args.span.now in
    let high = number_of c.in_ok-high.high in
    let low = number_of c.in_ok-low.low in
    let is = c.in-Some.ensures in
    let wide : c.in-Some.width ≡ natural (Rattle.sv_num.specs.Vectors.number_of c.in_ok-high.high)
    + 1 = is.1 in (
      range_passed names span high c.in_ok-high.ensures.found low c.in_ok-low.ensures.found is.0,
      is.1 ∙ ap (λ (z : ℤ). natural z + 1)
          (whole_is names span.high high
          (constant_is names span.high high c.in_ok-high.ensures.found)),
      omega arith,
      is.2,
    )

pub returns-in-None-clause-broken : goal.returns-in-None-clause-broken
returns-in-None-clause-broken c =
    let names = names_ahead c.args.scope.now in
    let span = span_tree c.args.span.now in
    breach_by c.refusal.result (bad_range c.place.result) c.refusal.ensures
    (range_steps names (Some span)).end
    (range_refused names span (number_of c.in_ok-high.high) c.in_ok-high.ensures.found
    (number_of c.in_ok-low.low) c.in_ok-low.ensures.found c.in-None.ensures
    ∙ ap (λ (p : Place). Err (bad_range p)) (sym c.place.ensures))
