use Rattle.std.proofs.Common.{max, refl, ap, ◌∙◌, false}
use Rattle.std.proofs.lemmas.Result.{err_from_is_err_and}
use Rattle.sv_ast.specs.Views.{expression_tree}
use Rattle.sv_width.specs.declared.lookups.Setting.TheVariants.{Open}
use Rattle.sv_width.specs.Scopes.{names_of}
use Rattle.sv_width.specs.Views.{measured_tree}
use Rattle.sv_width.proofs.Breaches.{ok_weaker, err_weaker}
use Rattle.sv_width.proofs.Ends.{expression_lengths, known_lengths, setting_known, typed_found}
use Rattle.sv_width.proofs.Ends.{typed_unasked, typed_divided, formed_at, means_at}
use Rattle.sv_width.proofs.typing.typed.Goals as goal

pub returns-in_err-operand-clause-broken : goal.returns-in_err-operand-clause-broken
returns-in_err-operand-clause-broken c =
    let p = err_from_is_err_and c.from_residual.result c.from_residual.ensures.1 in
    rw (p.1, p.2)
    (typed_unasked (names_of c.args.scope.now) (known_lengths c.args.scope.now)
    (setting_known Open c.args.scope.now) (expression_tree c.args.expr.now)
    c.requires.shaped (expression_lengths c.args.expr.now) c.args.target_width
    c.in_err-operand.field-0.0 c.in_err-operand.ensures.broken)

pub returns-clause-found : goal.returns-clause-found
returns-clause-found c =
    ok_weaker c.pushed.result _ _ (λ f h.
    typed_found (names_of c.args.scope.now) (known_lengths c.args.scope.now)
    (setting_known Open c.args.scope.now) (expression_tree c.args.expr.now) c.requires.shaped
    (expression_lengths c.args.expr.now) c.in_ok-operand.ensures.found.0
    (measured_tree c.in_ok-operand.operand) c.in_ok-operand.ensures.found.1 c.args.target_width
    c.max.result c.own_type-own.result.signed f c.requires.few (c.max.ensures
    ∙ ap (λ w. max w c.args.target_width) c.own_type-own.ensures.width)
    c.own_type-own.ensures.signed h) c.pushed.ensures.found

pub returns-clause-formed : goal.returns-clause-formed
returns-clause-formed c =
    ok_weaker c.pushed.result _ _ (λ f h signals has_signals.
    formed_at (names_of c.args.scope.now) (known_lengths c.args.scope.now) false
    (setting_known Open c.args.scope.now) (expression_tree c.args.expr.now) c.requires.shaped
    (expression_lengths c.args.expr.now) c.in_ok-operand.ensures.found.0
    (measured_tree c.in_ok-operand.operand) c.in_ok-operand.ensures.found.1 (λ n.
    refl) signals has_signals c.args.target_width c.max.result c.own_type-own.result.signed f
    c.requires.few (c.max.ensures
    ∙ ap (λ w. max w c.args.target_width) c.own_type-own.ensures.width)
    c.own_type-own.ensures.signed h) c.pushed.ensures.found

pub returns-clause-means : goal.returns-clause-means
returns-clause-means c =
    ok_weaker c.pushed.result _ _ (λ f h signals by_name by_number has_signals has_values.
    means_at (names_of c.args.scope.now) (known_lengths c.args.scope.now) false
    (setting_known Open c.args.scope.now) (expression_tree c.args.expr.now) c.requires.shaped
    (expression_lengths c.args.expr.now) c.in_ok-operand.ensures.found.0
    (measured_tree c.in_ok-operand.operand) c.in_ok-operand.ensures.found.1 (λ n.
    refl) signals has_signals by_name by_number has_values c.args.target_width c.max.result
    c.own_type-own.result.signed f c.requires.few (c.max.ensures
    ∙ ap (λ w. max w c.args.target_width) c.own_type-own.ensures.width)
    c.own_type-own.ensures.signed h) c.pushed.ensures.found

pub returns-clause-broken : goal.returns-clause-broken
returns-clause-broken c =
    err_weaker c.pushed.result _ _ (λ f h.
    typed_divided (names_of c.args.scope.now) (known_lengths c.args.scope.now)
    (setting_known Open c.args.scope.now) (expression_tree c.args.expr.now) c.requires.shaped
    (expression_lengths c.args.expr.now) c.in_ok-operand.ensures.found.0
    (measured_tree c.in_ok-operand.operand) c.in_ok-operand.ensures.found.1 c.args.target_width
    c.max.result c.own_type-own.result.signed f c.requires.few (c.max.ensures
    ∙ ap (λ w. max w c.args.target_width) c.own_type-own.ensures.width)
    c.own_type-own.ensures.signed h) c.pushed.ensures.broken
