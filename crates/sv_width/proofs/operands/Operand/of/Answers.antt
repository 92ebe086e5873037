use Rattle.std.proofs.Common.{Bool, subst}
use Rattle.std.proofs.lemmas.Result.{err_from_is_err_and}
use Rattle.sv_ast.specs.Tree.{ExpressionTree}
use Rattle.sv_ast.specs.Views.{expression_tree}
use Rattle.sv_elab_rules.specs.Names.{Names}
use Rattle.sv_elab_rules.specs.ExpressionSteps.{asked}
use Rattle.sv_width.specs.Answers.{IsBreach}
use Rattle.sv_width.specs.Outcomes.{IsMeasure}
use Rattle.sv_width.specs.Scopes.{names_of}
use Rattle.sv_width.specs.Settings.{names_in}
use Rattle.sv_width.proofs.OperandEnds.{operand_found}
use Rattle.sv_width.proofs.operands.Operand.of.Goals as goal

pub returns-clause-found : goal.returns-clause-found
returns-clause-found c =
    let tree : ExpressionTree = expression_tree c.args.expr.now in
    let found : IsMeasure (names_of c.args.scope.now) c.args.constant tree
    c.in_ok-measured.measured =
    subst (λ (n : Names). IsMeasure n c.args.constant tree c.in_ok-measured.measured)
    (c.setting_of.ensures.names c.args.scope.now)
    (subst (λ (b : Bool). IsMeasure (names_in c.setting_of.result c.args.scope.now) b tree
    c.in_ok-measured.measured) c.setting_of.ensures.constant c.in_ok-measured.ensures.found) in
    operand_found c.args.scope.now c.args.constant c.args.expr.now c.in_ok-measured.measured
    c.requires.shaped found

pub returns-in_err-measured-clause-broken : goal.returns-in_err-measured-clause-broken
returns-in_err-measured-clause-broken c =
    let tree : ExpressionTree = expression_tree c.args.expr.now in
    let p = err_from_is_err_and c.from_residual.result c.from_residual.ensures.1 in
    rw (p.1, p.2)
    (subst (λ (n : Names). IsBreach (asked n c.args.constant tree).end c.in_err-measured.field-0.0)
    (c.setting_of.ensures.names c.args.scope.now)
    (subst (λ (b : Bool).
    IsBreach (asked (names_in c.setting_of.result c.args.scope.now) b tree).end
    c.in_err-measured.field-0.0) c.setting_of.ensures.constant c.in_err-measured.ensures.broken))
