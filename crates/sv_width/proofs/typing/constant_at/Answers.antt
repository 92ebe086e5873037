use Rattle.sv_ast.specs.Views.{expression_tree}
use Rattle.sv_width.specs.Settings.{names_in}
use Rattle.sv_width.proofs.Breaches.{ok_weaker, err_weaker}
use Rattle.sv_width.proofs.Ends.{constant_found, constant_broken}
use Rattle.sv_width.proofs.typing.constant_at.Goals as goal

pub returns-clause-found : goal.returns-clause-found
returns-clause-found c =
    ok_weaker c.measured_constant.result _ _ (λ bits h.
    constant_found (names_in c.args.setting c.args.scope.now) (expression_tree c.args.expr.now) bits
    h)
    c.measured_constant.ensures.found

pub returns-clause-broken : goal.returns-clause-broken
returns-clause-broken c =
    err_weaker c.measured_constant.result _ _ (λ f h.
    constant_broken (names_in c.args.setting c.args.scope.now) (expression_tree c.args.expr.now) f
    h)
    c.measured_constant.ensures.broken
