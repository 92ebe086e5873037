use Rattle.sv_parse_expr.proofs.Halting.{passed}
use Rattle.sv_parse.proofs.ReadingDeclarations.{alike_port, named_as}
use Rattle.sv_ast.specs.Views.{declaration_tree}
use Rattle.sv_parse.proofs.declarations.read_named_alike.Goals as goal

pub returns-clause-is : goal.returns-clause-is
returns-clause-is c =
    alike_port (declaration_tree c.args.before.now) _ _ _ _ _ _ c.in_ok-of.ensures
    (named_as _ _ _ _ _ _ _ _ _ c.declaration.ensures c.in_ok-name.ensures.is)

pub returns-in_err-name-clause-halts : goal.returns-in_err-name-clause-halts
returns-in_err-name-clause-halts c =
    passed _ _ _ c.from_residual.ensures.1 c.in_err-name.ensures.halts
