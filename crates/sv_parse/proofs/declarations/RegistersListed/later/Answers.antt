use Rattle.sv_parse.proofs.ReadingDeclarations.{alike_register}
use Rattle.sv_ast.specs.Views.{declaration_tree}
use Rattle.sv_parse.proofs.declarations.RegistersListed.later.Goals as goal

pub returns-clause-is : goal.returns-clause-is
returns-clause-is c =
    alike_register (declaration_tree c.args.before.now) _ _ _ c.in_ok-register.ensures.is
