use Rattle.sv_parse.proofs.ReadingDeclarations.{wire_like}
use Rattle.sv_ast.specs.Views.{declaration_tree}
use Rattle.sv_parse.proofs.declarations.WiresListed.later.Goals as goal

pub returns-clause-is : goal.returns-clause-is
returns-clause-is c =
    wire_like (declaration_tree c.args.before.now) _ _ _ _ _ _ c.in_ok-of.ensures
    c.in_ok-wire.ensures.is
