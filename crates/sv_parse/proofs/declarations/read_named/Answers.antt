use Rattle.sv_parse.proofs.ReadingDeclarations.{named_as}
use Rattle.sv_parse.proofs.declarations.read_named.Goals as goal

pub returns-clause-is : goal.returns-clause-is
returns-clause-is c =
    named_as _ _ _ _ _ _ _ _ _ c.declaration.ensures c.in_ok-name.ensures.is
