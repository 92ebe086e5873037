use Rattle.sv_parse.proofs.ReadingDeclarations.{typed_port}
use Rattle.sv_parse.proofs.declarations.read_typed_port.Goals as goal

pub returns-clause-is : goal.returns-clause-is
returns-clause-is c =
    typed_port _ _ _ _ _ _ _ _ c.in_ok-of.ensures.is c.in_ok-decl.ensures.is
