use Rattle.sv_parse.proofs.ReadingDeclarations.{typed_parameter}
use Rattle.sv_parse.proofs.parameters.read_typed_param.Goals as goal

pub returns-clause-is : goal.returns-clause-is
returns-clause-is c =
    typed_parameter _ _ _ _ _ _ _ c.in_ok-signed.ensures.is c.in_ok-param.ensures.is
