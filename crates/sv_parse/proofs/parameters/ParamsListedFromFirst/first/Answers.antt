use Rattle.sv_parse.proofs.ReadingDeclarations.{parameter_is}
use Rattle.sv_parse.proofs.parameters.ParamsListedFromFirst.first.Goals as goal

pub returns-clause-is : goal.returns-clause-is
returns-clause-is c =
    parameter_is _ _ _ _ _ (c.in_ok-local.ensures.is c.args.input.bytes.now)
    c.in_ok-param.ensures.is
