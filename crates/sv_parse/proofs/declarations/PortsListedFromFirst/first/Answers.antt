use Rattle.sv_parse.proofs.ReadingDeclarations.{port_is}
use Rattle.sv_parse.proofs.declarations.PortsListedFromFirst.first.Goals as goal

pub returns-clause-is : goal.returns-clause-is
returns-clause-is c =
    port_is c.in-Some.kind _ _ _ _ (c.in-Some.ensures.is c.args.input.bytes.now)
    c.in_ok-port.ensures.is
