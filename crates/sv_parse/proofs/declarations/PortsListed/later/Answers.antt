use Rattle.std.proofs.Common.{inl, inr}
use Rattle.sv_parse.proofs.ReadingDeclarations.{port_is}
use Rattle.sv_parse_expr.proofs.Halting.{passed, stops_then}
use Rattle.sv_parse.proofs.DeclarationRuns.{later_port_alike}
use Rattle.sv_parse.proofs.declarations.PortsListed.later.Goals as goal

pub returns-in-Some-clause-is : goal.returns-in-Some-clause-is
returns-in-Some-clause-is c =
    inl (port_is c.in-Some.kind _ _ _ _ (c.in-Some.ensures.is c.args.input.bytes.now)
    c.in_ok-port.ensures.is)

pub returns-clause-is : goal.returns-clause-is
returns-clause-is c = inr c.in_ok-alike.ensures.is

pub returns-in_err-alike-clause-halts : goal.returns-in_err-alike-clause-halts
returns-in_err-alike-clause-halts c =
    passed _ _ _ c.from_residual-in_err-alike.ensures.1
    (let none = c.in_default.ensures.none c.args.input.bytes.now in
    stops_then _ _ _ _ _ (later_port_alike _ none.0 none.1)
    (c.in_err-alike.ensures.halts))
