use Rattle.sv_parse.proofs.ReadingDeclarations.{header_parameter_is}
use Rattle.sv_parse_expr.proofs.Halting.{passed, stops_by}
use Rattle.sv_parse_machine.proofs.ReadRows.{halts_header_parameter}
use Rattle.sv_parse.proofs.parameters.HeaderParamsListedFromFirst.first.Goals as goal

pub returns-clause-is : goal.returns-clause-is
returns-clause-is c =
    header_parameter_is _ _ _ _
    (c.in_ok-_place._place, c.in_ok-_place.ensures.is c.args.input.bytes.now)
    c.in_ok-param.ensures.is

pub returns-in_err-_place-clause-halts : goal.returns-in_err-_place-clause-halts
returns-in_err-_place-clause-halts c =
    λ begins. passed _ _ _ c.from_residual.ensures.1
    (stops_by c.args.input.bytes.now c.args.input.rest.now _ _ _ (λ none.
    halts_header_parameter _ none) (c.in_err-_place.ensures.stops c.args.input.bytes.now))
