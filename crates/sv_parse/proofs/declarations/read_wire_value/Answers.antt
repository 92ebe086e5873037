use Rattle.std.proofs.Common.{refl, [], ◌∷◌}
use Rattle.sv_token.specs.declared.signs.SignKind.TheVariants as signs
use Rattle.sv_parse_expr.proofs.Halting.{passed, stops_then}
use Rattle.sv_parse_machine.proofs.ReadRows.{sign_taken}
use Rattle.sv_parse_machine.specs.Symbols.{perhaps_value, expression}
use Rattle.sv_parse_machine.proofs.ReadSteps.{reads_then}
use Rattle.sv_parse.proofs.declarations.read_wire_value.Goals as goal

pub returns-in_err-value-in-Some-clause-halts : goal.returns-in_err-value-in-Some-clause-halts
returns-in_err-value-in-Some-clause-halts c =
    passed _ _ _ c.from_residual.ensures.1
    (stops_then _ _ _ _ _
    (sign_taken perhaps_value signs.Equals (expression 0 ∷ []) _ _ refl
    (c.in-Some.ensures.is c.args.input.bytes.now))
    (c.in_err-value-in-Some.ensures.halts))

pub returns-in_ok-value-in-Some-clause-reads : goal.returns-in_ok-value-in-Some-clause-reads
returns-in_ok-value-in-Some-clause-reads c =
    reads_then _ _ _ _ _ _
    (sign_taken perhaps_value signs.Equals (expression 0 ∷ []) _ _ refl
    (c.in-Some.ensures.is c.args.input.bytes.now))
    (c.in_ok-value-in-Some.ensures.reads)

pub returns-in_ok-value-in-Some-clause-is : goal.returns-in_ok-value-in-Some-clause-is
returns-in_ok-value-in-Some-clause-is c =
    (_, c.in-Some.ensures.is c.args.input.bytes.now, c.in_ok-value-in-Some.ensures.is)
