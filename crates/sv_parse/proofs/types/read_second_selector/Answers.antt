use Rattle.std.proofs.Common.{refl, [], ◌∷◌}
use Rattle.sv_token.specs.declared.signs.SignKind.TheVariants as signs
use Rattle.sv_parse_expr.proofs.Halting.{passed, stops_then}
use Rattle.sv_parse_machine.proofs.ReadRows.{sign_taken}
use Rattle.sv_parse_machine.specs.Symbols.{perhaps_second_name, plain_name}
use Rattle.sv_parse_machine.proofs.ReadSteps.{reads_then}
use Rattle.sv_parse.proofs.types.read_second_selector.Goals as goal

pub returns-in_err-name-in-Some-clause-halts : goal.returns-in_err-name-in-Some-clause-halts
returns-in_err-name-in-Some-clause-halts c =
    passed _ _ _ c.from_residual.ensures.1
    (stops_then _ _ _ _ _
    (sign_taken perhaps_second_name signs.Comma (plain_name ∷ []) _ _ refl
    (c.in-Some.ensures.is c.args.input.bytes.now))
    (c.in_err-name-in-Some.ensures.halts))

pub returns-in_ok-name-in-Some-clause-reads : goal.returns-in_ok-name-in-Some-clause-reads
returns-in_ok-name-in-Some-clause-reads c =
    reads_then _ _ _ _ _ _
    (sign_taken perhaps_second_name signs.Comma (plain_name ∷ []) _ _ refl
    (c.in-Some.ensures.is c.args.input.bytes.now))
    (c.in_ok-name-in-Some.ensures.reads)

pub returns-in_ok-name-in-Some-clause-is : goal.returns-in_ok-name-in-Some-clause-is
returns-in_ok-name-in-Some-clause-is c = (
  _,
  c.in-Some.ensures.is c.args.input.bytes.now,
  (
    c.in_ok-name-in-Some._at,
    c.in_ok-name-in-Some.ensures.is,
  ),
)
