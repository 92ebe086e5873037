use Rattle.sv_token.specs.Lexemes.{placed_tokens}
use Rattle.std.proofs.Common.{[], ◌∷◌, refl}
use Rattle.sv_parse_machine.specs.Symbols.{outer, plain_number, perhaps_second_key}
use Rattle.sv_parse_machine.proofs.ReadSteps.{reads_then}
use Rattle.sv_parse_machine.proofs.ReadRows.{sign_taken}
use Rattle.sv_parse_machine.proofs.SkippedRows.{skips_symbol}
use Rattle.sv_parse_expr.proofs.Halting.{passed, stops_then}
use Rattle.sv_token.specs.declared.signs.SignKind.TheVariants as signs
use Rattle.sv_parse.proofs.label_maps.read_second_key.Goals as goal

pub returns-in_ok-value-in-Some-clause-is : goal.returns-in_ok-value-in-Some-clause-is
returns-in_ok-value-in-Some-clause-is c =
    λ bytes. (
      (placed_tokens bytes c.in-Some.rest.now),
      c.in-Some.ensures.is
          bytes,
      c.in_ok-value-in-Some.ensures.is bytes,
    )

pub returns-in_err-value-in-Some-clause-halts : goal.returns-in_err-value-in-Some-clause-halts
returns-in_err-value-in-Some-clause-halts c = λ bytes.
    passed _ _ _ c.from_residual.ensures.1
    (stops_then (outer perhaps_second_key ∷ []) (outer plain_number ∷ []) _ _ _
    (sign_taken perhaps_second_key signs.Comma (plain_number ∷ []) _ _ refl
    (c.in-Some.ensures.is bytes))
    (c.in_err-value-in-Some.ensures.halts bytes))

pub returns-in_ok-value-in-Some-clause-reads : goal.returns-in_ok-value-in-Some-clause-reads
returns-in_ok-value-in-Some-clause-reads c = λ bytes.
    (reads_then (outer perhaps_second_key ∷ []) (outer plain_number ∷ []) [] _ _ _
    (sign_taken perhaps_second_key signs.Comma (plain_number ∷ []) _ _ refl
    (c.in-Some.ensures.is bytes))
    (c.in_ok-value-in-Some.ensures.reads bytes))

pub returns-in-None-clause-reads : goal.returns-in-None-clause-reads
returns-in-None-clause-reads c = λ bytes.
    (skips_symbol perhaps_second_key tt _ (c.in-None.ensures.none bytes))
