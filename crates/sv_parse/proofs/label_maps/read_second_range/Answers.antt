use Rattle.sv_token.specs.Lexemes.{placed_tokens}
use Rattle.sv_parse.specs.ReadingItems.{range_tree}
use Rattle.std.proofs.Common.{[], ◌∷◌, refl}
use Rattle.sv_parse_machine.specs.Symbols.{outer, punctuation, plain_number, perhaps_key_range}
use Rattle.sv_parse_machine.proofs.ReadSteps.{reads_then}
use Rattle.sv_parse_machine.proofs.ReadRows.{sign_taken}
use Rattle.sv_parse_machine.proofs.SkippedRows.{skips_symbol}
use Rattle.sv_parse_expr.proofs.Halting.{passed, stops_then}
use Rattle.sv_parse.proofs.ReadingItems.{key_range_is}
use Rattle.sv_token.specs.declared.signs.SignKind.TheVariants as signs
use Rattle.sv_parse.proofs.label_maps.read_second_range.Goals as goal

pub returns-in_ok-range-in-Some-clause-is : goal.returns-in_ok-range-in-Some-clause-is
returns-in_ok-range-in-Some-clause-is c =
    λ bytes. key_range_is (range_tree c.in_ok-range-in-Some.range)
    (placed_tokens bytes c.args.tokens.now) (placed_tokens bytes c.in-Some.rest.now)
    (placed_tokens bytes c.in_ok-range-in-Some.rest.now) (c.in-Some.ensures.is bytes)
    (c.in_ok-range-in-Some.ensures.is bytes)

pub returns-in_err-range-in-Some-clause-halts : goal.returns-in_err-range-in-Some-clause-halts
returns-in_err-range-in-Some-clause-halts c = λ bytes.
    passed _ _ _ c.from_residual.ensures.1
    (stops_then (outer perhaps_key_range ∷ [])
    (outer plain_number ∷ outer (punctuation signs.Colon) ∷ outer plain_number ∷
    outer (punctuation signs.CloseBracket) ∷ []) _ _ _
    (sign_taken perhaps_key_range signs.OpenBracket
    (plain_number ∷ (punctuation signs.Colon) ∷ plain_number ∷
    (punctuation signs.CloseBracket) ∷ []) _ _ refl (c.in-Some.ensures.is bytes))
    (c.in_err-range-in-Some.ensures.halts bytes))

pub returns-in_ok-range-in-Some-clause-reads : goal.returns-in_ok-range-in-Some-clause-reads
returns-in_ok-range-in-Some-clause-reads c = λ bytes.
    (reads_then (outer perhaps_key_range ∷ [])
    (outer plain_number ∷ outer (punctuation signs.Colon) ∷ outer plain_number ∷
    outer (punctuation signs.CloseBracket) ∷ []) [] _ _ _
    (sign_taken perhaps_key_range signs.OpenBracket
    (plain_number ∷ (punctuation signs.Colon) ∷ plain_number ∷
    (punctuation signs.CloseBracket) ∷ []) _ _ refl (c.in-Some.ensures.is bytes))
    (c.in_ok-range-in-Some.ensures.reads bytes))

pub returns-in-None-clause-reads : goal.returns-in-None-clause-reads
returns-in-None-clause-reads c = λ bytes.
    (skips_symbol perhaps_key_range tt _ (c.in-None.ensures.none bytes))
