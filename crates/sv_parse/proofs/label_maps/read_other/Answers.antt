use Rattle.std.proofs.Common.{[], ◌∷◌, refl}
use Rattle.sv_parse_machine.specs.Symbols.{outer, punctuation, plain_name, rows, end_of_map}
use Rattle.sv_parse_machine.proofs.ReadSteps.{reads_then, reads_before}
use Rattle.sv_parse_machine.proofs.ReadRows.{word_taken}
use Rattle.sv_parse_expr.proofs.Halting.{passed, stops_then, stops_before}
use Rattle.sv_parse.proofs.ReadingSymbols.{ends_rows}
use Rattle.sv_token.specs.declared.signs.SignKind.TheVariants as signs
use Rattle.sv_token.specs.declared.keywords.WordKind.TheVariants as words
use Rattle.sv_parse.proofs.label_maps.read_other.Goals as goal

pub returns-in_ok-point-in-Some-clause-is : goal.returns-in_ok-point-in-Some-clause-is
returns-in_ok-point-in-Some-clause-is c =
    (_, c.in-Some.ensures.is c.args.input.bytes.now, c.in_ok-point-in-Some.ensures.is)

pub returns-in_err-point-in-Some-clause-halts : goal.returns-in_err-point-in-Some-clause-halts
returns-in_err-point-in-Some-clause-halts c = λ ends.
    passed _ _ _ c.from_residual.ensures.1
    (stops_then (outer rows ∷ [])
    (outer (punctuation signs.Colon) ∷ outer plain_name ∷ outer (punctuation signs.Semicolon) ∷
    outer end_of_map ∷ []) _ _ _
    (word_taken rows words.Default
    ((punctuation signs.Colon) ∷ plain_name ∷ (punctuation signs.Semicolon) ∷ end_of_map ∷ []) _
    _ refl (c.in-Some.ensures.is c.args.input.bytes.now))
    (stops_before (outer (punctuation signs.Colon) ∷ outer plain_name ∷
    outer (punctuation signs.Semicolon) ∷ []) (outer end_of_map ∷ []) _ _
    c.in_err-point-in-Some.ensures.halts))

pub returns-in_ok-point-in-Some-clause-reads : goal.returns-in_ok-point-in-Some-clause-reads
returns-in_ok-point-in-Some-clause-reads c = λ ends.
    (reads_then (outer rows ∷ [])
    (outer (punctuation signs.Colon) ∷ outer plain_name ∷ outer (punctuation signs.Semicolon) ∷
    outer end_of_map ∷ []) (outer end_of_map ∷ []) _ _ _
    (word_taken rows words.Default
    ((punctuation signs.Colon) ∷ plain_name ∷ (punctuation signs.Semicolon) ∷ end_of_map ∷ []) _
    _ refl (c.in-Some.ensures.is c.args.input.bytes.now))
    (reads_before (outer (punctuation signs.Colon) ∷ outer plain_name ∷
    outer (punctuation signs.Semicolon) ∷ []) [] (outer end_of_map ∷ []) _ _
    c.in_ok-point-in-Some.ensures.reads))

pub returns-in-None-clause-reads : goal.returns-in-None-clause-reads
returns-in-None-clause-reads c = λ ends.
    (ends_rows _ (c.in-None.ensures.none c.args.input.bytes.now) ends)
