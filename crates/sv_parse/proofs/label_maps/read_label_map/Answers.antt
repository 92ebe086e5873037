use Rattle.std.proofs.Common.{[], ◌∷◌, Option, refl, subst, sym}
use Rattle.sv_token.specs.Lexemes.{placed_tokens}
use Rattle.sv_ast.specs.Tree.{SpanTree}
use Rattle.sv_ast.specs.GrammarForms.{perhaps}
use Rattle.sv_ast.specs.GrammarModules.{IsKeyRange}
use Rattle.sv_parse_machine.specs.Symbols.{outer, rows, end_of_map}
use Rattle.sv_parse_machine.proofs.ReadSteps.{reads_then}
use Rattle.sv_parse_machine.proofs.ReadRows.{word_taken, halts_end_of_map}
use Rattle.sv_parse_expr.proofs.Halting.{passed, stops_then, stops_before, stops_by}
use Rattle.sv_parse_stmt.proofs.SymbolsAlike.{word_is_there}
use Rattle.sv_parse.proofs.ReadingSymbols.{map_range, behind_map_range, map_comes, map_range_comes}
use Rattle.sv_parse.proofs.ReadingSymbols.{map_rows_come}
use Rattle.sv_parse.proofs.ReadingItems.{map_is}
use Rattle.sv_token.specs.declared.keywords.WordKind.TheVariants as words
use Rattle.sv_parse.proofs.DeclarationRuns.{and_stop, front_read, front_stop}
use Rattle.sv_parse.proofs.label_maps.read_label_map.Goals as goal

pub returns-in_err-_word-clause-halts : goal.returns-in_err-_word-clause-halts
returns-in_err-_word-clause-halts c = λ is.
    passed _ _ _ c.from_residual.ensures.1
    (word_is_there _ words.Labelmap _ _ _ _ is
    (c.in_err-_word.ensures.stops c.args.input.bytes.now))

pub returns-in_err-name-clause-halts : goal.returns-in_err-name-clause-halts
returns-in_err-name-clause-halts c = λ is.
    passed _ _ _ c.from_residual-in_err-name.ensures.1
    (stops_then _ _ _ _ _
    (map_comes _ _ (c.in_ok-_word._word, c.in_ok-_word.ensures.is c.args.input.bytes.now))
    (front_stop _ _ _ _ c.in_err-name.ensures.halts))

pub returns-in_err-range-clause-halts : goal.returns-in_err-range-clause-halts
returns-in_err-range-clause-halts c = λ is.
    passed _ _ _ c.from_residual-in_err-range.ensures.1
    (stops_then _ _ _ _ _
    (map_comes _ _ (c.in_ok-_word._word, c.in_ok-_word.ensures.is c.args.input.bytes.now))
    (and_stop _ _ _ _ _ c.in_ok-name.ensures.reads
    (stops_before map_range behind_map_range _ _
    (c.in_err-range.ensures.halts c.args.input.bytes.now))))

pub returns-in_err-second-clause-halts : goal.returns-in_err-second-clause-halts
returns-in_err-second-clause-halts c = λ is.
    passed _ _ _ c.from_residual-in_err-second.ensures.1
    (stops_then _ _ _ _ _
    (map_range_comes _ _ _ _
    (c.in_ok-_word._word, c.in_ok-_word.ensures.is c.args.input.bytes.now)
    c.in_ok-name.ensures.reads (c.in_ok-range.ensures.reads c.args.input.bytes.now))
    (front_stop _ _ _ _ (c.in_err-second.ensures.halts c.args.input.bytes.now)))

pub returns-in_err-rows-clause-halts : goal.returns-in_err-rows-clause-halts
returns-in_err-rows-clause-halts c = λ is.
    passed _ _ _ c.from_residual-in_err-rows.ensures.1
    (stops_then _ _ _ _ _
    (map_range_comes _ _ _ _
    (c.in_ok-_word._word, c.in_ok-_word.ensures.is c.args.input.bytes.now)
    c.in_ok-name.ensures.reads (c.in_ok-range.ensures.reads c.args.input.bytes.now))
    (and_stop _ _ _ _ _ (c.in_ok-second.ensures.reads c.args.input.bytes.now)
    (front_stop _ _ _ _ c.in_err-rows.ensures.halts)))

pub returns-in_err-other-clause-halts : goal.returns-in_err-other-clause-halts
returns-in_err-other-clause-halts c = λ is.
    passed _ _ _ c.from_residual-in_err-other.ensures.1
    (stops_then _ _ _ _ _
    (map_rows_come _ _ _ _ (outer rows ∷ [])
    (map_range_comes _ _ _ _
    (c.in_ok-_word._word, c.in_ok-_word.ensures.is c.args.input.bytes.now)
    c.in_ok-name.ensures.reads (c.in_ok-range.ensures.reads c.args.input.bytes.now))
    (c.in_ok-second.ensures.reads c.args.input.bytes.now) c.in_ok-rows.ensures.reads)
    (front_stop _ _ _ _ (c.in_err-other.ensures.halts c.in_ok-rows.ensures.ends)))

pub returns-in_err-_last-clause-halts : goal.returns-in_err-_last-clause-halts
returns-in_err-_last-clause-halts c = λ is.
    passed _ _ _ c.from_residual-in_err-_last.ensures.1
    (stops_then _ _ _ _ _
    (map_rows_come _ _ _ _ (outer end_of_map ∷ [])
    (map_range_comes _ _ _ _
    (c.in_ok-_word._word, c.in_ok-_word.ensures.is c.args.input.bytes.now)
    c.in_ok-name.ensures.reads (c.in_ok-range.ensures.reads c.args.input.bytes.now))
    (c.in_ok-second.ensures.reads c.args.input.bytes.now)
    (reads_then _ _ _ _ _ _ c.in_ok-rows.ensures.reads
    (c.in_ok-other.ensures.reads c.in_ok-rows.ensures.ends)))
    (front_stop _ _ _ _
    (stops_by c.args.input.bytes.now _ (outer end_of_map ∷ []) _ _ (halts_end_of_map _)
    (c.in_err-_last.ensures.stops c.args.input.bytes.now))))

pub returns-clause-reads : goal.returns-clause-reads
returns-clause-reads c = λ is.
    reads_then _ _ _ _ _ _
    (map_rows_come _ _ _ _ (outer end_of_map ∷ [])
    (map_range_comes _ _ _ _
    (c.in_ok-_word._word, c.in_ok-_word.ensures.is c.args.input.bytes.now)
    c.in_ok-name.ensures.reads (c.in_ok-range.ensures.reads c.args.input.bytes.now))
    (c.in_ok-second.ensures.reads c.args.input.bytes.now)
    (reads_then _ _ _ _ _ _ c.in_ok-rows.ensures.reads
    (c.in_ok-other.ensures.reads c.in_ok-rows.ensures.ends)))
    (front_read _ _ _ _
    (word_taken end_of_map words.Endlabelmap [] _ _ refl
    (c.in_ok-_last._last, c.in_ok-_last.ensures.is c.args.input.bytes.now)))

pub returns-clause-is : goal.returns-clause-is
returns-clause-is c =
    map_is _ _ _ _ _ _ _ _ _ (c.in_ok-_word._word, c.in_ok-_word.ensures.is c.args.input.bytes.now)
    c.in_ok-name.ensures.is
    (subst (λ (s : SpanTree). IsKeyRange s
    (placed_tokens c.args.input.bytes.now c.in_ok-name.rest.now)
    (placed_tokens c.args.input.bytes.now c.in_ok-range.rest.now)) (sym c.span_of.ensures)
    (c.in_ok-range.ensures.is c.args.input.bytes.now))
    (subst (λ (s : Option SpanTree).
    perhaps IsKeyRange s (placed_tokens c.args.input.bytes.now c.in_ok-range.rest.now)
    (placed_tokens c.args.input.bytes.now c.in_ok-second.rest.now)) (sym c.perhaps_span.ensures)
    (c.in_ok-second.ensures.is c.args.input.bytes.now)) c.in_ok-rows.ensures.is
    c.in_ok-other.ensures.is (c.in_ok-_last._last, c.in_ok-_last.ensures.is c.args.input.bytes.now)
