use Rattle.std.proofs.Common.{[], ◌∷◌, refl, ap, ◌∙◌, map}
use Rattle.sv_parse_machine.specs.Symbols.{outer, punctuation, plain_name, more_names, lattice_lines}
use Rattle.sv_parse_machine.specs.Symbols.{less_equal}
use Rattle.sv_parse_machine.proofs.ReadSteps.{reads_then, reads_before}
use Rattle.sv_parse_machine.proofs.ReadRows.{word_taken}
use Rattle.sv_parse_expr.proofs.Halting.{passed, stops_then, stops_before}
use Rattle.sv_parse.proofs.ReadingSymbols.{begins_pair}
use Rattle.sv_parse.proofs.ReadingItems.{points_more, pair_more}
use Rattle.sv_token.specs.declared.signs.SignKind.TheVariants as signs
use Rattle.sv_token.specs.declared.keywords.WordKind.TheVariants as words
use Rattle.std.proofs.lemmas.List.{map-append, map_push}
use Rattle.sv_ast.specs.Views.{placed_name, pair_tree}
use Rattle.sv_parse.proofs.lattices.read_line.Goals as goal

pub returns-in_err-more-in-Some-clause-halts : goal.returns-in_err-more-in-Some-clause-halts
returns-in_err-more-in-Some-clause-halts c = λ no_end.
    passed _ _ _ c.from_residual.ensures.1
    (stops_then (outer lattice_lines ∷ [])
    (outer plain_name ∷ outer (more_names signs.Semicolon) ∷ outer lattice_lines ∷ []) _ _ _
    (word_taken lattice_lines words.Point
    (plain_name ∷ (more_names signs.Semicolon) ∷ lattice_lines ∷ []) _ _ refl
    (c.in-Some.ensures.is c.args.input.bytes.now))
    (stops_before (outer plain_name ∷ outer (more_names signs.Semicolon) ∷ [])
    (outer lattice_lines ∷ []) _ _ c.in_err-more-in-Some.ensures.halts))

pub returns-in_ok-append-in-Some-clause-reads : goal.returns-in_ok-append-in-Some-clause-reads
returns-in_ok-append-in-Some-clause-reads c = λ no_end.
    (reads_then (outer lattice_lines ∷ [])
    (outer plain_name ∷ outer (more_names signs.Semicolon) ∷ outer lattice_lines ∷ [])
    (outer lattice_lines ∷ []) _ _ _
    (word_taken lattice_lines words.Point
    (plain_name ∷ (more_names signs.Semicolon) ∷ lattice_lines ∷ []) _ _ refl
    (c.in-Some.ensures.is c.args.input.bytes.now))
    (reads_before (outer plain_name ∷ outer (more_names signs.Semicolon) ∷ []) []
    (outer lattice_lines ∷ []) _ _ c.in_ok-more-in-Some.ensures.reads))

pub returns-in_err-pair-in-None-clause-halts : goal.returns-in_err-pair-in-None-clause-halts
returns-in_err-pair-in-None-clause-halts c = λ no_end.
    passed _ _ _ c.from_residual-in_err-pair-in-None.ensures.1
    (stops_then (outer lattice_lines ∷ [])
    (outer plain_name ∷ outer less_equal ∷ outer plain_name ∷
    outer (punctuation signs.Semicolon) ∷ outer lattice_lines ∷ []) _ _ _
    (begins_pair _ (c.in-None.ensures.none c.args.input.bytes.now) no_end)
    (stops_before (outer plain_name ∷ outer less_equal ∷ outer plain_name ∷
    outer (punctuation signs.Semicolon) ∷ []) (outer lattice_lines ∷ []) _ _
    c.in_err-pair-in-None.ensures.halts))

pub returns-in_ok-push-in-None-clause-reads : goal.returns-in_ok-push-in-None-clause-reads
returns-in_ok-push-in-None-clause-reads c = λ no_end.
    (reads_then (outer lattice_lines ∷ [])
    (outer plain_name ∷ outer less_equal ∷ outer plain_name ∷
    outer (punctuation signs.Semicolon) ∷ outer lattice_lines ∷ []) (outer lattice_lines ∷ []) _
    _ _ (begins_pair _ (c.in-None.ensures.none c.args.input.bytes.now) no_end)
    (reads_before (outer plain_name ∷ outer less_equal ∷ outer plain_name ∷
    outer (punctuation signs.Semicolon) ∷ []) [] (outer lattice_lines ∷ []) _ _
    c.in_ok-pair-in-None.ensures.reads))

pub returns-in_ok-append-in-Some-clause-is : goal.returns-in_ok-append-in-Some-clause-is
returns-in_ok-append-in-Some-clause-is c =
    points_more _ _ _ _ _ _ _ (ap (map placed_name) c.in_ok-append-in-Some.ensures.items
    ∙ map-append placed_name _ _) (c.in-Some.ensures.is c.args.input.bytes.now)
    c.in_ok-more-in-Some.ensures.is

pub returns-in_ok-push-in-None-clause-is : goal.returns-in_ok-push-in-None-clause-is
returns-in_ok-push-in-None-clause-is c =
    pair_more _ _ _ _ _ _ (ap (map pair_tree) c.in_ok-push-in-None.ensures.items
    ∙ map_push pair_tree _ _) c.in_ok-pair-in-None.ensures.is
