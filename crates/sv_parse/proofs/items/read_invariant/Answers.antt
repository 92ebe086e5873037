use Rattle.std.proofs.Common.{[], ◌∷◌, refl}
use Rattle.sv_parse_machine.specs.Symbols.{outer, punctuation, expression, items}
use Rattle.sv_parse_machine.proofs.ReadSteps.{reads_then, reads_before}
use Rattle.sv_parse_machine.proofs.ReadRows.{word_taken}
use Rattle.sv_parse_expr.proofs.Halting.{passed, stops_then, stops_before}
use Rattle.sv_parse_stmt.proofs.SymbolsAlike.{word_is_there}
use Rattle.sv_token.specs.declared.signs.SignKind.TheVariants as signs
use Rattle.sv_token.specs.declared.keywords.WordKind.TheVariants as words
use Rattle.sv_ast.specs.Views.{item_tree}
use Rattle.sv_ast.specs.GrammarModules.{IsInvariant}
use Rattle.sv_ast.specs.GrammarRules.{all_limits}
use Rattle.sv_parse_expr.proofs.ReadingLists.{one_is}
use Rattle.sv_parse.proofs.items.read_invariant.Goals as goal

pub returns-clause-is : goal.returns-clause-is
returns-clause-is c =
    one_is _ _ item_tree (IsInvariant all_limits) _ _ _ _ c.in_ok-one.ensures (
      c.place.ensures,
      (
        _,
        (c.in_ok-_place._place, c.in_ok-_place.ensures.is c.args.input.bytes.now),
        c.in_ok-expr.ensures.is,
      ),
    )

pub returns-in_err-_place-clause-halts : goal.returns-in_err-_place-clause-halts
returns-in_err-_place-clause-halts c = λ is.
    passed _ _ _ c.from_residual.ensures.1
    (word_is_there _ _ _ _ _ _ is (c.in_err-_place.ensures.stops c.args.input.bytes.now))

pub returns-in_err-expr-clause-halts : goal.returns-in_err-expr-clause-halts
returns-in_err-expr-clause-halts c = λ is.
    passed _ _ _ c.from_residual-in_err-expr.ensures.1
    (stops_then (outer items ∷ [])
    (outer (expression 0) ∷ outer (punctuation signs.Semicolon) ∷ outer items ∷ []) _ _ _
    (word_taken items words.Invariant
    ((expression 0) ∷ (punctuation signs.Semicolon) ∷ items ∷ []) _ _ refl
    (c.in_ok-_place._place, c.in_ok-_place.ensures.is c.args.input.bytes.now))
    (stops_before (outer (expression 0) ∷ [])
    (outer (punctuation signs.Semicolon) ∷ outer items ∷ []) _ _ c.in_err-expr.ensures.halts))

pub returns-clause-reads : goal.returns-clause-reads
returns-clause-reads c = λ is.
    (reads_then (outer items ∷ [])
    (outer (expression 0) ∷ outer (punctuation signs.Semicolon) ∷ outer items ∷ [])
    (outer (punctuation signs.Semicolon) ∷ outer items ∷ []) _ _ _
    (word_taken items words.Invariant
    ((expression 0) ∷ (punctuation signs.Semicolon) ∷ items ∷ []) _ _ refl
    (c.in_ok-_place._place, c.in_ok-_place.ensures.is c.args.input.bytes.now))
    (reads_before (outer (expression 0) ∷ []) []
    (outer (punctuation signs.Semicolon) ∷ outer items ∷ []) _ _ c.in_ok-expr.ensures.reads))
