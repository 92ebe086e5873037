use Rattle.std.proofs.Common.{[], ◌∷◌, refl}
use Rattle.sv_parse_machine.specs.Symbols.{outer, punctuation, items}
use Rattle.sv_parse_machine.proofs.ReadSteps.{reads_then, reads_before}
use Rattle.sv_parse_expr.proofs.Halting.{passed, stops_then, stops_before}
use Rattle.sv_parse.proofs.ReadingSymbols.{word_is_next}
use Rattle.sv_parse.proofs.ReadingItems.{always_item_is, listed_item_is}
use Rattle.sv_token.specs.declared.signs.SignKind.TheVariants as signs
use Rattle.sv_token.specs.declared.keywords.WordKind.TheVariants as words
use Rattle.sv_ast.specs.Views.{item_tree}
use Rattle.sv_ast.specs.GrammarModules.{IsAlways}
use Rattle.sv_ast.specs.GrammarRules.{all_limits}
use Rattle.sv_parse_expr.proofs.ReadingLists.{one_is}
use Rattle.sv_parse.proofs.items.read_item.Goals as goal

pub returns-in_err-item-in-Some-clause-halts : goal.returns-in_err-item-in-Some-clause-halts
returns-in_err-item-in-Some-clause-halts c = λ no_end.
    passed _ _ _ c.from_residual.ensures.1
    (c.in_err-item-in-Some.ensures.halts
    (word_is_next words.Always _ _ (c.in-Some.ensures.is c.args.input.bytes.now)))

pub returns-in_ok-items-in-Some-clause-reads : goal.returns-in_ok-items-in-Some-clause-reads
returns-in_ok-items-in-Some-clause-reads c = λ no_end.
    (c.in_ok-item-in-Some.ensures.reads
    (word_is_next words.Always _ _ (c.in-Some.ensures.is c.args.input.bytes.now)))

pub returns-in_err-items-in-None-clause-halts : goal.returns-in_err-items-in-None-clause-halts
returns-in_err-items-in-None-clause-halts c = λ no_end.
    passed _ _ _ c.from_residual-in_err-items-in-None.ensures.1
    (c.in_err-items-in-None.ensures.halts (c.in-None.ensures.none c.args.input.bytes.now) no_end)

pub returns-in_err-rest-in-None-clause-halts : goal.returns-in_err-rest-in-None-clause-halts
returns-in_err-rest-in-None-clause-halts c = λ no_end.
    passed _ _ _ c.from_residual-in_err-rest-in-None.ensures.1
    (stops_then (outer items ∷ []) (outer (punctuation signs.Semicolon) ∷ outer items ∷ []) _ _ _
    (c.in_ok-items-in-None.ensures.reads (c.in-None.ensures.none c.args.input.bytes.now) no_end)
    (stops_before (outer (punctuation signs.Semicolon) ∷ []) (outer items ∷ []) _ _
    (c.in_err-rest-in-None.ensures.halts c.args.input.bytes.now)))

pub returns-in_ok-rest-in-None-clause-reads : goal.returns-in_ok-rest-in-None-clause-reads
returns-in_ok-rest-in-None-clause-reads c = λ no_end.
    (reads_then (outer items ∷ []) (outer (punctuation signs.Semicolon) ∷ outer items ∷ [])
    (outer items ∷ []) _ _ _
    (c.in_ok-items-in-None.ensures.reads (c.in-None.ensures.none c.args.input.bytes.now) no_end)
    (reads_before (outer (punctuation signs.Semicolon) ∷ []) [] (outer items ∷ []) _ _
    (c.in_ok-rest-in-None.ensures.reads c.args.input.bytes.now refl)))

pub returns-in_ok-items-in-Some-clause-is : goal.returns-in_ok-items-in-Some-clause-is
returns-in_ok-items-in-Some-clause-is c =
    always_item_is _ _ _
    (one_is _ _ item_tree (IsAlways all_limits) _ _ _ _ c.in_ok-items-in-Some.ensures
    c.in_ok-item-in-Some.ensures.is)

pub returns-in_ok-rest-in-None-clause-is : goal.returns-in_ok-rest-in-None-clause-is
returns-in_ok-rest-in-None-clause-is c =
    listed_item_is _ _ _ _ c.in_ok-items-in-None.ensures.is
    (c.in_ok-rest-in-None.ensures.is c.args.input.bytes.now)
