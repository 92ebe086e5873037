use Rattle.sv_ast.specs.Views.{expression_trees}
use Rattle.sv_parse.proofs.ReadingInstances.{ordered_links_are}
use Rattle.sv_token.specs.Lexemes.{placed_tokens}
use Rattle.sv_parse_expr.specs.Parses.{placed}
use Rattle.std.proofs.Common.{[], ◌∷◌, refl}
use Rattle.sv_parse_machine.specs.Symbols.{outer, punctuation, plain_name, expression, more_values, links}
use Rattle.sv_parse_machine.specs.Symbols.{link, more_named_links}
use Rattle.sv_parse_machine.proofs.ReadSteps.{reads_then}
use Rattle.sv_parse_machine.proofs.ReadLists.{ends_more_values, ends_more_named_links}
use Rattle.sv_parse_machine.proofs.SkippedRows.{begins_links}
use Rattle.sv_parse_expr.proofs.Halting.{passed, stops_then}
use Rattle.sv_parse.proofs.ReadingSymbols.{as_expression, begins_with_sign, goes_on_values}
use Rattle.sv_parse.proofs.ReadingSymbols.{goes_on_links}
use Rattle.sv_token.specs.declared.signs.SignKind.TheVariants as signs
use Rattle.sv_parse.proofs.instances.read_some_links.Goals as goal

pub returns-in_ok-links-in-None-clause-is : goal.returns-in_ok-links-in-None-clause-is
returns-in_ok-links-in-None-clause-is c =
    ordered_links_are (expression_trees c.in_ok-links-in-None.links.items)
    (placed c.args.input)
    (placed_tokens c.args.input.bytes.now c.in_ok-links-in-None.rest.now)
    c.in_ok-links-in-None.ensures.is

pub returns-in_err-links-in-Some-clause-halts : goal.returns-in_err-links-in-Some-clause-halts
returns-in_err-links-in-Some-clause-halts c = λ no_close.
    passed _ _ _ c.from_residual.ensures.1
    (stops_then (outer links ∷ [])
    (outer (punctuation signs.Dot) ∷ outer plain_name ∷
    outer (punctuation signs.OpenParenthesis) ∷ outer link ∷
    outer more_named_links ∷ []) _ _ _
    (begins_with_sign links signs.Dot
    (plain_name ∷ (punctuation signs.OpenParenthesis) ∷ link ∷ more_named_links ∷ []) _ _ refl
    refl (c.in-Some.ensures.is c.args.input.bytes.now))
    (c.in_err-links-in-Some.ensures.halts (outer more_named_links ∷ [])
    (outer more_named_links ∷ []) goes_on_links refl tt))

pub returns-in_ok-links-in-Some-clause-reads : goal.returns-in_ok-links-in-Some-clause-reads
returns-in_ok-links-in-Some-clause-reads c = λ no_close.
    (reads_then (outer links ∷ [])
    (outer (punctuation signs.Dot) ∷ outer plain_name ∷
    outer (punctuation signs.OpenParenthesis) ∷ outer link ∷
    outer more_named_links ∷ []) (outer (punctuation signs.CloseParenthesis) ∷ []) _ _ _
    (begins_with_sign links signs.Dot
    (plain_name ∷ (punctuation signs.OpenParenthesis) ∷ link ∷ more_named_links ∷ []) _ _ refl
    refl (c.in-Some.ensures.is c.args.input.bytes.now))
    (reads_then (outer (punctuation signs.Dot) ∷ outer plain_name ∷
    outer (punctuation signs.OpenParenthesis) ∷ outer link ∷
    outer more_named_links ∷ []) (outer more_named_links ∷ [])
    (outer (punctuation signs.CloseParenthesis) ∷ []) _ _ _
    (c.in_ok-links-in-Some.ensures.reads (outer more_named_links ∷ [])
    (outer more_named_links ∷ []) goes_on_links refl tt)
    (ends_more_named_links _ c.in_ok-links-in-Some.ensures.ends)))

pub returns-in_err-links-in-None-clause-halts : goal.returns-in_err-links-in-None-clause-halts
returns-in_err-links-in-None-clause-halts c = λ no_close.
    passed _ _ _ c.from_residual-in_err-links-in-None.ensures.1
    (stops_then (outer links ∷ []) (outer (expression 0) ∷ outer more_values ∷ []) _ _ _
    (as_expression (outer links ∷ []) 0 (more_values ∷ []) _
    (begins_links _ no_close (c.in-None.ensures.none c.args.input.bytes.now)))
    (c.in_err-links-in-None.ensures.halts (outer more_values ∷ []) (outer more_values ∷ [])
    goes_on_values refl tt))

pub returns-in_ok-links-in-None-clause-reads : goal.returns-in_ok-links-in-None-clause-reads
returns-in_ok-links-in-None-clause-reads c = λ no_close.
    (reads_then (outer links ∷ []) (outer (expression 0) ∷ outer more_values ∷ [])
    (outer (punctuation signs.CloseParenthesis) ∷ []) _ _ _
    (as_expression (outer links ∷ []) 0 (more_values ∷ []) _
    (begins_links _ no_close (c.in-None.ensures.none c.args.input.bytes.now)))
    (reads_then (outer (expression 0) ∷ outer more_values ∷ []) (outer more_values ∷ [])
    (outer (punctuation signs.CloseParenthesis) ∷ []) _ _ _
    (c.in_ok-links-in-None.ensures.reads (outer more_values ∷ []) (outer more_values ∷ [])
    goes_on_values refl tt)
    (ends_more_values _ c.in_ok-links-in-None.ensures.ends)))
