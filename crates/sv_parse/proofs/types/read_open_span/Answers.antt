use Rattle.std.proofs.Common.{refl, [], ◌∷◌}
use Rattle.sv_token.specs.declared.signs.SignKind.TheVariants as signs
use Rattle.sv_parse_machine.specs.Symbols.{outer, punctuation, expression}
use Rattle.sv_parse_expr.proofs.Halting.{passed, stops_before}
use Rattle.sv_parse.proofs.ReadingSymbols.{group_read, group_stop}
use Rattle.sv_parse.proofs.types.read_open_span.Goals as goal

pub returns-clause-is : goal.returns-clause-is
returns-clause-is c =
    let high = c.in_ok-high.ensures.is in (high.0, high.1, (_, high.2, c.in_ok-low.ensures.is))

pub returns-in_err-high-clause-halts : goal.returns-in_err-high-clause-halts
returns-in_err-high-clause-halts c =
    passed _ _ _ c.from_residual.ensures.1
    (stops_before (outer (expression 0) ∷ outer (punctuation signs.Colon) ∷ [])
    (outer (expression 0) ∷ outer (punctuation signs.CloseBracket) ∷ []) _ _
    c.in_err-high.ensures.halts)

pub returns-in_err-low-clause-halts : goal.returns-in_err-low-clause-halts
returns-in_err-low-clause-halts c =
    passed _ _ _ c.from_residual-in_err-low.ensures.1
    (group_stop (outer (expression 0) ∷ outer (punctuation signs.Colon) ∷ [])
    (outer (expression 0) ∷ outer (punctuation signs.CloseBracket) ∷ []) _ _ _
    (c.in_ok-high.ensures.reads refl) c.in_err-low.ensures.halts)

pub returns-clause-reads : goal.returns-clause-reads
returns-clause-reads c =
    group_read (outer (expression 0) ∷ outer (punctuation signs.Colon) ∷ [])
    (outer (expression 0) ∷ outer (punctuation signs.CloseBracket) ∷ []) [] _ _ _
    (c.in_ok-high.ensures.reads refl) (c.in_ok-low.ensures.reads refl)
