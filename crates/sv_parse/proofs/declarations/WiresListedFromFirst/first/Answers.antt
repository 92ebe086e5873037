use Rattle.sv_token.specs.declared.keywords.WordKind.TheVariants as words
use Rattle.sv_parse.proofs.ReadingDeclarations.{wire_is}
use Rattle.sv_parse_expr.proofs.Halting.{passed}
use Rattle.sv_parse_stmt.proofs.SymbolsAlike.{word_is_there}
use Rattle.sv_parse.proofs.declarations.WiresListedFromFirst.first.Goals as goal

pub returns-clause-is : goal.returns-clause-is
returns-clause-is c =
    wire_is _ _ _ _ _ _ _ _
    (c.in_ok-_place._place, c.in_ok-_place.ensures.is c.args.input.bytes.now)
    c.in_ok-of.ensures.is c.in_ok-wire.ensures.is

pub returns-in_err-_place-clause-halts : goal.returns-in_err-_place-clause-halts
returns-in_err-_place-clause-halts c =
    λ next. passed _ _ _ c.from_residual.ensures.1
    (word_is_there _ words.Wire _ _ _ _ next
    (c.in_err-_place.ensures.stops c.args.input.bytes.now))
