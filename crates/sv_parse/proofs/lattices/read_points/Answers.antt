use Rattle.std.proofs.Common.{[], ◌∷◌, refl}
use Rattle.sv_parse_machine.specs.Symbols.{outer, punctuation, plain_name, more_names}
use Rattle.sv_parse_machine.proofs.ReadSteps.{reads_then}
use Rattle.sv_parse_machine.proofs.ReadLists.{ends_listed}
use Rattle.sv_parse_expr.proofs.Halting.{passed, stops_then}
use Rattle.sv_parse.proofs.ReadingSymbols.{goes_on_names}
use Rattle.sv_token.specs.declared.signs.SignKind.TheVariants as signs
use Rattle.sv_parse.proofs.lattices.read_points.Goals as goal

pub returns-clause-is : goal.returns-clause-is
returns-clause-is c = (_, c.in_ok-points.ensures.is, c.in_ok-rest.ensures.is c.args.input.bytes.now)

pub returns-in_err-points-clause-halts : goal.returns-in_err-points-clause-halts
returns-in_err-points-clause-halts c =
    passed _ _ _ c.from_residual.ensures.1
    (c.in_err-points.ensures.halts (outer (more_names signs.Semicolon) ∷ [])
    (outer (more_names signs.Semicolon) ∷ []) goes_on_names refl tt)

pub returns-in_err-rest-clause-halts : goal.returns-in_err-rest-clause-halts
returns-in_err-rest-clause-halts c =
    passed _ _ _ c.from_residual-in_err-rest.ensures.1
    (stops_then (outer plain_name ∷ outer (more_names signs.Semicolon) ∷ [])
    (outer (more_names signs.Semicolon) ∷ []) _ _ _
    (c.in_ok-points.ensures.reads (outer (more_names signs.Semicolon) ∷ [])
    (outer (more_names signs.Semicolon) ∷ []) goes_on_names refl tt)
    (stops_then (outer (more_names signs.Semicolon) ∷ []) (outer (punctuation signs.Semicolon) ∷ [])
    _ _ _ (ends_listed _ c.in_ok-points.ensures.ends)
    (c.in_err-rest.ensures.halts c.args.input.bytes.now)))

pub returns-clause-reads : goal.returns-clause-reads
returns-clause-reads c =
    (reads_then (outer plain_name ∷ outer (more_names signs.Semicolon) ∷ [])
    (outer (more_names signs.Semicolon) ∷ []) [] _ _ _
    (c.in_ok-points.ensures.reads (outer (more_names signs.Semicolon) ∷ [])
    (outer (more_names signs.Semicolon) ∷ []) goes_on_names refl tt)
    (reads_then (outer (more_names signs.Semicolon) ∷ []) (outer (punctuation signs.Semicolon) ∷ [])
    [] _ _ _ (ends_listed _ c.in_ok-points.ensures.ends)
    (c.in_ok-rest.ensures.reads c.args.input.bytes.now refl)))
