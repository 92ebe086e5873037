use Rattle.std.proofs.Common.{[], ◌∷◌, refl}
use Rattle.sv_parse_machine.specs.Symbols.{outer, punctuation, plain_name, items, links, more_instances}
use Rattle.sv_parse_machine.specs.Symbols.{perhaps_overrides}
use Rattle.sv_parse_machine.proofs.ReadSteps.{reads_then, reads_before}
use Rattle.sv_parse_machine.proofs.ReadLists.{ends_more_instances, name_first}
use Rattle.sv_parse_expr.proofs.Halting.{passed, stops_then, stops_before}
use Rattle.sv_parse.proofs.ReadingSymbols.{goes_on_instances, any_name}
use Rattle.sv_token.specs.declared.signs.SignKind.TheVariants as signs
use Rattle.sv_parse.proofs.instances.read_instances.Goals as goal

pub returns-clause-is : goal.returns-clause-is
returns-clause-is c = (_, c.in_ok-as_items.ensures, c.in_ok-instances.ensures.is)

pub returns-in_err-instances-clause-halts : goal.returns-in_err-instances-clause-halts
returns-in_err-instances-clause-halts c = λ any.
    passed _ _ _ c.from_residual.ensures.1
    (stops_then (outer items ∷ [])
    (outer plain_name ∷ outer perhaps_overrides ∷ outer plain_name ∷
    outer (punctuation signs.OpenParenthesis) ∷ outer links ∷ outer more_instances ∷
    outer items ∷ []) _ _ _
    (name_first items (perhaps_overrides ∷ plain_name ∷ (punctuation signs.OpenParenthesis) ∷
    links ∷ more_instances ∷ items ∷ []) _ (λ x. refl) (any_name _ any))
    (stops_before (outer plain_name ∷ outer perhaps_overrides ∷ outer plain_name ∷
    outer (punctuation signs.OpenParenthesis) ∷ outer links ∷
    outer more_instances ∷ []) (outer items ∷ []) _ _
    (c.in_err-instances.ensures.halts (outer more_instances ∷ []) (outer more_instances ∷ [])
    goes_on_instances refl tt)))

pub returns-clause-reads : goal.returns-clause-reads
returns-clause-reads c = λ any.
    (reads_then (outer items ∷ [])
    (outer plain_name ∷ outer perhaps_overrides ∷ outer plain_name ∷
    outer (punctuation signs.OpenParenthesis) ∷ outer links ∷ outer more_instances ∷
    outer items ∷ []) (outer (punctuation signs.Semicolon) ∷ outer items ∷ []) _ _ _
    (name_first items (perhaps_overrides ∷ plain_name ∷ (punctuation signs.OpenParenthesis) ∷
    links ∷ more_instances ∷ items ∷ []) _ (λ x. refl) (any_name _ any))
    (reads_then (outer plain_name ∷ outer perhaps_overrides ∷ outer plain_name ∷
    outer (punctuation signs.OpenParenthesis) ∷ outer links ∷ outer more_instances ∷
    outer items ∷ []) (outer more_instances ∷ outer items ∷ [])
    (outer (punctuation signs.Semicolon) ∷ outer items ∷ []) _ _ _
    (reads_before (outer plain_name ∷ outer perhaps_overrides ∷ outer plain_name ∷
    outer (punctuation signs.OpenParenthesis) ∷ outer links ∷
    outer more_instances ∷ []) (outer more_instances ∷ []) (outer items ∷ []) _ _
    (c.in_ok-instances.ensures.reads (outer more_instances ∷ []) (outer more_instances ∷ [])
    goes_on_instances refl tt))
    (reads_before (outer more_instances ∷ []) (outer (punctuation signs.Semicolon) ∷ [])
    (outer items ∷ []) _ _ (ends_more_instances _ c.in_ok-instances.ensures.ends))))
