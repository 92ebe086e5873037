use Rattle.std.proofs.Common.{refl, [], ◌∷◌}
use Rattle.sv_token.specs.declared.signs.SignKind.TheVariants as signs
use Rattle.sv_parse_expr.proofs.Halting.{passed}
use Rattle.sv_parse_machine.specs.Symbols.{outer, more_parameters, items, punctuation}
use Rattle.sv_parse.proofs.DeclarationRuns.{parameters_go_on}
use Rattle.sv_parse_machine.proofs.ReadSteps.{reads_then, reads_before}
use Rattle.sv_parse_machine.proofs.ReadLists.{ends_more_parameters}
use Rattle.sv_parse.proofs.parameters.read_params.Goals as goal

pub returns-clause-is : goal.returns-clause-is
returns-clause-is c = (_, c.in_ok-declared.ensures, c.in_ok-params.ensures.is)

pub returns-in_err-params-clause-halts : goal.returns-in_err-params-clause-halts
returns-in_err-params-clause-halts c =
    λ next. passed _ _ _ c.from_residual.ensures.1
    (c.in_err-params.ensures.halts (outer more_parameters ∷ outer items ∷ []) [] parameters_go_on
    refl next)

pub returns-clause-reads : goal.returns-clause-reads
returns-clause-reads c =
    λ next. reads_then _ _ _ _ _ _
    (c.in_ok-params.ensures.reads (outer more_parameters ∷ outer items ∷ []) [] parameters_go_on
    refl next)
    (reads_before (outer more_parameters ∷ []) (outer (punctuation signs.Semicolon) ∷ [])
    (outer items ∷ []) _ _ (ends_more_parameters _ c.in_ok-params.ensures.ends))
