use Rattle.std.proofs.Common.{refl, [], ◌∷◌}
use Rattle.sv_parse_expr.proofs.Halting.{passed}
use Rattle.sv_parse_machine.specs.Symbols.{outer, more_header_parameters}
use Rattle.sv_parse.proofs.DeclarationRuns.{header_parameters_go_on}
use Rattle.sv_parse_machine.proofs.ReadSteps.{reads_then}
use Rattle.sv_parse_machine.proofs.ReadLists.{ends_more_header_parameters}
use Rattle.sv_parse.proofs.parameters.read_header_params.Goals as goal

pub returns-in_err-params-clause-halts : goal.returns-in_err-params-clause-halts
returns-in_err-params-clause-halts c =
    passed _ _ _ c.from_residual.ensures.1
    (c.in_err-params.ensures.halts (outer more_header_parameters ∷ [])
    (outer more_header_parameters ∷ []) header_parameters_go_on refl tt)

pub returns-clause-reads : goal.returns-clause-reads
returns-clause-reads c =
    reads_then _ _ _ _ _ _
    (c.in_ok-params.ensures.reads (outer more_header_parameters ∷ [])
    (outer more_header_parameters ∷ []) header_parameters_go_on refl tt)
    (ends_more_header_parameters _ c.in_ok-params.ensures.ends)
