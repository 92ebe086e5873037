use Rattle.std.proofs.Common.{refl, [], ◌∷◌}
use Rattle.sv_parse_expr.proofs.Halting.{passed}
use Rattle.sv_parse_machine.specs.Symbols.{outer, more_ports}
use Rattle.sv_parse.proofs.DeclarationRuns.{ports_go_on}
use Rattle.sv_parse_machine.proofs.ReadSteps.{reads_then}
use Rattle.sv_parse_machine.proofs.ReadLists.{ends_more_ports}
use Rattle.sv_parse.proofs.declarations.read_ports.Goals as goal

pub returns-in_err-ports-clause-halts : goal.returns-in_err-ports-clause-halts
returns-in_err-ports-clause-halts c =
    λ next. passed _ _ _ c.from_residual.ensures.1
    (c.in_err-ports.ensures.halts (outer more_ports ∷ []) [] ports_go_on refl next)

pub returns-clause-reads : goal.returns-clause-reads
returns-clause-reads c =
    λ next. reads_then _ _ _ _ _ _
    (c.in_ok-ports.ensures.reads (outer more_ports ∷ []) [] ports_go_on refl next)
    (ends_more_ports _ c.in_ok-ports.ensures.ends)
