use Rattle.std.proofs.Common.{[], ◌∷◌}
use Rattle.sv_parse_machine.specs.Symbols.{outer, one_module, items}
use Rattle.sv_parse_machine.proofs.ReadSteps.{reads_then}
use Rattle.sv_parse_expr.proofs.Halting.{passed, stops_then}
use Rattle.sv_parse.proofs.ReadingItems.{module_is}
use Rattle.sv_parse.proofs.modules.read_module.Goals as goal

pub returns-in_err-header-clause-halts : goal.returns-in_err-header-clause-halts
returns-in_err-header-clause-halts c =
    passed _ _ _ c.from_residual.ensures.1
    c.in_err-header.ensures.halts

pub returns-in_err-items-clause-halts : goal.returns-in_err-items-clause-halts
returns-in_err-items-clause-halts c =
    passed _ _ _ c.from_residual-in_err-items.ensures.1
    (stops_then (outer one_module ∷ []) (outer items ∷ []) _ _ _ c.in_ok-header.ensures.reads
    c.in_err-items.ensures.halts)

pub returns-clause-reads : goal.returns-clause-reads
returns-clause-reads c =
    (reads_then (outer one_module ∷ []) (outer items ∷ []) [] _ _ _ c.in_ok-header.ensures.reads
    c.in_ok-items.ensures.reads)

pub returns-clause-is : goal.returns-clause-is
returns-clause-is c = module_is _ _ _ _ c.in_ok-header.ensures.is c.in_ok-items.ensures.is
