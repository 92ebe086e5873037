use Rattle.sv_run_laws.proofs.DeclaredMaps.{all_tables}
use Rattle.sv_run_laws.proofs.DeclaredSignals.{all_declared, same_points}
use Rattle.sv_run_laws.proofs.signals.flat_signals_are_those_declared.Goals as goal

pub returns-clause-signals : goal.returns-clause-signals
returns-clause-signals c text asked design shaped numbers flat =
    all_declared text asked design shaped numbers flat

pub returns-clause-points : goal.returns-clause-points
returns-clause-points c text asked design shaped numbers flat =
    same_points text asked design shaped numbers flat

pub returns-clause-maps : goal.returns-clause-maps
returns-clause-maps c text asked design shaped numbers flat =
    all_tables text asked design shaped numbers flat
