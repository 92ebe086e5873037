use Rattle.std.proofs.Common.{subst}
use Rattle.sv_ast.specs.TextSystem.{text_system}
use Rattle.sv_flat.specs.FlatSystem.{flat_system}
use Rattle.sv_elab_laws.specs.InOrder.{SchedulesAgree, SettledAlike}
use Rattle.sv_elab_laws.proofs.JoinedSchedules.{settled_alike}
use Rattle.sv_elab_laws.proofs.JoinedWhole.{flattened_named, flattened_schedules}
use Rattle.sv_elab_laws.proofs.beside.flat_processes_run_in_order_of_their_sources.Goals as goal

pub returns-clause-joined : goal.returns-clause-joined
returns-clause-joined c text asked design can flat admitted =
    flattened_named text asked design can flat admitted

pub returns-clause-schedules : goal.returns-clause-schedules
returns-clause-schedules c text asked design can flat admitted =
    let j = flattened_named text asked design can flat admitted in
    subst (SchedulesAgree (flat_system design) (text_system text asked)) j.1
    (flattened_schedules text asked design can flat admitted j.0)

pub returns-clause-settled : goal.returns-clause-settled
returns-clause-settled c text asked design can flat admitted =
    let j = flattened_named text asked design can flat admitted in
    subst (SettledAlike (flat_system design) (text_system text asked)) j.1
    (settled_alike (flat_system design) (text_system text asked) j.0)
