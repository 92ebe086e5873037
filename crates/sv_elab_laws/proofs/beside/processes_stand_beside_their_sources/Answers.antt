use Rattle.sv_elab_laws.proofs.PartsShapes.{all_flattened}
use Rattle.sv_elab_laws.proofs.PartsTexts.{made_beside, nothing_left}
use Rattle.sv_elab_laws.proofs.SidesSame.{processes_beside}
use Rattle.sv_elab_laws.proofs.beside.processes_stand_beside_their_sources.Goals as goal

pub returns-clause-beside : goal.returns-clause-beside
returns-clause-beside c text asked design shaped numbers flat =
    processes_beside text asked design
    (made_beside text asked (all_flattened text shaped numbers) design flat)

pub returns-clause-clocks : goal.returns-clause-clocks
returns-clause-clocks c text asked design shaped numbers flat =
    (made_beside text asked (all_flattened text shaped numbers) design flat).clocks

pub returns-clause-all : goal.returns-clause-all
returns-clause-all c text asked releases = nothing_left text asked releases
