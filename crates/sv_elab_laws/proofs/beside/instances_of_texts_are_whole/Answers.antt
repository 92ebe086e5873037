use Rattle.sv_elab_laws.proofs.PartsShapes.{all_flattened}
use Rattle.sv_elab_laws.proofs.PartsTexts.{made_beside, each_child}
use Rattle.sv_elab_laws.proofs.beside.instances_of_texts_are_whole.Goals as goal

pub returns : goal.returns
returns c text asked design shaped numbers flat =
    each_child text asked design
    (made_beside text asked (all_flattened text shaped numbers) design flat)
