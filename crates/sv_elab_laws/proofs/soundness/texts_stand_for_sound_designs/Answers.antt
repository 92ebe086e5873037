use Rattle.sv_elab_laws.proofs.PartsShapes.{all_flattened}
use Rattle.sv_elab_laws.proofs.SoundDesigns.{design_sound}
use Rattle.sv_elab_laws.proofs.soundness.texts_stand_for_sound_designs.Goals as goal

pub returns : goal.returns
returns c text top design shaped numbers long flat =
    design_sound text top design shaped (all_flattened text shaped numbers) long flat
