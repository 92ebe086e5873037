use Rattle.sv_width.proofs.Sound.{passed_sound}
use Rattle.sv_width.proofs.WellFormed.{typed_formed}
use Rattle.sv_width.proofs.laws.typed_forms_are_well_formed.Goals as goal

pub returns : goal.returns
returns c names signals constant e declared lengths has_signals shape numbers passes n s fits is =
    typed_formed names declared lengths signals has_signals constant e
    (passed_sound names constant e passes) shape numbers n s fits is
