use Rattle.sv_width.proofs.Sound.{passed_sound}
use Rattle.sv_width.proofs.SameValue.{same_value}
use Rattle.sv_width.proofs.laws.typed_means_its_source.Goals as goal

pub returns : goal.returns
returns c names signals by_name by_number constant e declared has_signals has_values passes n s =
    same_value names declared signals has_signals by_name by_number has_values constant e
    (passed_sound names constant e passes) n s
