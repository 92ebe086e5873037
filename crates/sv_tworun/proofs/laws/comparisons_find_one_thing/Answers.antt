use Rattle.sv_tworun.proofs.OneFinding.{one_comparison}
use Rattle.sv_tworun.proofs.laws.comparisons_find_one_thing.Goals as goal

pub returns : goal.returns
returns c system level first second one other is again =
    one_comparison system level first second one other is again
