use Rattle.sv_tworun.proofs.LeakFacts.{none_leaks}
use Rattle.sv_tworun.proofs.laws.noninterferent_systems_show_no_leak.Goals as goal

pub returns : goal.returns
returns g c system holds level start1 start2 inputs1 inputs2 first second one other found is =
    none_leaks system holds level start1 start2 inputs1 inputs2 first second one other found is
