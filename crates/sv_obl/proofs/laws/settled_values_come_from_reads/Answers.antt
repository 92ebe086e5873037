use Rattle.sv_obl.proofs.ReadValues.{value_from_reads}
use Rattle.sv_obl.proofs.laws.settled_values_come_from_reads.Goals as goal

pub returns : goal.returns
returns c design sound admitted e f s comb e_fits f_fits e_still f_still same =
    value_from_reads design sound admitted e f s comb e_fits f_fits e_still f_still same
