use Rattle.sv_gates.proofs.ExtendingLaws.{extends_none, extends_trans}
use Rattle.sv_gates.proofs.laws.extending_goes_on.Goals as goal

pub returns-clause-none : goal.returns-clause-none
returns-clause-none c = extends_none

pub returns-clause-more : goal.returns-clause-more
returns-clause-more c = extends_trans
