use Rattle.sv_encoding_laws.proofs.FlowWords.{flows_say}
use Rattle.sv_encoding_laws.proofs.laws.violations_say_that_some_label_stays.Goals as goal

pub returns : goal.returns
returns c = flows_say
