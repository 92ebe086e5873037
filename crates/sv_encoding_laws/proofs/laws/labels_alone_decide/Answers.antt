use Rattle.sv_encoding_laws.proofs.Deciding.{labels_alone_decide}
use Rattle.sv_encoding_laws.proofs.laws.labels_alone_decide.Goals as goal

pub returns : goal.returns
returns c = labels_alone_decide
