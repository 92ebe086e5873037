use Rattle.sv_encoding_laws.proofs.Wholeness.{encoding_is_whole}
use Rattle.sv_encoding_laws.proofs.laws.encodings_are_whole.Goals as goal

pub returns : goal.returns
returns c = encoding_is_whole
