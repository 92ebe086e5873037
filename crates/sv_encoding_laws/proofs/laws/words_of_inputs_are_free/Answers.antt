use Rattle.sv_encoding_laws.proofs.GivenWords.{words_are_free}
use Rattle.sv_encoding_laws.proofs.laws.words_of_inputs_are_free.Goals as goal

pub returns : goal.returns
returns c = words_are_free
