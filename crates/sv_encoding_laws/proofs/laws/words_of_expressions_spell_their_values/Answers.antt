use Rattle.sv_encoding_laws.proofs.Spelling.{words_spell_values}
use Rattle.sv_encoding_laws.proofs.laws.words_of_expressions_spell_their_values.Goals as goal

pub returns : goal.returns
returns c = words_spell_values
