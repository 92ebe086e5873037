use Rattle.sv_encoding_laws.proofs.Settling.{words_spell_settled_values}
use Rattle.sv_encoding_laws.proofs.laws.words_of_signals_spell_settled_values.Goals as goal

pub returns : goal.returns
returns c = words_spell_settled_values
