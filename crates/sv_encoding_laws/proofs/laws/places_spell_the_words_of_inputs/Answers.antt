use Rattle.sv_encoding_laws.proofs.Places.{places_spell}
use Rattle.sv_encoding_laws.proofs.laws.places_spell_the_words_of_inputs.Goals as goal

pub returns : goal.returns
returns c = places_spell
