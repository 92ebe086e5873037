-- The table in the code is the list of refused words.
use Rattle.sv_token.specs.Words.{is_refused_word}
use Rattle.sv_parse_expr.proofs.refused_words.is_refused.Goals as goal

pub returns : goal.returns
unfolding is_refused_word
returns c = c.is_among.ensures
