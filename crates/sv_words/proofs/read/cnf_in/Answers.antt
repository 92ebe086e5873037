use Rattle.clap.specs.Words.{found_of}
use Rattle.sv_words.proofs.Reading.{asks_cnf}
use Rattle.sv_words.proofs.read.cnf_in.Goals as goal

pub returns : goal.returns
returns c = (
  asks_cnf (found_of c.args.matches.now) c.in_ok-needed_text.field-0
      c.number_in.result c.in_ok-text_of.field-0 c.in_ok-needed_text.ensures c.number_in.ensures
      c.in_ok-text_of.ensures,
  tt,
)
