use Rattle.clap.specs.Words.{found_of}
use Rattle.sv_words.proofs.Reading.{asks_list}
use Rattle.sv_words.proofs.read.list_in.Goals as goal

pub returns : goal.returns
returns c = (
  asks_list (found_of c.args.matches.now) c.in_ok-needed_text.field-0
      c.in_ok-text_of.field-0 c.in_ok-needed_text.ensures c.in_ok-text_of.ensures,
  tt,
)
