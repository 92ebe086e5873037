use Rattle.clap.specs.Words.{found_of}
use Rattle.sv_words.proofs.Reading.{asks_sim}
use Rattle.sv_words.proofs.read.sim_in.Goals as goal

pub returns : goal.returns
returns c = (
  asks_sim (found_of c.args.matches.now) c.in_ok-needed_text.field-0
      c.in_ok-text_of.field-0 c.order_in.result c.in_ok-text_of-2.field-0
      c.in_ok-needed_text.ensures c.in_ok-text_of.ensures c.order_in.ensures
      c.in_ok-text_of-2.ensures,
  tt,
)
