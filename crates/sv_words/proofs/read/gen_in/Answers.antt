use Rattle.clap.specs.Words.{found_of}
use Rattle.sv_words.proofs.Reading.{asks_gen}
use Rattle.sv_words.proofs.read.gen_in.Goals as goal

pub returns : goal.returns
returns c = (
  asks_gen (found_of c.args.matches.now) c.number_in.result c.flag_in.result
      c.number_in.ensures c.flag_in.ensures,
  tt,
)
