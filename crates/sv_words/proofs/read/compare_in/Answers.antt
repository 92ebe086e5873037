use Rattle.clap.specs.Words.{found_of}
use Rattle.sv_words.proofs.Reading.{asks_compare}
use Rattle.sv_words.proofs.read.compare_in.Goals as goal

pub returns : goal.returns
returns c = (
  asks_compare (found_of c.args.matches.now) c.in_ok-needed_text.field-0
      c.in_ok-needed_text-2.field-0 c.in_ok-needed_text-3.field-0 c.in_ok-needed_text-4.field-0
      c.in_ok-text_of.field-0 c.in_ok-needed_text.ensures c.in_ok-needed_text-2.ensures
      c.in_ok-needed_text-3.ensures c.in_ok-needed_text-4.ensures c.in_ok-text_of.ensures,
  tt,
)
