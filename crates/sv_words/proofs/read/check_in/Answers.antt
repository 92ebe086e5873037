use Rattle.clap.specs.Words.{found_of}
use Rattle.sv_words.proofs.Reading.{asks_check}
use Rattle.sv_words.proofs.read.check_in.Goals as goal

pub returns : goal.returns
returns c = (
  asks_check (found_of c.args.matches.now) c.in_ok-needed_text.field-0
      c.in_ok-text_of.field-0 c.budget_in.result c.in_ok-text_of-2.field-0 c.flag_in.result
      c.in_ok-needed_text.ensures c.in_ok-text_of.ensures c.budget_in.ensures.value
      c.in_ok-text_of-2.ensures c.flag_in.ensures,
  c.budget_in.ensures.bounds,
)
