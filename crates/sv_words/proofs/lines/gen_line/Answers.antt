use Rattle.sv_words.proofs.Added.{added_two}
use Rattle.sv_words.proofs.lines.gen_line.Goals as goal

pub returns : goal.returns
returns c = added_two c.flag.result c.arg-2.result c.in_ok-named.ensures c.in_ok-arg.ensures
    c.number_word.ensures.local c.number_word.ensures.rule
    c.flag.ensures.local c.flag.ensures.rule c.arg-2.ensures
