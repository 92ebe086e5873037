use Rattle.sv_words.proofs.Added.{added_two}
use Rattle.sv_words.proofs.lines.cnf_line.Goals as goal

pub returns : goal.returns
returns c = added_two c.top_option.result c.arg-2.result c.in_ok-of_file.ensures c.in_ok-arg.ensures
    c.number_word.ensures.local c.number_word.ensures.rule
    c.top_option.ensures.local c.top_option.ensures.rule c.arg-2.ensures
