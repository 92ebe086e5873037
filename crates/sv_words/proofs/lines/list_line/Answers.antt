use Rattle.std.proofs.lemmas.Result.{IfOk-weaker}
use Rattle.sv_words.proofs.Added.{added}
use Rattle.sv_words.proofs.lines.list_line.Goals as goal

pub returns : goal.returns
returns c = IfOk-weaker c.arg.result _ _ (λ line adds.
    added adds c.top_option.ensures.local c.top_option.ensures.rule
    c.in_ok-of_file.ensures)
    c.arg.ensures
