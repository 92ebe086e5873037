use Rattle.std.proofs.lemmas.Result.{IfOk-weaker}
use Rattle.sv_words.proofs.Added.{added}
use Rattle.sv_words.proofs.lines.of_file.Goals as goal

pub returns : goal.returns
returns c = IfOk-weaker c.arg.result _ _ (λ line adds.
    added adds c.file_word.ensures.local c.file_word.ensures.rule
    c.in_ok-named.ensures)
    c.arg.ensures
