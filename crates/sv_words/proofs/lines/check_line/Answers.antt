use Rattle.std.proofs.lemmas.Result.{IfOk-weaker}
use Rattle.sv_words.proofs.Added.{added}
use Rattle.sv_words.proofs.lines.check_line.Goals as goal

pub returns : goal.returns
returns c = IfOk-weaker c.arg-4.result _ _ (λ line adds.
    added adds c.flag.ensures.local c.flag.ensures.rule
    (added c.in_ok-arg-3.ensures c.top_option.ensures.local c.top_option.ensures.rule
    (added c.in_ok-arg-2.ensures c.budget_option.ensures.local c.budget_option.ensures.rule
    (added c.in_ok-arg.ensures c.text_option.ensures.local c.text_option.ensures.rule
    c.in_ok-of_file.ensures))))
    c.arg-4.ensures
