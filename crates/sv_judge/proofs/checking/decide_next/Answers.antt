use Rattle.std.proofs.Common.{Err, ap, sym, ◌∙◌, le_trans, arith}
use Rattle.std.proofs.lemmas.Bool.{false≢true}
use Rattle.sv_flat.specs.Views.{design_of}
use Rattle.sv_obl.specs.Views.{obligation_of}
use Rattle.sv_judge.proofs.ProgressFacts.{valid_done, ends_large}
use Rattle.sv_judge.proofs.checking.decide_next.Goals as goal

pub returns-in-Ok-true-clause-done : goal.returns-in-Ok-true-clause-done
returns-in-Ok-true-clause-done c =
    valid_done (design_of c.args.design.now) c.args.budget (obligation_of c.args.query)
    c.args.progress.now c.add_valid.new.self c.requires.next.among c.requires.done
    (let proved = c.in-Ok-true.ensures.proved c.in-Ok-true.field-0-test in
    (proved.0, proved.1, proved.2, le_trans proved.3 (omega arith)))
    (λ keep none. false≢true (sym c.if-wants_log.false ∙ c.wants_log.ensures.1 (keep, none)))
    c.add_valid.ensures.count c.add_valid.ensures.spent c.add_valid.ensures.keeps
    c.add_valid.ensures.logs

pub returns-in-Err-TooLarge-clause-stop : goal.returns-in-Err-TooLarge-clause-stop
returns-in-Err-TooLarge-clause-stop c =
    ends_large (design_of c.args.design.now) c.args.budget (obligation_of c.args.query)
    c.args.progress.now c.requires.next.among c.requires.done
    (c.in-Err-TooLarge.ensures.too_large (ap (λ f. Err f) c.in-Err-TooLarge.field-0-is))
