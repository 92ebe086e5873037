use Rattle.std.proofs.Common.{◌≡◌, [], sym, subst}
use Rattle.std.specs.Prelude.{IsTrue, IsFalse}
use Rattle.sv_clause.specs.Logs.{plain_log}
use Rattle.sv_flat.specs.Views.{design_of}
use Rattle.sv_proof.specs.Certificate.{AreLogs}
use Rattle.sv_judge.specs.Answers.{WhereAccepted, WhereUnknown, IsNotUnknown}
use Rattle.sv_judge.specs.Verdicts.{IsAccepted, AreRefutations, AreWithin, IsSpent}
use Rattle.sv_judge.specs.Progress.{IsEarlyStop}
use Rattle.sv_judge.proofs.EndedFacts.{accepted, refutations, within, writable, none_kept}
use Rattle.sv_judge.proofs.EndedFacts.{unknown}
use Rattle.sv_judge.proofs.EndedFacts.{large, units}
use Rattle.sv_judge.proofs.checking.check.Goals as goal

pub returns-in-Ok-clause-accepted : goal.returns-in-Ok-clause-accepted
returns-in-Ok-clause-accepted c =
    let design = design_of c.args.design.now in
    let p = c.in-Ok.progress in
    subst (WhereAccepted (λ n ls. IsAccepted design c.args.budget n)) (sym c.verdict.ensures)
    (accepted design c.args.budget p.count c.in-Ok.ensures.all p.logs p.spent
    c.in-Ok.ensures.done.stands)

pub returns-in-Ok-clause-refutations : goal.returns-in-Ok-clause-refutations
returns-in-Ok-clause-refutations c = λ keeps.
    let design = design_of c.args.design.now in
    let p = c.in-Ok.progress in
    subst (WhereAccepted (λ n ls. AreRefutations design ls)) (sym c.verdict.ensures)
    (refutations design c.args.budget p.count c.in-Ok.ensures.all p.logs p.spent
    (c.in-Ok.ensures.done.logs (subst IsTrue (sym c.in-Ok.ensures.keeps) keeps)))

pub returns-in-Ok-clause-within : goal.returns-in-Ok-clause-within
returns-in-Ok-clause-within c = λ keeps.
    let p = c.in-Ok.progress in
    subst (WhereAccepted (λ n ls. AreWithin c.args.budget ls)) (sym c.verdict.ensures)
    (within (design_of c.args.design.now) c.args.budget p.count c.in-Ok.ensures.all p.logs p.spent
    (c.in-Ok.ensures.done.logs (subst IsTrue (sym c.in-Ok.ensures.keeps) keeps)))

pub returns-in-Ok-clause-writable : goal.returns-in-Ok-clause-writable
returns-in-Ok-clause-writable c = λ keeps.
    let design = design_of c.args.design.now in
    let p = c.in-Ok.progress in
    subst (WhereAccepted (λ n ls. AreLogs ls)) (sym c.verdict.ensures)
    (writable design c.args.budget p.count c.in-Ok.ensures.all p.logs p.spent
    c.in-Ok.ensures.few
    (c.in-Ok.ensures.done.logs (subst IsTrue (sym c.in-Ok.ensures.keeps) keeps)))

pub returns-in-Ok-clause-none_kept : goal.returns-in-Ok-clause-none_kept
returns-in-Ok-clause-none_kept c = λ no.
    let p = c.in-Ok.progress in
    subst (WhereAccepted (λ n ls. ls ≡ [])) (sym c.verdict.ensures)
    (none_kept (design_of c.args.design.now) c.args.budget p.count c.in-Ok.ensures.all p.logs
    p.spent (c.in-Ok.ensures.done.none_kept (subst IsFalse (sym c.in-Ok.ensures.keeps) no)))

pub returns-in-Ok-clause-unknown : goal.returns-in-Ok-clause-unknown
returns-in-Ok-clause-unknown c =
    let design = design_of c.args.design.now in
    let p = c.in-Ok.progress in
    subst (WhereUnknown (λ s. IsSpent design c.args.budget s.obligation (plain_log s.log)))
    (sym c.verdict.ensures)
    (unknown design c.args.budget p.count c.in-Ok.ensures.all p.logs p.spent
    c.in-Ok.ensures.done.stands c.in-Ok.ensures.done.passed)

pub returns-in-Ok-clause-large_budget : goal.returns-in-Ok-clause-large_budget
returns-in-Ok-clause-large_budget c = λ most each enough.
    let p = c.in-Ok.progress in
    subst IsNotUnknown (sym c.verdict.ensures)
    (large (design_of c.args.design.now) c.args.budget p.count c.in-Ok.ensures.all p.logs p.spent
    c.in-Ok.ensures.done.stands most each enough)

pub returns-in-Ok-clause-units : goal.returns-in-Ok-clause-units
returns-in-Ok-clause-units c = λ each.
    let p = c.in-Ok.progress in
    subst IsNotUnknown (sym c.verdict.ensures)
    (units (design_of c.args.design.now) c.args.budget p.count c.in-Ok.ensures.all p.logs p.spent
    c.in-Ok.ensures.done.stands each)

pub returns-in-Err-Fails-clause-fails : goal.returns-in-Err-Fails-clause-fails
returns-in-Err-Fails-clause-fails c =
    (subst (IsEarlyStop (design_of c.args.design.now) c.args.budget) c.in-Err-Fails.field-0-is
    c.in-Err-Fails.ensures.stop).falsified

pub returns-in-Err-Fails-clause-query : goal.returns-in-Err-Fails-clause-query
returns-in-Err-Fails-clause-query c =
    (subst (IsEarlyStop (design_of c.args.design.now) c.args.budget) c.in-Err-Fails.field-0-is
    c.in-Err-Fails.ensures.stop).among

pub returns-in-Err-Fails-clause-of_design : goal.returns-in-Err-Fails-clause-of_design
returns-in-Err-Fails-clause-of_design c =
    (subst (IsEarlyStop (design_of c.args.design.now) c.args.budget) c.in-Err-Fails.field-0-is
    c.in-Err-Fails.ensures.stop).query

pub returns-in-Err-Fails-clause-placed : goal.returns-in-Err-Fails-clause-placed
returns-in-Err-Fails-clause-placed c =
    (subst (IsEarlyStop (design_of c.args.design.now) c.args.budget) c.in-Err-Fails.field-0-is
    c.in-Err-Fails.ensures.stop).placed

pub returns-in-Err-TooLarge-clause-too_large : goal.returns-in-Err-TooLarge-clause-too_large
returns-in-Err-TooLarge-clause-too_large c =
    subst (IsEarlyStop (design_of c.args.design.now) c.args.budget) c.in-Err-TooLarge.field-0-is
    c.in-Err-TooLarge.ensures.stop
