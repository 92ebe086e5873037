use Rattle.std.proofs.Common.{◌≡◌, ◌-◌, ℕ, Bool, List, [], Option, Some, inl, refl, subst}
use Rattle.std.specs.Prelude.{slice_get, Result, Ok, IsErrAnd}
use Rattle.std.specs.Option.{option_copied}
use Rattle.sv_clause.specs.Logs.{plain_log}
use Rattle.sv_flat.specs.Design.{FlatDesign}
use Rattle.sv_flat.specs.Views.{design_of}
use Rattle.sv_io.specs.Exchange.{Exchange}
use Rattle.sv_io.specs.Traffic.{Files, files_by}
use Rattle.sv_obl.specs.DesignQueries.{IsQueryOf}
use Rattle.sv_obl.specs.Obligations.{obligations, Obligation}
use Rattle.sv_obl.specs.Validity.{Falsifies}
use Rattle.sv_obl.specs.Valuations.{valuation_of}
use Rattle.sv_obl.specs.Views.{obligation_of}
use Rattle.sv_proof.specs.Certificate.{AreLogs, plain_logs, proof_text}
use Rattle.sv_judge.specs.Answers.{WhereAccepted, WhereFails, WhereTooLarge, WhereUnknown}
use Rattle.sv_judge.specs.Verdicts.{IsAccepted, AreRefutations, AreWithin, IsFalsified}
use Rattle.sv_judge.specs.Verdicts.{EndsTooLarge, IsSpent}
use Rattle.sv_judge.specs.declared.verdicts.Failure.{Failure}
use Rattle.sv_judge.specs.declared.verdicts.Spent.{Spent}
use Rattle.sv_report.specs.Styles.{accepted_in}
use Rattle.sv_report.specs.declared.styles.Style.{Style}
use Rattle.sv_cli.specs.declared.prepared.NoReport.{NoReport}
use Rattle.sv_cli.specs.declared.prepared.NoReport.TheVariants.{OutOfMemory}
use Rattle.sv_cli.specs.declared.report.Report.{Report}
use Rattle.sv_cli.specs.Answer.{done}
use Rattle.sv_cli.specs.Checks.{Decides}
use Rattle.sv_cli.specs.Prepared.{Readies, Says, MayStoreOwn, MayStoreBytes, StoresBytes}
use Rattle.sv_cli.proofs.Judged.{asked_for, one_asks, one_falsified, falsified_told, too_large_told}
use Rattle.sv_cli.proofs.Judged.{spent_told, by_falsified, by_too_large, by_spent, proved_decided}
use Rattle.sv_cli.proofs.Passing.{none_passed, made_readied, spent_readied}
use Rattle.sv_cli.proofs.checking.decide_design.Goals as goal

pub report_of_failure-requires-clause-query : goal.report_of_failure-requires-clause-query
report_of_failure-requires-clause-query g c =
    subst (WhereFails (λ (f : Failure).
    IsQueryOf (design_of c.args.design.now) (obligation_of f.query))) c.in-Fails.is
    c.in_ok-count.ensures.of_design

pub report_of_failure-requires-clause-asks : goal.report_of_failure-requires-clause-asks
report_of_failure-requires-clause-asks g c =
    let design = design_of c.args.design.now in
    let failure = c.in-Fails.failure in
    one_asks design (failure.number - 1) (obligation_of failure.query)
    (subst (WhereFails (λ (f : Failure).
    slice_get (obligations [] design) (f.number - 1) ≡ Some (obligation_of f.query)))
    c.in-Fails.is c.in_ok-count.ensures.query)

pub report_of_failure-requires-clause-fits : goal.report_of_failure-requires-clause-fits
report_of_failure-requires-clause-fits g c =
    let design = design_of c.args.design.now in
    (subst (WhereFails (λ (f : Failure).
    IsFalsified design c.args.budget f.number f.valuation)) c.in-Fails.is
    c.in_ok-count.ensures.fails).fits

pub report_of_failure-requires-clause-falsifies : goal.report_of_failure-requires-clause-falsifies
report_of_failure-requires-clause-falsifies g c =
    let design = design_of c.args.design.now in
    let failure = c.in-Fails.failure in
    let is = subst (WhereFails (λ (f : Failure).
    IsFalsified design c.args.budget f.number f.valuation)) c.in-Fails.is
    c.in_ok-count.ensures.fails in
    subst (λ (o : Obligation). Falsifies design (valuation_of design failure.valuation) o)
    (one_falsified design c.args.budget failure.number failure.valuation
    (obligation_of failure.query) is
    (subst (WhereFails (λ (f : Failure).
    slice_get (obligations [] design) (f.number - 1) ≡ Some (obligation_of f.query)))
    c.in-Fails.is c.in_ok-count.ensures.query))
    is.falsifies

-- ---- returns

module _ (style : Style) (name : Option (List ℕ)) (budget : ℕ) (design : FlatDesign)
    (tells : Bool) (files : Files) where
  abbrev Made : List Exchange → Report → Type 0
  Made exchanges = Says (Decides style name budget design exchanges)

  -- memory ran out before anything was exchanged
  fails_so : (r : Result Report NoReport) → IsErrAnd r (λ (f : NoReport). f ≡ OutOfMemory) →
      Readies (MayStoreOwn name design budget) Made tells files files r
  fails_so r is =
      spent_readied (MayStoreOwn name design budget) Made tells files files [] r
      (none_passed tells files) (inl refl) is

  -- the report says so, and nothing is exchanged
  says_so : (report : Report) → Says (Decides style name budget design []) report →
      (let r : Result Report NoReport = Ok report in
      Readies (MayStoreOwn name design budget) Made tells files files r)
  says_so report says =
      made_readied (MayStoreOwn name design budget) Made tells files report (inl refl) says

pub returns-in_err-count : goal.returns-in_err-count
returns-in_err-count g c =
    let C = g.C.Cabinet in
    let files = files_by C.exchanges C.held C.fetch_faults C.store_faults c.args.cabinet.now in
    fails_so c.args.style (option_copied c.args.proof) c.args.budget (design_of c.args.design.now)
    C.tells files c.from_residual.result c.from_residual.ensures.1

pub returns-in-Accepted : goal.returns-in-Accepted
returns-in-Accepted g c =
    let C = g.C.Cabinet in
    let design = design_of c.args.design.now in
    let budget = c.args.budget in
    let name = option_copied c.args.proof in
    let kept = plain_logs c.in-Accepted.logs.items in
    let told = c.in_ok-count.ensures in
    let accepted : IsAccepted design budget c.in-Accepted.count =
    subst (WhereAccepted (λ count logs. IsAccepted design budget count)) c.in-Accepted.is
    told.accepted in
    proved_decided design c.requires.few budget c.in-Accepted.count accepted kept c.args.style name
    C.tells
    (files_by C.exchanges C.held C.fetch_faults C.store_faults c.args.cabinet.now)
    (files_by C.exchanges C.held C.fetch_faults C.store_faults c.report_of_proved.new.cabinet)
    c.report_of_proved.result
    (λ some.
    let keeps = asked_for c.args.proof c.is_some.result c.is_some.ensures some in (
      subst (WhereAccepted (λ count ls. AreRefutations design ls)) c.in-Accepted.is
          (told.refutations keeps),
      subst (WhereAccepted (λ count ls. AreWithin budget ls)) c.in-Accepted.is
          (told.within keeps),
      subst (WhereAccepted (λ count ls. AreLogs ls)) c.in-Accepted.is (told.writable keeps),
    ))
    (subst (λ ls. let bytes = proof_text (plain_logs ls) in
    Readies (MayStoreBytes name bytes)
    (λ exchanges. Says (λ answer printed. StoresBytes name bytes exchanges
    × (answer ≡ done) × (printed ≡ accepted_in c.args.style c.in-Accepted.count))) C.tells
    (files_by C.exchanges C.held C.fetch_faults C.store_faults c.args.cabinet.now)
    (files_by C.exchanges C.held C.fetch_faults C.store_faults c.report_of_proved.new.cabinet)
    c.report_of_proved.result) c.deref.ensures.value c.report_of_proved.ensures)

pub returns-in_err-report_of_failure-in-Fails : goal.returns-in_err-report_of_failure-in-Fails
returns-in_err-report_of_failure-in-Fails g c =
    let C = g.C.Cabinet in
    let files = files_by C.exchanges C.held C.fetch_faults C.store_faults c.args.cabinet.now in
    fails_so c.args.style (option_copied c.args.proof) c.args.budget (design_of c.args.design.now)
    C.tells files c.from_residual-in_err-report_of_failure-in-Fails.result
    c.from_residual-in_err-report_of_failure-in-Fails.ensures.1

pub returns-in_ok-report_of_failure-in-Fails : goal.returns-in_ok-report_of_failure-in-Fails
returns-in_ok-report_of_failure-in-Fails g c =
    let C = g.C.Cabinet in
    let files = files_by C.exchanges C.held C.fetch_faults C.store_faults c.args.cabinet.now in
    let design = design_of c.args.design.now in
    let budget = c.args.budget in
    let report = c.in_ok-report_of_failure-in-Fails.field-0 in
    says_so c.args.style (option_copied c.args.proof) c.args.budget (design_of c.args.design.now)
    C.tells files report
    (by_falsified c.args.style design (option_copied c.args.proof) budget report
    (falsified_told design c.args.style budget c.in-Fails.failure.number
    c.in-Fails.failure.valuation (obligation_of c.in-Fails.failure.query)
    (subst (WhereFails (λ (f : Failure).
    IsFalsified design budget f.number f.valuation)) c.in-Fails.is c.in_ok-count.ensures.fails)
    (subst (WhereFails (λ (f : Failure).
    slice_get (obligations [] design) (f.number - 1) ≡ Some (obligation_of f.query)))
    c.in-Fails.is c.in_ok-count.ensures.query)
    report c.in_ok-report_of_failure-in-Fails.ensures))

pub returns-in_err-report_of_large-in-TooLarge : goal.returns-in_err-report_of_large-in-TooLarge
returns-in_err-report_of_large-in-TooLarge g c =
    let C = g.C.Cabinet in
    let files = files_by C.exchanges C.held C.fetch_faults C.store_faults c.args.cabinet.now in
    fails_so c.args.style (option_copied c.args.proof) c.args.budget (design_of c.args.design.now)
    C.tells files c.from_residual-in_err-report_of_large-in-TooLarge.result
    c.from_residual-in_err-report_of_large-in-TooLarge.ensures.1

pub returns-in_ok-report_of_large-in-TooLarge : goal.returns-in_ok-report_of_large-in-TooLarge
returns-in_ok-report_of_large-in-TooLarge g c =
    let C = g.C.Cabinet in
    let files = files_by C.exchanges C.held C.fetch_faults C.store_faults c.args.cabinet.now in
    let design = design_of c.args.design.now in
    let budget = c.args.budget in
    let report = c.in_ok-report_of_large-in-TooLarge.field-0 in
    says_so c.args.style (option_copied c.args.proof) c.args.budget (design_of c.args.design.now)
    C.tells files report
    (by_too_large c.args.style design (option_copied c.args.proof) budget report
    (too_large_told design c.args.style budget c.in-TooLarge.number
    (subst (WhereTooLarge (EndsTooLarge design budget)) c.in-TooLarge.is
    c.in_ok-count.ensures.too_large)
    report c.in_ok-report_of_large-in-TooLarge.ensures))

pub returns-in_err-report_of_spent-in-Unknown : goal.returns-in_err-report_of_spent-in-Unknown
returns-in_err-report_of_spent-in-Unknown g c =
    let C = g.C.Cabinet in
    let files = files_by C.exchanges C.held C.fetch_faults C.store_faults c.args.cabinet.now in
    fails_so c.args.style (option_copied c.args.proof) c.args.budget (design_of c.args.design.now)
    C.tells files c.from_residual-in_err-report_of_spent-in-Unknown.result
    c.from_residual-in_err-report_of_spent-in-Unknown.ensures.1

pub returns-in_ok-report_of_spent-in-Unknown : goal.returns-in_ok-report_of_spent-in-Unknown
returns-in_ok-report_of_spent-in-Unknown g c =
    let C = g.C.Cabinet in
    let files = files_by C.exchanges C.held C.fetch_faults C.store_faults c.args.cabinet.now in
    let design = design_of c.args.design.now in
    let budget = c.args.budget in
    let report = c.in_ok-report_of_spent-in-Unknown.field-0 in
    says_so c.args.style (option_copied c.args.proof) c.args.budget (design_of c.args.design.now)
    C.tells files report
    (by_spent c.args.style design (option_copied c.args.proof) budget report
    (spent_told design c.args.style budget c.in-Unknown.spent.obligation
    (plain_log c.in-Unknown.spent.log)
    (subst (WhereUnknown (λ (s : Spent).
    IsSpent design budget s.obligation (plain_log s.log))) c.in-Unknown.is
    c.in_ok-count.ensures.unknown)
    report c.in_ok-report_of_spent-in-Unknown.ensures.answer
    c.in_ok-report_of_spent-in-Unknown.ensures.text))
