use Rattle.std.proofs.Common.{◌≡◌, [], refl, ap}
use Rattle.std.specs.Prelude.{Result, Err}
use Rattle.sv_io.specs.Traffic.{files_by}
use Rattle.sv_cli.specs.declared.outcome.Outcome.TheVariants.{Done}
use Rattle.sv_cli.specs.declared.prepared.NoReport.{NoReport}
use Rattle.sv_cli.specs.declared.prepared.NoReport.TheVariants.{OutOfMemory}
use Rattle.sv_cli.specs.declared.prepared.Prepared.{Prepared}
use Rattle.sv_cli.specs.declared.prepared.Prepared.TheVariants.{Whole}
use Rattle.sv_cli.specs.declared.report.Report.{Report}
use Rattle.sv_cli.specs.Answer.{done}
use Rattle.sv_cli.specs.Generates.{Generates, printed, judged, ChecksSample}
use Rattle.sv_cli.specs.Prepared.{Reports}
use Rattle.sv_cli.proofs.Passing.{none_passed, made_readied, spent_readied, readied_as}
use Rattle.sv_cli.proofs.Sampled.{reports_over, none_told}
use Rattle.sv_cli.proofs.sample.prepare_sample.Goals as goal

-- it is judged
pub returns-in-Ok : goal.returns-in-Ok
returns-in-Ok g c =
    let C = g.C.Cabinet in
    let lanes = c.args.lanes in
    let checks = c.args.checks in
    readied_as (λ exchanges. exchanges ≡ []) (λ _. Reports (ChecksSample lanes))
    (λ _. Reports (Generates lanes checks)) C.tells
    (files_by C.exchanges C.held C.fetch_faults C.store_faults c.args.cabinet.now)
    (files_by C.exchanges C.held C.fetch_faults C.store_faults c.check_sample.new.cabinet)
    c.check_sample.result
    (λ exchanges.
    reports_over (ChecksSample lanes) (Generates lanes checks)
    (λ answer printed. judged c.in-Ok.ensures.lanes c.if-checks.true))
    c.check_sample.ensures

-- it is printed
pub returns-in-Ok-2 : goal.returns-in-Ok-2
returns-in-Ok-2 g c =
    let C = g.C.Cabinet in
    let report : Report = record { outcome = Done; text = c.in-Ok.text } in
    made_readied (λ exchanges. exchanges ≡ [])
    (λ _. Reports (Generates c.args.lanes c.args.checks)) C.tells
    (files_by C.exchanges C.held C.fetch_faults C.store_faults c.args.cabinet.now)
    (Whole report) refl (
      done,
      refl,
      printed c.in-Ok.ensures.lanes c.if-checks.false
          (record { answers = refl; prints = c.in-Ok.ensures.text }),
    )

-- there is none
pub returns-in_ok-report_of_bare_limit-in-Err-Range :
    goal.returns-in_ok-report_of_bare_limit-in-Err-Range
returns-in_ok-report_of_bare_limit-in-Err-Range g c =
    let C = g.C.Cabinet in
    let report = c.in_ok-report_of_bare_limit-in-Err-Range.field-0 in
    made_readied (λ exchanges. exchanges ≡ [])
    (λ _. Reports (Generates c.args.lanes c.args.checks)) C.tells
    (files_by C.exchanges C.held C.fetch_faults C.store_faults c.args.cabinet.now)
    (Whole report) refl
    (none_told c.args.lanes c.args.checks
    (c.in-Err-Range.ensures.range (ap Err c.in-Err-Range.field-0-is)) report
    c.in_ok-report_of_bare_limit-in-Err-Range.ensures)

-- memory ran out

pub returns-in_err-report_of_bare_limit-in-Err-Range :
    goal.returns-in_err-report_of_bare_limit-in-Err-Range
returns-in_err-report_of_bare_limit-in-Err-Range g c =
    let C = g.C.Cabinet in
    let files = files_by C.exchanges C.held C.fetch_faults C.store_faults c.args.cabinet.now in
    spent_readied (λ exchanges. exchanges ≡ [])
    (λ _. Reports (Generates c.args.lanes c.args.checks)) C.tells files files []
    c.from_residual.result (none_passed C.tells files) refl c.from_residual.ensures.1

pub returns-in-Err-OutOfMemory : goal.returns-in-Err-OutOfMemory
returns-in-Err-OutOfMemory g c =
    let C = g.C.Cabinet in
    let files = files_by C.exchanges C.held C.fetch_faults C.store_faults c.args.cabinet.now in
    let r : Result Prepared NoReport = Err OutOfMemory in
    spent_readied (λ exchanges. exchanges ≡ [])
    (λ _. Reports (Generates c.args.lanes c.args.checks)) C.tells files files [] r
    (none_passed C.tells files) refl refl
