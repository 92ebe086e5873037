use Rattle.std.proofs.Common.{inl, refl, []}
use Rattle.sv_flat.specs.Views.{design_of}
use Rattle.sv_io.specs.Traffic.{files_by}
use Rattle.sv_cli.specs.declared.prepared.Prepared.TheVariants.{Whole}
use Rattle.sv_cli.specs.Prepared.{Reports, Says, MayFetchOwn, VerifiesFetched}
use Rattle.sv_cli.specs.Verifies.{Verifies}
use Rattle.sv_cli.proofs.Certificates.{excess_verified, fetched_verified}
use Rattle.sv_cli.proofs.Passing.{none_passed, made_readied, spent_readied, passed_on}
use Rattle.sv_cli.proofs.verifying.verify_design.Goals as goal

pub returns-in_err-verify_fetched-in-Ok : goal.returns-in_err-verify_fetched-in-Ok
returns-in_err-verify_fetched-in-Ok g c =
    let C = g.C.Cabinet in
    let design = design_of c.args.design.now in
    let proof = c.args.proof.now in
    passed_on (MayFetchOwn proof design) (MayFetchOwn proof design)
    (λ exchanges. Says (VerifiesFetched proof design exchanges))
    (λ exchanges. Reports (Verifies proof design exchanges)) C.tells
    (files_by C.exchanges C.held C.fetch_faults C.store_faults c.args.cabinet.now)
    (files_by C.exchanges C.held C.fetch_faults C.store_faults c.verify_fetched.new.cabinet)
    c.in_err-verify_fetched-in-Ok.field-0.0 c.from_residual.result (λ exchanges may. may)
    c.in_err-verify_fetched-in-Ok.ensures c.from_residual.ensures.1

pub returns-in_ok-verify_fetched-in-Ok : goal.returns-in_ok-verify_fetched-in-Ok
returns-in_ok-verify_fetched-in-Ok g c =
    let C = g.C.Cabinet in
    fetched_verified c.args.proof.now (design_of c.args.design.now) C.tells
    (files_by C.exchanges C.held C.fetch_faults C.store_faults c.args.cabinet.now)
    (files_by C.exchanges C.held C.fetch_faults C.store_faults c.verify_fetched.new.cabinet)
    c.in_ok-verify_fetched-in-Ok.field-0 c.in-Ok.ensures.excess c.in_ok-verify_fetched-in-Ok.ensures

pub returns-in_err-report_of_fault-in-Err : goal.returns-in_err-report_of_fault-in-Err
returns-in_err-report_of_fault-in-Err g c =
    let C = g.C.Cabinet in
    let design = design_of c.args.design.now in
    let files = files_by C.exchanges C.held C.fetch_faults C.store_faults c.args.cabinet.now in
    spent_readied (MayFetchOwn c.args.proof.now design)
    (λ exchanges. Reports (Verifies c.args.proof.now design exchanges)) C.tells files files []
    c.from_residual-in_err-report_of_fault-in-Err.result (none_passed C.tells files) (inl refl)
    c.from_residual-in_err-report_of_fault-in-Err.ensures.1

pub returns-in_ok-report_of_fault-in-Err : goal.returns-in_ok-report_of_fault-in-Err
returns-in_ok-report_of_fault-in-Err g c =
    let C = g.C.Cabinet in
    let design = design_of c.args.design.now in
    let files = files_by C.exchanges C.held C.fetch_faults C.store_faults c.args.cabinet.now in
    let report = c.in_ok-report_of_fault-in-Err.field-0 in
    made_readied (MayFetchOwn c.args.proof.now design)
    (λ exchanges. Reports (Verifies c.args.proof.now design exchanges)) C.tells files (Whole report)
    (inl refl)
    (excess_verified c.args.proof.now design report c.in_ok-report_of_fault-in-Err.ensures)
