use Rattle.std.proofs.Common.{inl, refl, []}
use Rattle.std.specs.Option.{option_copied}
use Rattle.sv_flat.specs.Views.{design_of}
use Rattle.sv_io.specs.Traffic.{files_by}
use Rattle.sv_cli.specs.declared.prepared.Prepared.TheVariants.{Whole}
use Rattle.sv_cli.specs.Checks.{Checks, Decides}
use Rattle.sv_cli.specs.Prepared.{Reports, Says, MayStoreOwn}
use Rattle.sv_cli.proofs.Judged.{by_excess, decided_checked}
use Rattle.sv_cli.proofs.Passing.{none_passed, made_readied, spent_readied, passed_on}
use Rattle.sv_cli.proofs.checking.check_design.Goals as goal

pub returns-in_err-decide_design-in-Ok : goal.returns-in_err-decide_design-in-Ok
returns-in_err-decide_design-in-Ok g c =
    let C = g.C.Cabinet in
    let design = design_of c.args.design.now in
    let name = option_copied c.args.proof in
    passed_on (MayStoreOwn name design c.args.budget) (MayStoreOwn name design c.args.budget)
    (λ exchanges. Says (Decides c.args.style name c.args.budget design exchanges))
    (λ exchanges. Reports (Checks c.args.style name c.args.budget design exchanges)) C.tells
    (files_by C.exchanges C.held C.fetch_faults C.store_faults c.args.cabinet.now)
    (files_by C.exchanges C.held C.fetch_faults C.store_faults c.decide_design.new.cabinet)
    c.in_err-decide_design-in-Ok.field-0.0 c.from_residual.result (λ exchanges may. may)
    c.in_err-decide_design-in-Ok.ensures c.from_residual.ensures.1

pub returns-in_ok-decide_design-in-Ok : goal.returns-in_ok-decide_design-in-Ok
returns-in_ok-decide_design-in-Ok g c =
    let C = g.C.Cabinet in
    decided_checked c.args.style (design_of c.args.design.now) (option_copied c.args.proof) c.args.budget
    C.tells
    (files_by C.exchanges C.held C.fetch_faults C.store_faults c.args.cabinet.now)
    (files_by C.exchanges C.held C.fetch_faults C.store_faults c.decide_design.new.cabinet)
    c.in_ok-decide_design-in-Ok.field-0 c.in-Ok.ensures.excess c.in_ok-decide_design-in-Ok.ensures

pub returns-in_err-report_of_fault-in-Err : goal.returns-in_err-report_of_fault-in-Err
returns-in_err-report_of_fault-in-Err g c =
    let C = g.C.Cabinet in
    let name = option_copied c.args.proof in
    let files = files_by C.exchanges C.held C.fetch_faults C.store_faults c.args.cabinet.now in
    spent_readied (MayStoreOwn name (design_of c.args.design.now) c.args.budget)
    (λ exchanges. Reports (Checks c.args.style name c.args.budget (design_of c.args.design.now)
    exchanges)) C.tells files files []
    c.from_residual-in_err-report_of_fault-in-Err.result (none_passed C.tells files) (inl refl)
    c.from_residual-in_err-report_of_fault-in-Err.ensures.1

pub returns-in_ok-report_of_fault-in-Err : goal.returns-in_ok-report_of_fault-in-Err
returns-in_ok-report_of_fault-in-Err g c =
    let C = g.C.Cabinet in
    let design = design_of c.args.design.now in
    let name = option_copied c.args.proof in
    let files = files_by C.exchanges C.held C.fetch_faults C.store_faults c.args.cabinet.now in
    let report = c.in_ok-report_of_fault-in-Err.field-0 in
    made_readied (MayStoreOwn name design c.args.budget)
    (λ exchanges. Reports (Checks c.args.style name c.args.budget design exchanges)) C.tells files
    (Whole report) (inl refl)
    (by_excess c.args.style design name c.args.budget report c.in_ok-report_of_fault-in-Err.ensures)
