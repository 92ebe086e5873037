use Rattle.std.proofs.Common.{◌≡◌, ℕ, List, [], None, subst, refl}
use Rattle.std.specs.Prelude.{Result, Err}
use Rattle.sv_flat.specs.Views.{design_of}
use Rattle.sv_gen.specs.Sample.{sample_text}
use Rattle.sv_io.specs.Traffic.{files_by}
use Rattle.sv_cli.specs.declared.prepared.NoReport.{NoReport}
use Rattle.sv_cli.specs.declared.prepared.NoReport.TheVariants.{OutOfMemory}
use Rattle.sv_cli.specs.declared.prepared.Prepared.{Prepared}
use Rattle.sv_cli.specs.declared.prepared.Prepared.TheVariants.{Whole}
use Rattle.sv_cli.specs.Generates.{ChecksSample}
use Rattle.sv_cli.specs.Prepared.{Reports}
use Rattle.sv_cli.specs.Report.{IsFaultBy}
use Rattle.sv_cli.specs.Texts.{BreaksFirst, StandsFor, Passes}
use Rattle.sv_cli.proofs.Passing.{none_passed, made_readied, spent_readied}
use Rattle.sv_cli.proofs.Sampled.{refused_told, checked_readied}
use Rattle.sv_cli.proofs.sample.check_sample.Goals as goal

pub returns-in-Ok : goal.returns-in-Ok
returns-in-Ok g c =
    let C = g.C.Cabinet in
    let lanes = c.args.lanes in
    let design = design_of c.in-Ok.design in
    let passes : Passes None (sample_text lanes) = record {
      design = design;
      stands =
          subst (λ (text : List ℕ). StandsFor None text design) c.requires.text
          c.in-Ok.ensures.stands;
      admitted = c.in-Ok.ensures.admitted;
    } in
    checked_readied lanes passes C.tells
    (files_by C.exchanges C.held C.fetch_faults C.store_faults c.args.cabinet.now)
    (files_by C.exchanges C.held C.fetch_faults C.store_faults c.check_design.new.cabinet)
    c.check_design.result c.check_design.ensures

pub returns-in_ok-report_of_refusal-in-Err-Rule :
    goal.returns-in_ok-report_of_refusal-in-Err-Rule
returns-in_ok-report_of_refusal-in-Err-Rule g c =
    let C = g.C.Cabinet in
    let lanes = c.args.lanes in
    let files = files_by C.exchanges C.held C.fetch_faults C.store_faults c.args.cabinet.now in
    let refusal = c.in-Err-Rule.refusal in
    let report = c.in_ok-report_of_refusal-in-Err-Rule.field-0 in
    made_readied (λ exchanges. exchanges ≡ []) (λ _. Reports (ChecksSample lanes)) C.tells files
    (Whole report) refl
    (refused_told lanes refusal.number refusal.place refusal.names.items
    (subst (λ (text : List ℕ).
    BreaksFirst None text refusal.number refusal.place refusal.names.items) c.requires.text
    (subst (IsFaultBy (BreaksFirst None c.args.text.now)) c.in-Err-Rule.field-0-is
    c.in-Err-Rule.ensures.broken))
    report c.in_ok-report_of_refusal-in-Err-Rule.ensures.answer
    c.in_ok-report_of_refusal-in-Err-Rule.ensures.text)

-- memory ran out

pub returns-in_err-report_of_refusal-in-Err-Rule :
    goal.returns-in_err-report_of_refusal-in-Err-Rule
returns-in_err-report_of_refusal-in-Err-Rule g c =
    let C = g.C.Cabinet in
    let files = files_by C.exchanges C.held C.fetch_faults C.store_faults c.args.cabinet.now in
    spent_readied (λ exchanges. exchanges ≡ []) (λ _. Reports (ChecksSample c.args.lanes)) C.tells
    files files [] c.from_residual.result (none_passed C.tells files) refl
    c.from_residual.ensures.1

pub returns-in-Err-OutOfMemory : goal.returns-in-Err-OutOfMemory
returns-in-Err-OutOfMemory g c =
    let C = g.C.Cabinet in
    let files = files_by C.exchanges C.held C.fetch_faults C.store_faults c.args.cabinet.now in
    let r : Result Prepared NoReport = Err OutOfMemory in
    spent_readied (λ exchanges. exchanges ≡ []) (λ _. Reports (ChecksSample c.args.lanes)) C.tells
    files files [] r (none_passed C.tells files) refl refl
