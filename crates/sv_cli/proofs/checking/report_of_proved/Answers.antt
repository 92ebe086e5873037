use Rattle.std.proofs.Common.{◌≡◌}
use Rattle.std.specs.Option.{option_copied}
use Rattle.sv_io.specs.Traffic.{files_by}
use Rattle.sv_proof.specs.Certificate.{plain_logs, proof_text}
use Rattle.sv_report.specs.Styles.{accepted_in}
use Rattle.sv_cli.specs.Answer.{done}
use Rattle.sv_cli.specs.Prepared.{Says, MayStoreBytes, StoresBytes}
use Rattle.sv_cli.proofs.Judged.{stored_told}
use Rattle.sv_cli.proofs.Passing.{passed_on, spent_readied}
use Rattle.sv_cli.proofs.checking.report_of_proved.Goals as goal

pub returns-in_err-store_proof : goal.returns-in_err-store_proof
returns-in_err-store_proof g c =
    let C = g.C.Cabinet in
    let name = option_copied c.args.proof in
    let bytes = proof_text (plain_logs c.args.logs.now) in
    passed_on (MayStoreBytes name bytes) (MayStoreBytes name bytes)
    (λ exchanges _. StoresBytes name bytes exchanges)
    (λ exchanges. Says (λ answer printed. StoresBytes name bytes exchanges
    × (answer ≡ done) × (printed ≡ accepted_in c.args.style c.args.count))) C.tells
    (files_by C.exchanges C.held C.fetch_faults C.store_faults c.args.cabinet.now)
    (files_by C.exchanges C.held C.fetch_faults C.store_faults c.store_proof.new.cabinet)
    c.in_err-store_proof.field-0.0 c.from_residual.result (λ exchanges may. may)
    c.in_err-store_proof.ensures c.from_residual.ensures.1

pub returns-in_err-report_of_acceptance : goal.returns-in_err-report_of_acceptance
returns-in_err-report_of_acceptance g c =
    let C = g.C.Cabinet in
    let name = option_copied c.args.proof in
    let bytes = proof_text (plain_logs c.args.logs.now) in
    let stored = c.in_ok-store_proof.ensures in
    spent_readied (MayStoreBytes name bytes)
    (λ exchanges. Says (λ answer printed. StoresBytes name bytes exchanges
    × (answer ≡ done) × (printed ≡ accepted_in c.args.style c.args.count))) C.tells
    (files_by C.exchanges C.held C.fetch_faults C.store_faults c.args.cabinet.now)
    (files_by C.exchanges C.held C.fetch_faults C.store_faults c.store_proof.new.cabinet)
    stored.exchanges c.from_residual-in_err-report_of_acceptance.result stored.passed stored.may
    c.from_residual-in_err-report_of_acceptance.ensures.1

pub returns : goal.returns
returns g c =
    let C = g.C.Cabinet in
    stored_told c.args.style c.args.count (proof_text (plain_logs c.args.logs.now))
    (option_copied c.args.proof) C.tells
    (files_by C.exchanges C.held C.fetch_faults C.store_faults c.args.cabinet.now)
    (files_by C.exchanges C.held C.fetch_faults C.store_faults c.store_proof.new.cabinet)
    c.in_ok-store_proof.field-0 c.in_ok-report_of_acceptance.field-0
    c.in_ok-store_proof.ensures c.in_ok-report_of_acceptance.ensures.answer
    c.in_ok-report_of_acceptance.ensures.text
