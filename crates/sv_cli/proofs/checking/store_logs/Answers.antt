use Rattle.std.proofs.Common.{[], ◌∙◌, inl, refl}
use Rattle.std.specs.Prelude.{Ok, Err, Some}
use Rattle.sv_io.specs.Traffic.{files_by}
use Rattle.sv_io.specs.declared.faults.StoreFault.{StoreFault}
use Rattle.sv_io.specs.declared.faults.StoreFault.TheVariants.{Failed}
use Rattle.sv_proof.specs.Certificate.{plain_logs, proof_text}
use Rattle.sv_cli.specs.Prepared.{MayStoreBytes, StoresBytes}
use Rattle.sv_cli.proofs.Passing.{none_passed, store_passed, spent_readied}
use Rattle.sv_cli.proofs.Storing.{stored_readied, unwritten_readied, spent_storing, failed_is}
use Rattle.sv_cli.proofs.checking.store_logs.Goals as goal

pub returns-in_err-bytes : goal.returns-in_err-bytes
returns-in_err-bytes g c =
    let C = g.C.Cabinet in
    let files = files_by C.exchanges C.held C.fetch_faults C.store_faults c.args.cabinet.now in
    let name = c.args.name.now in
    let text = proof_text (plain_logs c.args.logs.now) in
    spent_readied (MayStoreBytes (Some name) text)
    (λ exchanges _. StoresBytes (Some name) text exchanges) C.tells files files []
    c.from_residual.result (none_passed C.tells files) (inl refl) c.from_residual.ensures.1

pub returns-in-Ok : goal.returns-in-Ok
returns-in-Ok g c =
    let C = g.C.Cabinet in
    let old = files_by C.exchanges C.held C.fetch_faults C.store_faults c.args.cabinet.now in
    let new = files_by C.exchanges C.held C.fetch_faults C.store_faults c.store.new.self in
    let name = c.args.name.now in
    let text = proof_text (plain_logs c.args.logs.now) in
    let given = c.deref.result.now in
    stored_readied name text given (c.deref.ensures.value ∙ c.in_ok-bytes.ensures) C.tells old new
    (tt {0})
    (store_passed C.tells {T = Unit {0}} {E = StoreFault} old new name given
    (Ok (tt {0})) c.in-Ok.ensures.exchange
    c.in-Ok.ensures.stored c.in-Ok.ensures.refused c.in-Ok.ensures.others)
    (record { fetches = c.in-Ok.ensures.fetch_counts; stores = c.in-Ok.ensures.kept })

pub returns-in-Err-Failed : goal.returns-in-Err-Failed
returns-in-Err-Failed g c =
    let C = g.C.Cabinet in
    let old = files_by C.exchanges C.held C.fetch_faults C.store_faults c.args.cabinet.now in
    let new = files_by C.exchanges C.held C.fetch_faults C.store_faults c.store.new.self in
    let name = c.args.name.now in
    let text = proof_text (plain_logs c.args.logs.now) in
    let given = c.deref.result.now in
    unwritten_readied name text given (c.deref.ensures.value ∙ c.in_ok-bytes.ensures) C.tells old
    new
    (store_passed C.tells {T = Unit {0}} {E = StoreFault} old new name given
    (Err c.in-Err-Failed.field-0)
    c.in-Err-Failed.ensures.exchange c.in-Err-Failed.ensures.stored
    c.in-Err-Failed.ensures.refused c.in-Err-Failed.ensures.others)
    (c.in-Err-Failed.ensures.failed
    (failed_is c.in-Err-Failed.field-0 Failed c.in-Err-Failed.field-0-is))

pub returns : goal.returns
returns g c =
    let C = g.C.Cabinet in
    let old = files_by C.exchanges C.held C.fetch_faults C.store_faults c.args.cabinet.now in
    let new = files_by C.exchanges C.held C.fetch_faults C.store_faults c.store.new.self in
    let name = c.args.name.now in
    let text = proof_text (plain_logs c.args.logs.now) in
    let given = c.deref.result.now in
    spent_storing name text given (c.deref.ensures.value ∙ c.in_ok-bytes.ensures) C.tells old new
    (store_passed C.tells {T = Unit {0}} {E = StoreFault} old new name given
    (Err c.in-Err-OutOfMemory.field-0)
    c.in-Err-OutOfMemory.ensures.exchange c.in-Err-OutOfMemory.ensures.stored
    c.in-Err-OutOfMemory.ensures.refused c.in-Err-OutOfMemory.ensures.others)
