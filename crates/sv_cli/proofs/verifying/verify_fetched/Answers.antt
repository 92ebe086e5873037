use Rattle.std.proofs.Common.{◌+◌, ◌≡◌, ℕ, List, [], ◌∷◌, length, subst}
use Rattle.std.specs.Prelude.{Result, Err}
use Rattle.std.specs.Global.{Vec}
use Rattle.sv_flat.specs.Views.{design_of}
use Rattle.sv_io.specs.Cabinet.{IfLong}
use Rattle.sv_io.specs.Exchange.{fetched, whole, too_long}
use Rattle.sv_io.specs.Traffic.{files_by}
use Rattle.sv_io.specs.declared.faults.FetchFault.{FetchFault}
use Rattle.sv_io.specs.declared.faults.FetchFault.TheVariants.{Failed, Long}
use Rattle.sv_cli.specs.Prepared.{Says, MayFetchOwn, VerifiesFetched}
use Rattle.sv_cli.specs.Verifies.{largest_proof, Judges}
use Rattle.sv_cli.proofs.Certificates.{judged_readied, oversized_readied, unread_readied}
use Rattle.sv_cli.proofs.Certificates.{spent_fetching, err_is, may_fetch}
use Rattle.sv_cli.proofs.Passing.{passed_as, spent_readied}
use Rattle.sv_cli.proofs.verifying.verify_fetched.Goals as goal

pub returns-in_err-report_of_proof-in-Ok : goal.returns-in_err-report_of_proof-in-Ok
returns-in_err-report_of_proof-in-Ok g c =
    let C = g.C.Cabinet in
    let design = design_of c.args.design.now in
    let proof = c.args.proof.now in
    let got = whole c.in-Ok.bytes.items in
    spent_readied (MayFetchOwn proof design)
    (λ exchanges. Says (VerifiesFetched proof design exchanges)) C.tells (files_by C.exchanges C.held C.fetch_faults C.store_faults c.args.cabinet.now) (files_by C.exchanges C.held C.fetch_faults C.store_faults c.fetch_once.new.cabinet)
    (fetched proof got ∷ []) c.from_residual.result c.in-Ok.ensures.passed
    (may_fetch proof design c.requires.few got) c.from_residual.ensures.1

pub returns-in-Ok : goal.returns-in-Ok
returns-in-Ok g c =
    let C = g.C.Cabinet in
    let design = design_of c.args.design.now in
    let report = c.in_ok-report_of_proof-in-Ok.field-0 in
    judged_readied c.args.proof.now design c.requires.few C.tells (files_by C.exchanges C.held C.fetch_faults C.store_faults c.args.cabinet.now) (files_by C.exchanges C.held C.fetch_faults C.store_faults c.fetch_once.new.cabinet) c.in-Ok.bytes
    c.in-Ok.ensures.passed c.in-Ok.ensures.within c.in-Ok.ensures.kept report
    (subst (λ (bytes : List ℕ). Says (Judges design bytes) report) c.deref.ensures.value
    c.in_ok-report_of_proof-in-Ok.ensures)

pub returns-in_err-report_of_bare_limit-in-Err-Long :
    goal.returns-in_err-report_of_bare_limit-in-Err-Long
returns-in_err-report_of_bare_limit-in-Err-Long g c =
    let C = g.C.Cabinet in
    let design = design_of c.args.design.now in
    let proof = c.args.proof.now in
    let old = files_by C.exchanges C.held C.fetch_faults C.store_faults c.args.cabinet.now in
    let new = files_by C.exchanges C.held C.fetch_faults C.store_faults c.fetch_once.new.cabinet in
    let got = too_long c.in-Err-Long.field-0-0.items in
    spent_readied (MayFetchOwn proof design)
    (λ exchanges. Says (VerifiesFetched proof design exchanges)) C.tells old new
    (fetched proof got ∷ []) c.from_residual-in_err-report_of_bare_limit-in-Err-Long.result
    (passed_as C.tells old new proof c.in-Err-Long.field-0 (Long c.in-Err-Long.field-0-0)
    c.in-Err-Long.field-0-is c.in-Err-Long.ensures.passed)
    (may_fetch proof design c.requires.few got)
    c.from_residual-in_err-report_of_bare_limit-in-Err-Long.ensures.1

pub returns-in-Err-Long : goal.returns-in-Err-Long
returns-in-Err-Long g c =
    let C = g.C.Cabinet in
    oversized_readied c.args.proof.now (design_of c.args.design.now) c.requires.few C.tells (files_by C.exchanges C.held C.fetch_faults C.store_faults c.args.cabinet.now) (files_by C.exchanges C.held C.fetch_faults C.store_faults c.fetch_once.new.cabinet) c.in-Err-Long.field-0
    c.in-Err-Long.ensures.passed c.in-Err-Long.field-0-0 c.in-Err-Long.field-0-is
    (subst (λ (f : FetchFault). let r : Result (Vec ℕ) FetchFault = Err f in
    IfLong r (λ bytes. length bytes ≡ largest_proof + 1)) c.in-Err-Long.field-0-is
    c.in-Err-Long.ensures.long)
    c.in-Err-Long.ensures.kept c.in_ok-report_of_bare_limit-in-Err-Long.field-0
    c.in_ok-report_of_bare_limit-in-Err-Long.ensures

pub returns-in-Err-Failed : goal.returns-in-Err-Failed
returns-in-Err-Failed g c =
    let C = g.C.Cabinet in
    let design = design_of c.args.design.now in
    unread_readied c.args.proof.now design c.requires.few C.tells (files_by C.exchanges C.held C.fetch_faults C.store_faults c.args.cabinet.now) (files_by C.exchanges C.held C.fetch_faults C.store_faults c.fetch_once.new.cabinet) c.in-Err-Failed.field-0
    c.in-Err-Failed.ensures.passed
    (λ exchanges. Says (VerifiesFetched c.args.proof.now design exchanges)) c.in-Err-Failed.field-0-is
    (c.in-Err-Failed.ensures.failed
    (err_is c.in-Err-Failed.field-0 Failed c.in-Err-Failed.field-0-is))

pub returns : goal.returns
returns g c =
    let C = g.C.Cabinet in
    let design = design_of c.args.design.now in
    let proof = c.args.proof.now in
    spent_fetching proof design c.requires.few C.tells (files_by C.exchanges C.held C.fetch_faults C.store_faults c.args.cabinet.now) (files_by C.exchanges C.held C.fetch_faults C.store_faults c.fetch_once.new.cabinet) c.in-Err-OutOfMemory.field-0
    c.in-Err-OutOfMemory.ensures.passed
    (λ exchanges. Says (VerifiesFetched proof design exchanges)) c.in-Err-OutOfMemory.field-0-is
