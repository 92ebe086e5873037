use Rattle.std.proofs.Common.{◌≡◌, ℕ, ◌+◌, ◌≤◌, List, length, subst, ap, arith, inr, refl}
use Rattle.std.specs.Prelude.{Result, Err}
use Rattle.std.specs.Global.{Vec}
use Rattle.sv_flat.specs.Views.{design_of}
use Rattle.sv_io.specs.Cabinet.{IfLong}
use Rattle.sv_io.specs.Exchange.{whole}
use Rattle.sv_io.specs.Traffic.{files_by}
use Rattle.sv_io.specs.declared.faults.FetchFault.{FetchFault}
use Rattle.sv_trace.specs.Forms.{form_of}
use Rattle.sv_cli.specs.Compares.{ComparesStimuli, largest_compared}
use Rattle.sv_cli.specs.Comparing.{FindsAt, ComparesSecond, MayFetchSecond}
use Rattle.sv_cli.specs.Prepared.{Says}
use Rattle.sv_cli.proofs.ComparedFiles.{both_told, second_large}
use Rattle.sv_cli.proofs.OneFetch.{fetch_readied, fetch_spent, long_readied, long_spent}
use Rattle.sv_cli.proofs.OneFetch.{failed_unread, unfetched_spent}
use Rattle.sv_cli.proofs.comparing.compare_second.Goals as goal

pub returns-in-Ok : goal.returns-in-Ok
returns-in-Ok g c a =
    let C = g.C.Cabinet in
    let design = design_of c.args.design.now in
    let first = c.args.first.now in
    let b = c.args.b.now in
    let second = c.in-Ok.second.items in
    let report = c.in_ok-compare_bytes-in-Ok.field-0 in
    let small : length second ≤ largest_compared = grind (arith, c.in-Ok.ensures.within) in
    fetch_readied (MayFetchSecond b)
    (λ exchanges. Says (ComparesSecond first a b design c.args.level exchanges)) C.tells
    (files_by C.exchanges C.held C.fetch_faults C.store_faults c.args.cabinet.now)
    (files_by C.exchanges C.held C.fetch_faults C.store_faults c.fetch_once.new.cabinet) b
    (λ got. inr (got, refl)) (whole second) c.in-Ok.ensures.passed (λ none. none)
    c.in-Ok.ensures.kept report
    (both_told design c.args.level a b first c.requires.within second small report
    (subst (λ (bytes : List ℕ). Says (ComparesStimuli (form_of design) (FindsAt design c.args.level)
    first bytes) report) c.deref.ensures.value c.in_ok-compare_bytes-in-Ok.ensures))

pub returns-in_err-compare_bytes-in-Ok : goal.returns-in_err-compare_bytes-in-Ok
returns-in_err-compare_bytes-in-Ok g c a =
    let C = g.C.Cabinet in
    let design = design_of c.args.design.now in
    let level = c.args.level in
    let first = c.args.first.now in
    let b = c.args.b.now in
    fetch_spent (MayFetchSecond b)
    (λ exchanges. Says (ComparesSecond first a b design level exchanges)) C.tells
    (files_by C.exchanges C.held C.fetch_faults C.store_faults c.args.cabinet.now)
    (files_by C.exchanges C.held C.fetch_faults C.store_faults c.fetch_once.new.cabinet) b
    (λ got. inr (got, refl)) (whole c.in-Ok.second.items) c.in-Ok.ensures.passed
    c.from_residual.result c.from_residual.ensures.1

-- ---- more bytes than it may

pub returns-in-Err-Long : goal.returns-in-Err-Long
returns-in-Err-Long g c a =
    let C = g.C.Cabinet in
    let design = design_of c.args.design.now in
    let first = c.args.first.now in
    let b = c.args.b.now in
    let bytes = c.in-Err-Long.field-0-0 in
    let report = c.in_ok-report_of_size-in-Err-Long.field-0 in
    long_readied (MayFetchSecond b)
    (λ exchanges. Says (ComparesSecond first a b design c.args.level exchanges)) C.tells
    (files_by C.exchanges C.held C.fetch_faults C.store_faults c.args.cabinet.now)
    (files_by C.exchanges C.held C.fetch_faults C.store_faults c.fetch_once.new.cabinet) b
    (λ got. inr (got, refl)) c.in-Err-Long.field-0 c.in-Err-Long.ensures.passed bytes
    c.in-Err-Long.field-0-is c.in-Err-Long.ensures.kept report
    (second_large design c.args.level a b first c.requires.within bytes.items
    (subst (λ (f : FetchFault). let r : Result (Vec ℕ) FetchFault = Err f in
    IfLong r (λ bs. length bs ≡ largest_compared + 1)) c.in-Err-Long.field-0-is
    c.in-Err-Long.ensures.long)
    report c.in_ok-report_of_size-in-Err-Long.ensures)

pub returns-in_err-report_of_size-in-Err-Long : goal.returns-in_err-report_of_size-in-Err-Long
returns-in_err-report_of_size-in-Err-Long g c a =
    let C = g.C.Cabinet in
    let design = design_of c.args.design.now in
    let level = c.args.level in
    let first = c.args.first.now in
    let b = c.args.b.now in
    long_spent (MayFetchSecond b)
    (λ exchanges. Says (ComparesSecond first a b design level exchanges)) C.tells
    (files_by C.exchanges C.held C.fetch_faults C.store_faults c.args.cabinet.now)
    (files_by C.exchanges C.held C.fetch_faults C.store_faults c.fetch_once.new.cabinet) b
    (λ got. inr (got, refl)) c.in-Err-Long.field-0 c.in-Err-Long.ensures.passed
    c.in-Err-Long.field-0-0 c.in-Err-Long.field-0-is
    c.from_residual-in_err-report_of_size-in-Err-Long.result
    c.from_residual-in_err-report_of_size-in-Err-Long.ensures.1

-- ---- nothing

pub returns-in-Err-Failed : goal.returns-in-Err-Failed
returns-in-Err-Failed g c a =
    let C = g.C.Cabinet in
    let design = design_of c.args.design.now in
    let level = c.args.level in
    let first = c.args.first.now in
    let b = c.args.b.now in
    failed_unread (MayFetchSecond b)
    (λ exchanges. Says (ComparesSecond first a b design level exchanges)) C.tells
    (files_by C.exchanges C.held C.fetch_faults C.store_faults c.args.cabinet.now)
    (files_by C.exchanges C.held C.fetch_faults C.store_faults c.fetch_once.new.cabinet) b
    (λ got. inr (got, refl)) c.in-Err-Failed.field-0 c.in-Err-Failed.ensures.passed
    c.in-Err-Failed.field-0-is (c.in-Err-Failed.ensures.failed (ap Err c.in-Err-Failed.field-0-is))

pub returns : goal.returns
returns g c a =
    let C = g.C.Cabinet in
    let design = design_of c.args.design.now in
    let level = c.args.level in
    let first = c.args.first.now in
    let b = c.args.b.now in
    unfetched_spent (MayFetchSecond b)
    (λ exchanges. Says (ComparesSecond first a b design level exchanges)) C.tells
    (files_by C.exchanges C.held C.fetch_faults C.store_faults c.args.cabinet.now)
    (files_by C.exchanges C.held C.fetch_faults C.store_faults c.fetch_once.new.cabinet) b
    (λ got. inr (got, refl)) c.in-Err-OutOfMemory.field-0 c.in-Err-OutOfMemory.ensures.passed
    c.in-Err-OutOfMemory.field-0-is
