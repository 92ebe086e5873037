use Rattle.std.proofs.Common.{◌≡◌, ℕ, ◌+◌, ◌≤◌, ◌⊎◌, List, [], length, subst, ap, arith, inr, refl}
use Rattle.std.specs.Prelude.{Result, Err}
use Rattle.std.specs.Global.{Vec}
use Rattle.sv_flat.specs.Views.{design_of}
use Rattle.sv_io.specs.Cabinet.{IfLong}
use Rattle.sv_io.specs.Exchange.{whole}
use Rattle.sv_io.specs.Traffic.{files_by}
use Rattle.sv_io.specs.declared.faults.FetchFault.{FetchFault}
use Rattle.sv_cli.specs.Compares.{largest_compared}
use Rattle.sv_cli.specs.Comparing.{ComparesAt, ComparesSecond, MayFetchSecond}
use Rattle.sv_cli.specs.Dialogues.{MayFetchBoth}
use Rattle.sv_cli.specs.Dialogues as dialogues
use Rattle.sv_cli.specs.Prepared.{Readies, Says}
use Rattle.sv_cli.proofs.ComparedFiles.{behind_first, first_large}
use Rattle.sv_cli.proofs.OneFetch.{long_readied, long_spent, failed_unread, unfetched_spent}
use Rattle.sv_cli.proofs.OneFetch.{readied_after}
use Rattle.sv_cli.proofs.comparing.compare_files.Goals as goal

pub returns-in-Ok : goal.returns-in-Ok
returns-in-Ok g c =
    let C = g.C.Cabinet in
    let design = design_of c.args.design.now in
    let level = c.args.level in
    let a = c.args.a.now in
    let b = c.args.b.now in
    let first = c.in-Ok.first.items in
    let old = files_by C.exchanges C.held C.fetch_faults C.store_faults c.args.cabinet.now in
    let mid = files_by C.exchanges C.held C.fetch_faults C.store_faults c.fetch_once.new.cabinet in
    let new =
    files_by C.exchanges C.held C.fetch_faults C.store_faults c.compare_second.new.cabinet in
    let r = c.compare_second.result in
    let small : length first ≤ largest_compared = grind (arith, c.in-Ok.ensures.within) in
    readied_after (MayFetchSecond b) (λ exchanges. (exchanges ≡ []) ⊎ MayFetchBoth a b exchanges)
    (λ exchanges. Says (ComparesSecond first a b design level exchanges))
    (λ exchanges. Says (ComparesAt a b design level exchanges)) C.tells old mid new a
    (whole first) c.in-Ok.ensures.passed (λ none. none) c.in-Ok.ensures.kept
    c.in-Ok.ensures.fetch_counts c.in-Ok.ensures.store_counts
    (behind_first design level a b first small) (λ exchanges report says. says) r
    (subst (λ (bytes : List ℕ). Readies (MayFetchSecond b)
    (λ exchanges. Says (ComparesSecond bytes a b design level exchanges)) C.tells mid new r)
    c.deref.ensures.value (c.compare_second.ensures a))

-- ---- more bytes than it may

pub returns-in-Err-Long : goal.returns-in-Err-Long
returns-in-Err-Long g c =
    let C = g.C.Cabinet in
    let design = design_of c.args.design.now in
    let level = c.args.level in
    let a = c.args.a.now in
    let b = c.args.b.now in
    let bytes = c.in-Err-Long.field-0-0 in
    let report = c.in_ok-report_of_size-in-Err-Long.field-0 in
    long_readied (λ exchanges. (exchanges ≡ []) ⊎ MayFetchBoth a b exchanges)
    (λ exchanges. Says (ComparesAt a b design level exchanges)) C.tells
    (files_by C.exchanges C.held C.fetch_faults C.store_faults c.args.cabinet.now)
    (files_by C.exchanges C.held C.fetch_faults C.store_faults c.fetch_once.new.cabinet) a
    (λ got. inr (dialogues.first got refl)) c.in-Err-Long.field-0 c.in-Err-Long.ensures.passed bytes
    c.in-Err-Long.field-0-is c.in-Err-Long.ensures.kept report
    (first_large design level a b bytes.items
    (subst (λ (f : FetchFault). let r : Result (Vec ℕ) FetchFault = Err f in
    IfLong r (λ bs. length bs ≡ largest_compared + 1)) c.in-Err-Long.field-0-is
    c.in-Err-Long.ensures.long)
    report c.in_ok-report_of_size-in-Err-Long.ensures)

pub returns-in_err-report_of_size-in-Err-Long : goal.returns-in_err-report_of_size-in-Err-Long
returns-in_err-report_of_size-in-Err-Long g c =
    let C = g.C.Cabinet in
    let design = design_of c.args.design.now in
    let level = c.args.level in
    let a = c.args.a.now in
    let b = c.args.b.now in
    long_spent (λ exchanges. (exchanges ≡ []) ⊎ MayFetchBoth a b exchanges)
    (λ exchanges. Says (ComparesAt a b design level exchanges)) C.tells
    (files_by C.exchanges C.held C.fetch_faults C.store_faults c.args.cabinet.now)
    (files_by C.exchanges C.held C.fetch_faults C.store_faults c.fetch_once.new.cabinet) a
    (λ got. inr (dialogues.first got refl)) c.in-Err-Long.field-0 c.in-Err-Long.ensures.passed
    c.in-Err-Long.field-0-0 c.in-Err-Long.field-0-is c.from_residual.result
    c.from_residual.ensures.1

-- ---- nothing

pub returns-in-Err-Failed : goal.returns-in-Err-Failed
returns-in-Err-Failed g c =
    let C = g.C.Cabinet in
    let design = design_of c.args.design.now in
    let level = c.args.level in
    let a = c.args.a.now in
    let b = c.args.b.now in
    failed_unread (λ exchanges. (exchanges ≡ []) ⊎ MayFetchBoth a b exchanges)
    (λ exchanges. Says (ComparesAt a b design level exchanges)) C.tells
    (files_by C.exchanges C.held C.fetch_faults C.store_faults c.args.cabinet.now)
    (files_by C.exchanges C.held C.fetch_faults C.store_faults c.fetch_once.new.cabinet) a
    (λ got. inr (dialogues.first got refl)) c.in-Err-Failed.field-0 c.in-Err-Failed.ensures.passed
    c.in-Err-Failed.field-0-is (c.in-Err-Failed.ensures.failed (ap Err c.in-Err-Failed.field-0-is))

pub returns : goal.returns
returns g c =
    let C = g.C.Cabinet in
    let design = design_of c.args.design.now in
    let level = c.args.level in
    let a = c.args.a.now in
    let b = c.args.b.now in
    unfetched_spent (λ exchanges. (exchanges ≡ []) ⊎ MayFetchBoth a b exchanges)
    (λ exchanges. Says (ComparesAt a b design level exchanges)) C.tells
    (files_by C.exchanges C.held C.fetch_faults C.store_faults c.args.cabinet.now)
    (files_by C.exchanges C.held C.fetch_faults C.store_faults c.fetch_once.new.cabinet) a
    (λ got. inr (dialogues.first got refl)) c.in-Err-OutOfMemory.field-0
    c.in-Err-OutOfMemory.ensures.passed c.in-Err-OutOfMemory.field-0-is
