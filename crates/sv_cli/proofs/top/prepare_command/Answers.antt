use Rattle.std.proofs.Common.{◌≡◌, ℕ, ◌≤◌, List, [], length, Some, sym, ◌∙◌, subst, ap, arith}
use Rattle.std.specs.Prelude.{Err}
use Rattle.std.specs.Option.{option_copied}
use Rattle.sv_io.specs.Traffic.{files_by}
use Rattle.sv_words.specs.Words.{plain}
use Rattle.sv_report.specs.declared.styles.Style.{Style}
use Rattle.sv_cli.specs.Command.{file_in}
use Rattle.sv_cli.specs.Limits.{TellsLimit}
use Rattle.sv_cli.specs.Texts.{largest_file}
use Rattle.sv_cli.specs.Prepared.{Readies, MayExchangeOf, PreparesText, Says}
use Rattle.sv_cli.proofs.Preparing.{text_readied, long_readied, long_unreadied, failed_unreadied}
use Rattle.sv_cli.proofs.Preparing.{spent_unreadied, has_file}
use Rattle.sv_cli.proofs.top.prepare_command.Goals as goal

pub prepare_text-requires-clause-file : goal.prepare_text-requires-clause-file
prepare_text-requires-clause-file g c =
    has_file (plain c.args.command) c.in-Some.file.now
    (sym c.file_in.ensures ∙ ap option_copied c.in-Some.is)

pub prepare_alone-requires : goal.prepare_alone-requires
prepare_alone-requires g c = sym c.file_in.ensures ∙ ap option_copied c.in-None.is

pub returns-in-Ok : goal.returns-in-Ok
returns-in-Ok g c =
    let C = g.C.Cabinet in
    let request = plain c.args.command in
    let file = c.in-Some.file.now in
    let old = files_by C.exchanges C.held C.fetch_faults C.store_faults c.args.cabinet.now in
    let mid = files_by C.exchanges C.held C.fetch_faults C.store_faults c.fetch_once.new.cabinet in
    let new =
    files_by C.exchanges C.held C.fetch_faults C.store_faults c.prepare_text.new.cabinet in
    let text = c.in-Ok.bytes.items in
    let r = c.prepare_text.result in
    let is_file : file_in request ≡ Some file =
    sym c.file_in.ensures ∙ ap option_copied c.in-Some.is in
    let small : length text ≤ largest_file = grind (arith, c.in-Ok.ensures.within) in
    text_readied request file is_file C.tells old mid new text small c.in-Ok.ensures.passed
    c.in-Ok.ensures.kept r
    (subst (λ (t : List ℕ).
    Readies (MayExchangeOf request t) (PreparesText request t) C.tells mid new r)
    c.deref.ensures.value c.prepare_text.ensures)

pub returns-in-Err-Long : goal.returns-in-Err-Long
returns-in-Err-Long g c =
    let C = g.C.Cabinet in
    let report = (c.in_ok-report_of_bare_limit-in-Err-Long).field-0 in
    long_readied (plain c.args.command) c.in-Some.file.now
    (sym c.file_in.ensures ∙ ap option_copied c.in-Some.is) C.tells
    (files_by C.exchanges C.held C.fetch_faults C.store_faults c.args.cabinet.now)
    (files_by C.exchanges C.held C.fetch_faults C.store_faults c.fetch_once.new.cabinet)
    c.in-Err-Long.field-0 c.in-Err-Long.ensures.passed c.in-Err-Long.field-0-0
    c.in-Err-Long.field-0-is c.in-Err-Long.ensures.long c.in-Err-Long.ensures.kept report
    (subst (λ (style : Style). Says (TellsLimit style 701 []) report) c.style_in.ensures
    (c.in_ok-report_of_bare_limit-in-Err-Long).ensures)

pub returns-in-Err-Failed : goal.returns-in-Err-Failed
returns-in-Err-Failed g c =
    let C = g.C.Cabinet in
    failed_unreadied (plain c.args.command) c.in-Some.file.now
    (sym c.file_in.ensures ∙ ap option_copied c.in-Some.is) C.tells
    (files_by C.exchanges C.held C.fetch_faults C.store_faults c.args.cabinet.now)
    (files_by C.exchanges C.held C.fetch_faults C.store_faults c.fetch_once.new.cabinet)
    c.in-Err-Failed.field-0 c.in-Err-Failed.ensures.passed c.in-Err-Failed.field-0-is
    (c.in-Err-Failed.ensures.failed (ap Err c.in-Err-Failed.field-0-is))

pub returns-in-Some : goal.returns-in-Some
returns-in-Some g c =
    let C = g.C.Cabinet in
    spent_unreadied (plain c.args.command) c.in-Some.file.now
    (sym c.file_in.ensures ∙ ap option_copied c.in-Some.is) C.tells
    (files_by C.exchanges C.held C.fetch_faults C.store_faults c.args.cabinet.now)
    (files_by C.exchanges C.held C.fetch_faults C.store_faults c.fetch_once.new.cabinet)
    c.in-Err-OutOfMemory.field-0 c.in-Err-OutOfMemory.ensures.passed
    c.in-Err-OutOfMemory.field-0-is

pub returns-in_err-report_of_bare_limit-in-Err-Long :
    goal.returns-in_err-report_of_bare_limit-in-Err-Long
returns-in_err-report_of_bare_limit-in-Err-Long g c =
    let C = g.C.Cabinet in
    long_unreadied (plain c.args.command) c.in-Some.file.now
    (sym c.file_in.ensures ∙ ap option_copied c.in-Some.is) C.tells
    (files_by C.exchanges C.held C.fetch_faults C.store_faults c.args.cabinet.now)
    (files_by C.exchanges C.held C.fetch_faults C.store_faults c.fetch_once.new.cabinet)
    c.in-Err-Long.field-0 c.in-Err-Long.ensures.passed c.in-Err-Long.field-0-0
    c.in-Err-Long.field-0-is c.from_residual.result c.from_residual.ensures.1
