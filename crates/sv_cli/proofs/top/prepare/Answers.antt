use Rattle.std.proofs.Common.{[], subst, inl, refl}
use Rattle.std.specs.Prelude.{Result, Err}
use Rattle.sv_io.specs.Traffic.{files_by}
use Rattle.sv_words.specs.Words.{words_of, plain, IsFaultOf}
use Rattle.sv_cli.specs.declared.prepared.NoReport.{NoReport}
use Rattle.sv_cli.specs.declared.prepared.NoReport.TheVariants.{OutOfMemory}
use Rattle.sv_cli.specs.declared.prepared.Prepared.{Prepared}
use Rattle.sv_cli.specs.Dialogues.{IsExchanged}
use Rattle.sv_cli.specs.Prepared.{PreparesWords}
use Rattle.sv_cli.proofs.Passing.{none_passed, spent_readied}
use Rattle.sv_cli.proofs.Preparing.{words_readied, misuse_readied}
use Rattle.sv_cli.proofs.top.prepare.Goals as goal

pub returns-in-Ok : goal.returns-in-Ok
returns-in-Ok g c =
    let C = g.C.Cabinet in
    words_readied (words_of c.args.words.now) (plain c.in-Ok.command) c.in-Ok.ensures.asked.0
    c.in-Ok.ensures.asked.1 C.tells
    (files_by C.exchanges C.held C.fetch_faults C.store_faults c.args.cabinet.now)
    (files_by C.exchanges C.held C.fetch_faults C.store_faults c.prepare_command.new.cabinet)
    c.prepare_command.result c.prepare_command.ensures

pub returns-in_ok-report_of_misuse-in-Err-Usage :
    goal.returns-in_ok-report_of_misuse-in-Err-Usage
returns-in_ok-report_of_misuse-in-Err-Usage g c =
    let C = g.C.Cabinet in
    misuse_readied (words_of c.args.words.now) C.tells
    (files_by C.exchanges C.held C.fetch_faults C.store_faults c.args.cabinet.now)
    c.in-Err-Usage.kind (c.in_ok-report_of_misuse-in-Err-Usage).field-0
    (subst (IsFaultOf (words_of c.args.words.now)) c.in-Err-Usage.field-0-is
    c.in-Err-Usage.ensures.asked)
    (c.in_ok-report_of_misuse-in-Err-Usage).ensures.answer
    (c.in_ok-report_of_misuse-in-Err-Usage).ensures.text

-- memory ran out

pub returns-in_err-report_of_misuse-in-Err-Usage :
    goal.returns-in_err-report_of_misuse-in-Err-Usage
returns-in_err-report_of_misuse-in-Err-Usage g c =
    let C = g.C.Cabinet in
    let files = files_by C.exchanges C.held C.fetch_faults C.store_faults c.args.cabinet.now in
    let words = words_of c.args.words.now in
    spent_readied (IsExchanged words) (PreparesWords words) C.tells files files []
    c.from_residual.result (none_passed C.tells files) (inl refl) c.from_residual.ensures.1

pub returns-in-Err-OutOfMemory : goal.returns-in-Err-OutOfMemory
returns-in-Err-OutOfMemory g c =
    let C = g.C.Cabinet in
    let files = files_by C.exchanges C.held C.fetch_faults C.store_faults c.args.cabinet.now in
    let words = words_of c.args.words.now in
    let r : Result Prepared NoReport = Err OutOfMemory in
    spent_readied (IsExchanged words) (PreparesWords words) C.tells files files [] r
    (none_passed C.tells files) (inl refl) refl
