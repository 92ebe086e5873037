use Rattle.std.proofs.Common.{◌≡◌, ℕ, List, [], Option, subst, inl, refl}
use Rattle.std.specs.Prelude.{Result, Err}
use Rattle.std.specs.Option.{option_copied}
use Rattle.sv_flat.specs.Views.{design_of}
use Rattle.sv_io.specs.Traffic.{files_by}
use Rattle.sv_words.specs.Words.{plain}
use Rattle.sv_report.specs.Styles.{refusal_in}
use Rattle.sv_report.specs.declared.styles.Style.{Style}
use Rattle.sv_cli.specs.Texts.{StandsFor, BreaksFirst, Passes}
use Rattle.sv_cli.specs.Command.{top_in}
use Rattle.sv_cli.specs.Report.{IsFaultBy}
use Rattle.sv_cli.specs.declared.prepared.NoReport.{NoReport}
use Rattle.sv_cli.specs.declared.prepared.NoReport.TheVariants.{OutOfMemory}
use Rattle.sv_cli.specs.declared.prepared.Prepared.{Prepared}
use Rattle.sv_cli.specs.Prepared.{MayExchangeOf, PreparesText}
use Rattle.sv_cli.proofs.Passing.{none_passed, spent_readied}
use Rattle.sv_cli.proofs.Preparing.{design_readied, refusal_readied}
use Rattle.sv_cli.proofs.prepared.prepare_text.Goals as goal

pub returns-in-Ok : goal.returns-in-Ok
returns-in-Ok g c =
    let C = g.C.Cabinet in
    let request = plain c.args.command in
    let text = c.args.bytes.now in
    let design = design_of c.in-Ok.design in
    let passes : Passes (top_in request) text = record {
      design = design;
      stands =
          subst (λ (top : Option (List ℕ)). StandsFor top text design) c.top_in.ensures
          c.in-Ok.ensures.stands;
      admitted = c.in-Ok.ensures.admitted;
    } in
    design_readied request text C.tells passes
    (files_by C.exchanges C.held C.fetch_faults C.store_faults c.args.cabinet.now)
    (files_by C.exchanges C.held C.fetch_faults C.store_faults c.prepare_design.new.cabinet)
    c.prepare_design.result c.prepare_design.ensures

pub returns-in-Err-Rule : goal.returns-in-Err-Rule
returns-in-Err-Rule g c =
    let C = g.C.Cabinet in
    let refusal = c.in-Err-Rule.refusal in
    let request = plain c.args.command in
    let text = c.args.bytes.now in
    refusal_readied request text C.tells
    (files_by C.exchanges C.held C.fetch_faults C.store_faults c.args.cabinet.now)
    (c.in_ok-report_of_refusal-in-Err-Rule).field-0 refusal.number refusal.place
    refusal.names.items
    (subst (λ (top : Option (List ℕ)).
    BreaksFirst top text refusal.number refusal.place refusal.names.items) c.top_in.ensures
    (subst (IsFaultBy (BreaksFirst (option_copied c.top_in.result) text))
    c.in-Err-Rule.field-0-is c.in-Err-Rule.ensures.broken))
    (c.in_ok-report_of_refusal-in-Err-Rule).ensures.answer
    (subst (λ (style : Style). (c.in_ok-report_of_refusal-in-Err-Rule).field-0.text.items
    ≡ refusal_in style refusal.number refusal.place refusal.names.items) c.style_in-style.ensures
    (c.in_ok-report_of_refusal-in-Err-Rule).ensures.text)

-- memory ran out

pub returns-in_err-report_of_refusal-in-Err-Rule :
    goal.returns-in_err-report_of_refusal-in-Err-Rule
returns-in_err-report_of_refusal-in-Err-Rule g c =
    let C = g.C.Cabinet in
    let files = files_by C.exchanges C.held C.fetch_faults C.store_faults c.args.cabinet.now in
    let request = plain c.args.command in
    let text = c.args.bytes.now in
    spent_readied (MayExchangeOf request text) (PreparesText request text) C.tells files files []
    c.from_residual.result (none_passed C.tells files) (inl refl) c.from_residual.ensures.1

pub returns : goal.returns
returns g c =
    let C = g.C.Cabinet in
    let files = files_by C.exchanges C.held C.fetch_faults C.store_faults c.args.cabinet.now in
    let request = plain c.args.command in
    let text = c.args.bytes.now in
    let r : Result Prepared NoReport = Err OutOfMemory in
    spent_readied (MayExchangeOf request text) (PreparesText request text) C.tells files files []
    r (none_passed C.tells files) (inl refl) refl
