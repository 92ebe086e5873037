use Rattle.std.proofs.Common.{◌≡◌, ◌⊎◌, [], sym, ap, inl, refl}
use Rattle.std.specs.Option.{is_some}
use Rattle.sv_flat.specs.Views.{design_of}
use Rattle.sv_io.specs.Traffic.{files_by}
use Rattle.sv_cli.specs.declared.prepared.Prepared.TheVariants.{Whole}
use Rattle.sv_cli.specs.Comparing.{ComparesAt, ComparesDesign, MayFetchStimuli}
use Rattle.sv_cli.specs.Dialogues.{MayFetchBoth}
use Rattle.sv_cli.specs.Prepared.{Reports, Says}
use Rattle.sv_cli.proofs.ComparedFiles.{may_fetch_both, point_says, no_point}
use Rattle.sv_cli.proofs.OneFetch.{whole_readied}
use Rattle.sv_cli.proofs.Passing.{none_passed, made_readied, spent_readied, passed_on}
use Rattle.sv_cli.proofs.comparing.compare_design.Goals as goal

pub returns-in_ok-compare_files-in-Some : goal.returns-in_ok-compare_files-in-Some
returns-in_ok-compare_files-in-Some g c =
    let C = g.C.Cabinet in
    let design = design_of c.args.design.now in
    let a = c.args.a.now in
    let b = c.args.b.now in
    let level = c.args.level.now in
    let point = c.in-Some.point in
    let is_named = sym c.in-Some.ensures.point in
    whole_readied (λ exchanges. (exchanges ≡ []) ⊎ MayFetchBoth a b exchanges)
    (MayFetchStimuli a b level design) (ComparesAt a b design point) (ComparesDesign a b level design)
    C.tells
    (files_by C.exchanges C.held C.fetch_faults C.store_faults c.args.cabinet.now)
    (files_by C.exchanges C.held C.fetch_faults C.store_faults c.compare_files.new.cabinet)
    (may_fetch_both a b level design point is_named) (point_says a b level design point is_named)
    c.in_ok-compare_files-in-Some.field-0 c.in_ok-compare_files-in-Some.ensures

pub returns-in_err-compare_files-in-Some : goal.returns-in_err-compare_files-in-Some
returns-in_err-compare_files-in-Some g c =
    let C = g.C.Cabinet in
    let design = design_of c.args.design.now in
    let a = c.args.a.now in
    let b = c.args.b.now in
    let level = c.args.level.now in
    let point = c.in-Some.point in
    let is_named = sym c.in-Some.ensures.point in
    passed_on (λ exchanges. (exchanges ≡ []) ⊎ MayFetchBoth a b exchanges)
    (MayFetchStimuli a b level design)
    (λ exchanges. Says (ComparesAt a b design point exchanges))
    (λ exchanges. Reports (ComparesDesign a b level design exchanges)) C.tells
    (files_by C.exchanges C.held C.fetch_faults C.store_faults c.args.cabinet.now)
    (files_by C.exchanges C.held C.fetch_faults C.store_faults c.compare_files.new.cabinet)
    c.in_err-compare_files-in-Some.field-0.0 c.from_residual.result
    (may_fetch_both a b level design point is_named) c.in_err-compare_files-in-Some.ensures
    c.from_residual.ensures.1

pub returns-in_ok-report_of_bare_limit-in-None : goal.returns-in_ok-report_of_bare_limit-in-None
returns-in_ok-report_of_bare_limit-in-None g c =
    let C = g.C.Cabinet in
    let design = design_of c.args.design.now in
    let a = c.args.a.now in
    let b = c.args.b.now in
    let level = c.args.level.now in
    let files = files_by C.exchanges C.held C.fetch_faults C.store_faults c.args.cabinet.now in
    let report = c.in_ok-report_of_bare_limit-in-None.field-0 in
    made_readied (MayFetchStimuli a b level design)
    (λ exchanges. Reports (ComparesDesign a b level design exchanges)) C.tells files
    (Whole report) (inl refl)
    (no_point a b level design (ap is_some (sym c.in-None.ensures.point)) report
    c.in_ok-report_of_bare_limit-in-None.ensures)

pub returns-in_err-report_of_bare_limit-in-None : goal.returns-in_err-report_of_bare_limit-in-None
returns-in_err-report_of_bare_limit-in-None g c =
    let C = g.C.Cabinet in
    let design = design_of c.args.design.now in
    let a = c.args.a.now in
    let b = c.args.b.now in
    let level = c.args.level.now in
    let files = files_by C.exchanges C.held C.fetch_faults C.store_faults c.args.cabinet.now in
    spent_readied (MayFetchStimuli a b level design)
    (λ exchanges. Reports (ComparesDesign a b level design exchanges)) C.tells files files []
    c.from_residual-in_err-report_of_bare_limit-in-None.result (none_passed C.tells files)
    (inl refl) c.from_residual-in_err-report_of_bare_limit-in-None.ensures.1
