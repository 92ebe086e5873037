use Rattle.std.proofs.Common.{List, [], Option, ℕ, sym, subst, refl}
use Rattle.std.specs.Prelude.{option_map, string_bytes, Ok, Result}
use Rattle.sv_flat.specs.Views.{design_of}
use Rattle.sv_io.specs.Traffic.{files_by}
use Rattle.sv_words.specs.Words.{plain, HasBudget}
use Rattle.sv_words.specs.declared.command.Command.{Command}
use Rattle.sv_report.specs.declared.styles.Style.{Style}
use Rattle.sv_cli.specs.declared.prepared.NoReport.{NoReport}
use Rattle.sv_cli.specs.declared.prepared.Prepared.{Prepared}
use Rattle.sv_cli.specs.declared.prepared.Prepared.TheVariants.{Simulation}
use Rattle.sv_cli.specs.Checks.{Checks}
use Rattle.sv_cli.specs.Comparing.{ComparesDesign, MayFetchStimuli}
use Rattle.sv_cli.specs.Verifies.{Verifies}
use Rattle.sv_cli.specs.Prepared.{Readies, Reports, MayOwn, MayStoreOwn, MayFetchOwn, PreparesOwn}
use Rattle.sv_cli.proofs.Passing.{none_passed, spent_readied}
use Rattle.sv_cli.proofs.Preparing.{check_readied, verify_readied, list_readied, cnf_readied}
use Rattle.sv_cli.proofs.Preparing.{sim_readied, compare_readied, none_own}
use Rattle.sv_cli.proofs.prepared.prepare_design.Goals as goal

pub returns-in-Check : goal.returns-in-Check
returns-in-Check g c =
    let C = g.C.Cabinet in
    let old = files_by C.exchanges C.held C.fetch_faults C.store_faults c.args.cabinet.now in
    let new =
    files_by C.exchanges C.held C.fetch_faults C.store_faults c.check_design.new.cabinet in
    let design = design_of c.args.design in
    let budget = c.in-Check.budget in
    let name = option_map string_bytes c.in-Check.proof in
    let r = c.check_design.result in
    subst (λ (k : Command).
    Readies (MayOwn (plain k) design) (PreparesOwn (plain k) design) C.tells old new r)
    (sym c.in-Check.is)
    (check_readied C.tells old new design (string_bytes c.in-Check.file)
    (option_map string_bytes c.in-Check.top) r name budget c.in-Check.json
    (subst (λ (told : Style). Readies (MayStoreOwn name design budget)
    (λ exchanges. Reports (Checks told name budget design exchanges)) C.tells old new r)
    c.style_of.ensures
    (subst (λ (n : Option (List ℕ)). Readies (MayStoreOwn n design budget)
    (λ exchanges. Reports (Checks c.style_of.result n budget design exchanges)) C.tells old new r)
    c.as_deref.ensures.value c.check_design.ensures)))

pub returns-in-Verify : goal.returns-in-Verify
returns-in-Verify g c =
    let C = g.C.Cabinet in
    let old = files_by C.exchanges C.held C.fetch_faults C.store_faults c.args.cabinet.now in
    let new =
    files_by C.exchanges C.held C.fetch_faults C.store_faults c.verify_design.new.cabinet in
    let design = design_of c.args.design in
    let r = c.verify_design.result in
    subst (λ (k : Command).
    Readies (MayOwn (plain k) design) (PreparesOwn (plain k) design) C.tells old new r)
    (sym c.in-Verify.is)
    (verify_readied C.tells old new design (string_bytes c.in-Verify.file)
    (option_map string_bytes c.in-Verify.top) r (string_bytes c.in-Verify.proof)
    (subst (λ (name : List ℕ). Readies (MayFetchOwn name design)
    (λ exchanges. Reports (Verifies name design exchanges)) C.tells old new r)
    c.deref.ensures c.verify_design.ensures))

-- memory ran out over the answer

pub returns-in_err-lines_of_design-in-List : goal.returns-in_err-lines_of_design-in-List
returns-in_err-lines_of_design-in-List g c =
    let C = g.C.Cabinet in
    let files = files_by C.exchanges C.held C.fetch_faults C.store_faults c.args.cabinet.now in
    let request = plain c.args.command in
    let design = design_of c.args.design in
    spent_readied (MayOwn request design) (PreparesOwn request design) C.tells files files []
    c.from_residual.result (none_passed C.tells files) (none_own request design)
    c.from_residual.ensures.1

pub returns-in-List : goal.returns-in-List
returns-in-List g c =
    let C = g.C.Cabinet in
    let files = files_by C.exchanges C.held C.fetch_faults C.store_faults c.args.cabinet.now in
    let design = design_of c.args.design in
    let prepared = (c.in_ok-lines_of_design-in-List).field-0 in
    let r : Result Prepared NoReport = Ok prepared in
    subst (λ (k : Command).
    Readies (MayOwn (plain k) design) (PreparesOwn (plain k) design) C.tells files files r)
    (sym c.in-List.is)
    (list_readied C.tells files design (string_bytes c.in-List.file)
    (option_map string_bytes c.in-List.top) prepared (c.in_ok-lines_of_design-in-List).ensures)

pub returns-in_err-clauses_of_design-in-Cnf : goal.returns-in_err-clauses_of_design-in-Cnf
returns-in_err-clauses_of_design-in-Cnf g c =
    let C = g.C.Cabinet in
    let files = files_by C.exchanges C.held C.fetch_faults C.store_faults c.args.cabinet.now in
    let request = plain c.args.command in
    let design = design_of c.args.design in
    spent_readied (MayOwn request design) (PreparesOwn request design) C.tells files files []
    (c.from_residual-in_err-clauses_of_design-in-Cnf).result (none_passed C.tells files)
    (none_own request design) (c.from_residual-in_err-clauses_of_design-in-Cnf).ensures.1

pub returns-in-Cnf : goal.returns-in-Cnf
returns-in-Cnf g c =
    let C = g.C.Cabinet in
    let files = files_by C.exchanges C.held C.fetch_faults C.store_faults c.args.cabinet.now in
    let design = design_of c.args.design in
    let prepared = (c.in_ok-clauses_of_design-in-Cnf).field-0 in
    let r : Result Prepared NoReport = Ok prepared in
    subst (λ (k : Command).
    Readies (MayOwn (plain k) design) (PreparesOwn (plain k) design) C.tells files files r)
    (sym c.in-Cnf.is)
    (cnf_readied C.tells files design (string_bytes c.in-Cnf.file)
    (option_map string_bytes c.in-Cnf.top) prepared c.in-Cnf.number
    (c.in_ok-clauses_of_design-in-Cnf).ensures)

pub returns-in-Sim : goal.returns-in-Sim
returns-in-Sim g c =
    let C = g.C.Cabinet in
    let files = files_by C.exchanges C.held C.fetch_faults C.store_faults c.args.cabinet.now in
    let design = design_of c.args.design in
    let prepared = Simulation c.args.design c.in-Sim.level c.in-Sim.order in
    let r : Result Prepared NoReport = Ok prepared in
    subst (λ (k : Command).
    Readies (MayOwn (plain k) design) (PreparesOwn (plain k) design) C.tells files files r)
    (sym c.in-Sim.is)
    (sim_readied C.tells files design (string_bytes c.in-Sim.file)
    (option_map string_bytes c.in-Sim.top) prepared (option_map string_bytes c.in-Sim.level)
    c.in-Sim.order (refl, refl, refl))

pub check_design-requires-clause-some : goal.check_design-requires-clause-some
check_design-requires-clause-some g c =
    (subst (λ (k : Command). HasBudget (plain k)) c.in-Check.is c.requires.budget).0

pub check_design-requires-clause-most : goal.check_design-requires-clause-most
check_design-requires-clause-most g c =
    (subst (λ (k : Command). HasBudget (plain k)) c.in-Check.is c.requires.budget).1

pub returns-in-Compare : goal.returns-in-Compare
returns-in-Compare g c =
    let C = g.C.Cabinet in
    let old = files_by C.exchanges C.held C.fetch_faults C.store_faults c.args.cabinet.now in
    let new =
    files_by C.exchanges C.held C.fetch_faults C.store_faults c.compare_design.new.cabinet in
    let design = design_of c.args.design in
    let a = string_bytes c.in-Compare.a in
    let b = string_bytes c.in-Compare.b in
    let level = string_bytes c.in-Compare.level in
    let r = c.compare_design.result in
    subst (λ (k : Command).
    Readies (MayOwn (plain k) design) (PreparesOwn (plain k) design) C.tells old new r)
    (sym c.in-Compare.is)
    (compare_readied C.tells old new design (string_bytes c.in-Compare.file)
    (option_map string_bytes c.in-Compare.top) r a b level
    (subst (λ (n : List ℕ). Readies (MayFetchStimuli n b level design)
    (λ exchanges. Reports (ComparesDesign n b level design exchanges)) C.tells old new r)
    c.deref-in-Compare.ensures
    (subst (λ (n : List ℕ).
    Readies (MayFetchStimuli c.deref-in-Compare.result.now n level design)
    (λ exchanges. Reports
    (ComparesDesign c.deref-in-Compare.result.now n level design exchanges)) C.tells old new r)
    c.deref-in-Compare-2.ensures
    (subst (λ (n : List ℕ). Readies (MayFetchStimuli c.deref-in-Compare.result.now
    c.deref-in-Compare-2.result.now n design)
    (λ exchanges. Reports (ComparesDesign c.deref-in-Compare.result.now
    c.deref-in-Compare-2.result.now n design exchanges)) C.tells old new r)
    c.deref-in-Compare-3.ensures c.compare_design.ensures))))
