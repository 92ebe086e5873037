use Rattle.std.proofs.Common.{Option, None, List, ℕ, sym, refl, subst}
use Rattle.std.specs.Prelude.{Result, Ok}
use Rattle.std.specs.Option.{option_copied}
use denote.Ref.{Bor}
use Rattle.sv_io.specs.Traffic.{files_by}
use Rattle.sv_proof.specs.Certificate.{plain_logs, proof_text}
use Rattle.sv_cli.specs.declared.prepared.NoReport.{NoReport}
use Rattle.sv_cli.specs.Prepared.{Readies, MayStoreBytes, StoresBytes}
use Rattle.sv_cli.proofs.Passing.{made_readied}
use Rattle.sv_cli.proofs.checking.store_proof.Goals as goal

pub returns-in-Some : goal.returns-in-Some
returns-in-Some g c =
    let C = g.C.Cabinet in
    let text = proof_text (plain_logs c.args.logs.now) in
    subst (λ (p : Option (Bor (List ℕ))). Readies (MayStoreBytes (option_copied p) text)
    (λ exchanges _. StoresBytes (option_copied p) text exchanges) C.tells
    (files_by C.exchanges C.held C.fetch_faults C.store_faults c.args.cabinet.now)
    (files_by C.exchanges C.held C.fetch_faults C.store_faults c.store_logs.new.cabinet)
    c.store_logs.result) (sym c.in-Some.is) c.store_logs.ensures

pub returns-in-None : goal.returns-in-None
returns-in-None g c =
    let C = g.C.Cabinet in
    let text = proof_text (plain_logs c.args.logs.now) in
    let files = files_by C.exchanges C.held C.fetch_faults C.store_faults c.args.cabinet.now in
    subst (λ (p : Option (Bor (List ℕ))). let r : Result (Unit {0}) NoReport = Ok (tt {0}) in
    Readies (MayStoreBytes (option_copied p) text)
    (λ exchanges _. StoresBytes (option_copied p) text exchanges) C.tells files files r)
    (sym c.in-None.is)
    (made_readied (MayStoreBytes None text) (λ exchanges _. StoresBytes None text exchanges)
    C.tells files (tt {0}) refl refl)
