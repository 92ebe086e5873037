use Rattle.std.proofs.Common.{sym, subst}
use Rattle.sv_io.specs.Traffic.{files_by}
use Rattle.sv_words.specs.Words.{plain}
use Rattle.sv_words.specs.declared.command.Command.{Command}
use Rattle.sv_cli.specs.Prepared.{ReadiesFor}
use Rattle.sv_cli.proofs.Preparing.{gen_readied}
use Rattle.sv_cli.proofs.top.prepare_alone.Goals as goal

pub returns : goal.returns
returns g c =
    let C = g.C.Cabinet in
    let old = files_by C.exchanges C.held C.fetch_faults C.store_faults c.args.cabinet.now in
    let new =
    files_by C.exchanges C.held C.fetch_faults C.store_faults c.prepare_sample.new.cabinet in
    let r = c.prepare_sample.result in
    subst (λ (k : Command). ReadiesFor (plain k) C.tells old new r) (sym c.in-Gen.is)
    (gen_readied c.in-Gen.lanes c.in-Gen.check C.tells old new r
    c.prepare_sample.ensures)
