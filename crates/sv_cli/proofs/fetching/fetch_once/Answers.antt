use Rattle.sv_io.specs.Traffic.{files_by}
use Rattle.sv_cli.proofs.Passing.{fetch_passed, fetch_kept}
use Rattle.sv_cli.proofs.fetching.fetch_once.Goals as goal

pub returns-clause-passed : goal.returns-clause-passed
returns-clause-passed g c =
    let C = g.C.Cabinet in
    fetch_passed C.tells
    (files_by C.exchanges C.held C.fetch_faults C.store_faults c.args.cabinet.now)
    (files_by C.exchanges C.held C.fetch_faults C.store_faults c.fetch.new.self)
    c.args.file.now c.args.most c.fetch.result c.fetch.ensures.exchange c.fetch.ensures.whole
    c.fetch.ensures.long_length c.fetch.ensures.long_front c.fetch.ensures.long_cause
    c.fetch.ensures.unchanged

pub returns-clause-kept : goal.returns-clause-kept
returns-clause-kept g c =
    let C = g.C.Cabinet in
    fetch_kept (files_by C.exchanges C.held C.fetch_faults C.store_faults c.args.cabinet.now)
    (files_by C.exchanges C.held C.fetch_faults C.store_faults c.fetch.new.self) c.fetch.result
    c.fetch.ensures.kept c.fetch.ensures.store_counts
