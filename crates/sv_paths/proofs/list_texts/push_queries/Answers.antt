use Rattle.std.proofs.Common.{◌+◌, length, map, take}
use Rattle.sv_flat.specs.ByNumber.{signal_forms}
use Rattle.sv_obl.specs.Views.{obligation_of, IsAmong}
use Rattle.sv_obl.proofs.FormLists.{formed_at}
use Rattle.sv_paths.proofs.WrittenFacts.{formed_more, fewer, none_written, one_written}
use Rattle.sv_paths.proofs.list_texts.push_queries.Goals as goal

pub loop-query-init : goal.loop-query-init
loop-query-init c = none_written (signal_forms c.args.signals.now) c.args.lines.now

pub push_query-requires-clause-among : goal.push_query-requires-clause-among
push_query-requires-clause-among c =
    formed_at (IsAmong (length c.args.signals.now)) obligation_of c.args.queries.now
    c.loop-query.query-index c.query-item.result c.requires.among c.loop-query-test.true
    c.query-item.is

pub push_query-requires-clause-few : goal.push_query-requires-clause-few
push_query-requires-clause-few c =
    fewer (signal_forms c.args.signals.now) obligation_of c.args.queries.now
    c.loop-query.query-index 65536 c.args.lines.now c.loop-query.lines c.loop-query-test.true
    c.requires.few c.loop-query.invariant

pub loop-query-preserved : goal.loop-query-preserved
loop-query-preserved c =
    let queries = c.args.queries.now in
    let i = c.loop-query.query-index in
    let x = c.query-item.result in
    one_written (signal_forms c.args.signals.now) (map obligation_of (take i queries))
    (map obligation_of (take (i + 1) queries)) (obligation_of x) c.args.lines.now
    c.loop-query.lines c.push_query.new.lines
    (formed_more obligation_of queries i x c.loop-query-test.true c.query-item.is)
    c.loop-query.invariant c.in_ok-push_query.ensures
