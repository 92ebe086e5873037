use Rattle.std.proofs.Common.{◌+◌, take, refl, ◌∙◌, arith}
use Rattle.sv_proof.specs.Certificate.{plain_logs}
use Rattle.sv_proof.proofs.LinePlaces.{lines_more, line_small, line_of_first, few_of_first}
use Rattle.sv_proof.proofs.lines.line_behind.Goals as goal

pub overflow_add-line-in-logs : goal.overflow_add-line-in-logs
overflow_add-line-in-logs c =
    let first = take c.args.count c.args.logs.now in
    let more = lines_more first c.logs.log-index c.log-item.result (omega arith) c.log-item.is in
    let small = line_small (plain_logs first) (c.logs.log-index + 1)
    (few_of_first c.args.logs.now first c.args.count refl c.requires.lines) in
    omega (arith, c.len.ensures, c.logs.invariant)

pub logs-preserved : goal.logs-preserved
logs-preserved c =
    let first = take c.args.count c.args.logs.now in
    let more = lines_more first c.logs.log-index c.log-item.result (omega arith) c.log-item.is in
    omega (arith, c.len.ensures, c.logs.invariant)

pub returns-clause-line : goal.returns-clause-line
returns-clause-line c =
    let first = take c.args.count c.args.logs.now in
    c.logs.invariant
    ∙ line_of_first c.args.logs.now first c.args.count c.logs.log-index refl (omega arith)

pub returns-clause-small : goal.returns-clause-small
returns-clause-small c =
    let first = take c.args.count c.args.logs.now in
    let small = line_small (plain_logs first) c.logs.log-index
    (few_of_first c.args.logs.now first c.args.count refl c.requires.lines) in
    omega (arith, c.logs.invariant)
