use Rattle.std.proofs.Common.{map, sym, subst, arith}
use Rattle.sv_flat.specs.Views.{design_of}
use Rattle.sv_obl.specs.Views.{obligation_of}
use Rattle.sv_proof.specs.Certificate.{plain_logs}
use Rattle.sv_accept.specs.Accepting.{HasAcceptFault}
use Rattle.sv_accept.proofs.Accepted.{asked_here, few_here, accepted_more, numbered_first}
use Rattle.sv_accept.proofs.logs.check_queries.Goals as goal

pub queries-init : goal.queries-init
queries-init c = (tt, c.in_ok-coder.ensures)

pub check_query-requires-clause-query : goal.check_query-requires-clause-query
check_query-requires-clause-query c =
    asked_here (design_of c.args.design.now) c.args.queries.now c.args.logs.now c.queries.i
    c.index-queries-i.result c.index-logs-i.result (omega arith) (omega arith)
    c.index-queries-i.is c.index-logs-i.is c.requires.queries

pub check_query-requires-clause-steps : goal.check_query-requires-clause-steps
check_query-requires-clause-steps c =
    few_here (design_of c.args.design.now) c.args.queries.now c.args.logs.now c.queries.i
    c.index-queries-i.result c.index-logs-i.result (omega arith) (omega arith)
    c.index-queries-i.is c.index-logs-i.is c.requires.steps

pub returns-in-Err-clause-fault : goal.returns-in-Err-clause-fault
returns-in-Err-clause-fault c =
    let design = design_of c.args.design.now in
    subst (HasAcceptFault design (map obligation_of c.args.queries.now)
    (plain_logs c.args.logs.now)) (sym c.fault_of.ensures)
    (numbered_first design c.args.queries.now c.args.logs.now c.queries.i
    c.index-queries-i.result c.index-logs-i.result (omega arith) (omega arith)
    c.index-queries-i.is c.index-logs-i.is c.in-Err.fault c.queries.invariant.0
    c.in-Err.ensures.fault)

pub queries-preserved : goal.queries-preserved
queries-preserved c = (
  accepted_more (design_of c.args.design.now) c.args.queries.now c.args.logs.now c.queries.i
      c.index-queries-i.result c.index-logs-i.result (omega arith) (omega arith)
      c.index-queries-i.is c.index-logs-i.is c.queries.invariant.0 c.in-Ok.ensures.refuted,
  c.check_query.ensures.coder,
)
