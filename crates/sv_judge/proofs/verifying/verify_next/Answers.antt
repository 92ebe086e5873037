use Rattle.std.proofs.Common.{subst}
use Rattle.sv_clause.specs.Logs.{plain_log}
use Rattle.sv_flat.specs.Views.{design_of}
use Rattle.sv_obl.specs.Views.{obligation_of}
use Rattle.sv_proof.specs.Certificate.{plain_logs}
use Rattle.sv_accept.specs.Accepting.{HasQueryFault}
use Rattle.sv_judge.proofs.VerifyFacts.{shown_next, fails_first, too_large, log_at, log_inside}
use Rattle.sv_judge.proofs.VerifyFacts.{log_short}
use Rattle.sv_judge.proofs.verifying.verify_next.Goals as goal

pub bounds-logs-place : goal.bounds-logs-place
bounds-logs-place c =
    log_inside (design_of c.args.design.now) c.args.logs.now c.args.place
    (obligation_of c.args.query.now) c.requires.logs c.requires.next.among

pub check_query-requires-clause-steps : goal.check_query-requires-clause-steps
check_query-requires-clause-steps c =
    let design = design_of c.args.design.now in
    let o = obligation_of c.args.query.now in
    let log = c.index-logs-place.result in
    let inside = log_inside design c.args.logs.now c.args.place o c.requires.logs
    c.requires.next.among in
    log_short design c.args.logs.now c.args.place log c.requires.logs
    (log_at design c.args.logs.now c.args.place log inside c.index-logs-place.is)

pub returns-in-Ok-clause-shown : goal.returns-in-Ok-clause-shown
returns-in-Ok-clause-shown c =
    let design = design_of c.args.design.now in
    let o = obligation_of c.args.query.now in
    let log = c.index-logs-place.result in
    let inside = log_inside design c.args.logs.now c.args.place o c.requires.logs
    c.requires.next.among in
    shown_next design (plain_logs c.args.logs.now) c.args.place o (plain_log log)
    c.requires.next.among
    (log_at design c.args.logs.now c.args.place log inside c.index-logs-place.is)
    c.requires.shown c.in-Ok.ensures.refuted

pub line_of_fault-requires-clause-inside : goal.line_of_fault-requires-clause-inside
line_of_fault-requires-clause-inside c =
    log_inside (design_of c.args.design.now) c.args.logs.now c.args.place
    (obligation_of c.args.query.now) c.requires.logs c.requires.next.among

pub returns-in-Err-Log-clause-flaw : goal.returns-in-Err-Log-clause-flaw
returns-in-Err-Log-clause-flaw c =
    let design = design_of c.args.design.now in
    let o = obligation_of c.args.query.now in
    let log = c.index-logs-place.result in
    let inside = log_inside design c.args.logs.now c.args.place o c.requires.logs
    c.requires.next.among in
    let fails =
    subst (HasQueryFault design o (plain_log log)) c.in-Err-Log.field-0-is
    c.in-Err-Log.ensures.fault in
    fails_first design (plain_logs c.args.logs.now) c.args.place o (plain_log log)
    c.in-Err-Log.fault c.line_of_fault.result c.requires.logs c.requires.next.among
    (log_at design c.args.logs.now c.args.place log inside c.index-logs-place.is)
    c.requires.shown fails.0 fails.1 fails.2 c.line_of_fault.ensures

pub returns-in-Err-TooLarge-clause-flaw : goal.returns-in-Err-TooLarge-clause-flaw
returns-in-Err-TooLarge-clause-flaw c =
    let design = design_of c.args.design.now in
    let o = obligation_of c.args.query.now in
    too_large design (plain_logs c.args.logs.now) c.args.place o c.requires.logs
    c.requires.next.among c.requires.shown
    (subst (HasQueryFault design o (plain_log c.index-logs-place.result))
    c.in-Err-TooLarge.field-0-is c.in-Err-TooLarge.ensures.fault)
