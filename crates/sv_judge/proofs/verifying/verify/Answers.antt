use Rattle.std.proofs.Common.{◌<◌, ◌^◌, ℕ, List, length, sym, ◌∙◌, ap, subst}
use Rattle.std.specs.Prelude.{IfOk}
use Rattle.sv_clause.specs.declared.logs.Log.{Log}
use Rattle.sv_flat.specs.Views.{design_of}
use Rattle.sv_proof.specs.Certificate.{AreLogs, plain_logs, proof_lines, proof_text}
use Rattle.sv_judge.specs.Verifying.{IsVerdict}
use Rattle.sv_judge.proofs.VerifyFacts.{accepted_of, count_of, fault_of, large_of, broken_is}
use Rattle.sv_judge.proofs.verifying.verify.Goals as goal

pub verify_logs-requires-clause-logs : goal.verify_logs-requires-clause-logs
verify_logs-requires-clause-logs c =
    subst (λ (ls : List Log). AreLogs (plain_logs ls)) (sym c.deref.ensures.value)
    c.in-Ok.ensures.logs

pub verify_logs-requires-clause-lines : goal.verify_logs-requires-clause-lines
verify_logs-requires-clause-lines c =
    subst (λ (ls : List Log). length (proof_lines (plain_logs ls)) < 2 ^ 63)
    (sym c.deref.ensures.value) c.in-Ok.ensures.lines

pub returns-in-Ok : goal.returns-in-Ok
returns-in-Ok c =
    let design = design_of c.args.design.now in
    let bytes = c.args.bytes.now in
    let count = c.args.count in
    let verdict = subst (λ (bs : List ℕ). IfOk c.verify_logs.result (IsVerdict design bs count))
    (ap (λ (ls : List Log). proof_text (plain_logs ls)) c.deref.ensures.value
    ∙ sym c.in-Ok.ensures.text) c.verify_logs.ensures in
    record {
      accepted = accepted_of design bytes count c.verify_logs.result verdict;
      count = count_of design bytes count c.verify_logs.result verdict;
      fault = fault_of design bytes count c.verify_logs.result verdict;
      too_large = large_of design bytes count c.verify_logs.result verdict;
    }

pub returns-in-Err : goal.returns-in-Err
returns-in-Err c =
    let design = design_of c.args.design.now in
    let bytes = c.args.bytes.now in
    let count = c.args.count in
    let verdict = subst (λ r. IfOk r (IsVerdict design bytes count)) (sym c.broken.ensures)
    (broken_is design count bytes c.in-Err.fault c.in-Err.ensures.fault) in
    record {
      accepted = accepted_of design bytes count c.broken.result verdict;
      count = count_of design bytes count c.broken.result verdict;
      fault = fault_of design bytes count c.broken.result verdict;
      too_large = large_of design bytes count c.broken.result verdict;
    }
