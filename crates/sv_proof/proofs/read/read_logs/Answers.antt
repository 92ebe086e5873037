use Rattle.std.proofs.Common.{◌≡◌, ◌+◌, length, map, refl, sym, ap, ◌∙◌, subst, ◌++◌, ◌∷◌, []}
use Rattle.std.proofs.Common.{arith}
use Rattle.std.proofs.lemmas.List.{map_push, length_push}
use Rattle.std.proofs.lemmas.Result.{err_from_is_err_and}
use Rattle.sv_clause.specs.Logs.{plain_log, plain_step}
use Rattle.sv_proof.specs.Certificate.{plain_logs, log_line, log_lines}
use Rattle.sv_proof.specs.Reading.{IsLogLine}
use Rattle.sv_proof.proofs.Following.{no_next_unended, no_next_wrong, rest_shorter, log_added}
use Rattle.sv_proof.proofs.Following.{log_lines-length}
use Rattle.sv_proof.proofs.Beginning.{fault_at_log, fault_in_log}
use Rattle.sv_proof.proofs.read.read_logs.Goals as goal

pub returns-in_default-clause-fault : goal.returns-in_default-clause-fault
returns-in_default-clause-fault c =
    let logs = plain_logs c.logs.logs.items in
    fault_at_log c.args.bytes.now c.logs.rest.now logs c.args.count c.logs.line c.logs.done
    c.logs.invariant.0 c.logs.invariant.1 c.logs-test.true c.logs.invariant.3
    (no_next_unended (IsLogLine (length logs + 1)) c.logs.rest.now (c.in_default.ensures.none refl))

pub returns-in_default-read_log_line-clause-fault :
    goal.returns-in_default-read_log_line-clause-fault
returns-in_default-read_log_line-clause-fault c =
    let logs = plain_logs c.logs.logs.items in
    fault_at_log c.args.bytes.now c.logs.rest.now logs c.args.count c.logs.line c.logs.done
    c.logs.invariant.0 c.logs.invariant.1 c.logs-test.true c.logs.invariant.3
    (no_next_wrong (IsLogLine (length logs + 1)) c.logs.rest.now c.in-Some.first.now
    c.in-Some.after.now c.in-Some.ensures.some.0 c.in-Some.ensures.some.1
    (λ (steps, small, is).
    c.in_default-read_log_line.ensures.none refl steps small
    (subst (λ n. c.in-Some.first.now ≡ log_line (n + 1) steps) c.logs.invariant.1 is)))

pub returns-in_err-read-clause-fault : goal.returns-in_err-read-clause-fault
returns-in_err-read-clause-fault c =
    let p = err_from_is_err_and c.from_residual.result c.from_residual.ensures.1 in
    let logs = plain_logs c.logs.logs.items in
    let found = c.in-Some-read_log_line.ensures.some in
    let wanted = c.in-Some-read_log_line.wanted in
    let line : c.in-Some.first.now ≡ log_line (length logs + 1) wanted =
    found.0 ∙ ap (λ n. log_line (n + 1) wanted) (sym c.logs.invariant.1) in
    rw (p.1, p.2)
    (fault_in_log c.args.bytes.now c.logs.rest.now c.in-Some.after.now logs c.args.count wanted
    c.logs.line c.in_err-read.field-0.0 c.logs.invariant.0
    (omega (arith, c.logs.invariant.1)) found.1 (c.in-Some.ensures.some.0
    ∙ ap (λ z. z ++ 10 ∷ c.in-Some.after.now) line) c.logs.invariant.3
    c.in_err-read.ensures.fault)

pub logs-preserved : goal.logs-preserved
logs-preserved c =
    let logs = plain_logs c.logs.logs.items in
    let found = c.in-Some-read_log_line.ensures.some in
    let wanted = c.in-Some-read_log_line.wanted in
    let read = c.in_ok-read.read in
    let steps = map plain_step read.steps.items in
    let line : c.in-Some.first.now ≡ log_line (length logs + 1) wanted =
    found.0 ∙ ap (λ n. log_line (n + 1) wanted) (sym c.logs.invariant.1) in
    let now : plain_logs c.append.new.items.items ≡ logs ++ steps ∷ [] =
    ap plain_logs c.in_ok-append.ensures
    ∙ map_push plain_log c.logs.logs.items (record { steps = read.steps }) in
    let shorter = rest_shorter c.logs.rest.now c.in-Some.first.now c.in-Some.after.now
    c.in-Some.ensures.some.0 in
    let more : length (plain_logs c.append.new.items.items) ≡ length logs + 1 =
    ap length now ∙ length_push logs steps in
    let lines : length (log_lines 1 (plain_logs c.append.new.items.items)) ≡
    length (log_lines 1 logs) + 1 + length steps = ap (λ z. length (log_lines 1 z)) now
    ∙ log_lines-length logs steps in
    let all_read = c.in_ok-read.ensures.count in
    let line_is = c.in_ok-read.ensures.line in (
      log_added c.args.bytes.now c.logs.rest.now c.in-Some.first.now c.in-Some.after.now
          read.rest.now logs (plain_logs c.append.new.items.items) steps wanted c.logs.invariant.0
          c.in-Some.ensures.some.0 line found.1
          c.in_ok-read.ensures.steps all_read now,
      omega (arith, c.logs.invariant.1),
      omega arith,
      omega (arith, c.logs.invariant.3),
      omega (arith, c.logs.invariant.4, c.in_ok-read.ensures.room),
    )
