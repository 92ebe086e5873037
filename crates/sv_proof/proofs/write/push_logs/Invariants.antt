use Rattle.std.proofs.Common.{◌≡◌, ◌+◌, ◌++◌, drop}
use Rattle.sv_proof.specs.Certificate.{plain_logs, log_lines, text_of}
use Rattle.sv_proof.proofs.write.push_logs.Given as goal

abbrev pub invariant-logs : goal.invariant-logs
invariant-logs l = (l.number ≡ l.log-index + 1)
    × (l.text.items ++ text_of (log_lines l.number (plain_logs (drop l.log-index l.logs))) ≡
    l.fn.text.items ++ text_of (log_lines 1 (plain_logs l.logs)))
