use Rattle.std.proofs.Common.{◌≡◌, ◌+◌, ◌-◌, ◌≤◌, length}
use Rattle.sv_proof.specs.Certificate.{plain_logs, log_lines}
use Rattle.sv_proof.specs.Reading.{BeginWithLogs}
use Rattle.sv_proof.proofs.read.read_logs.Given as goal

abbrev pub invariant-logs : goal.invariant-logs
invariant-logs l =
    BeginWithLogs l.bytes (plain_logs l.logs.items) l.rest
    × (length (plain_logs l.logs.items) ≡ l.done) × (l.done ≤ l.count)
    × (l.line ≡ 3 + length (log_lines 1 (plain_logs l.logs.items)))
    × (l.line + length l.rest ≤ 3 + length l.bytes)

abbrev pub decreases-logs : goal.decreases-logs
decreases-logs l = l.count - l.done
