use Rattle.std.proofs.Common.{◌≡◌}
use Rattle.sv_proof.specs.Certificate.{plain_logs}
use Rattle.sv_proof.specs.FaultLines.{line_of_log}
use Rattle.sv_proof.proofs.lines.line_behind.Given as goal

abbrev pub invariant-logs : goal.invariant-logs
invariant-logs l = l.line ≡ line_of_log (plain_logs l.first) l.log-index
