-- On which line of a certificate a fault of one of its logs stands. Lines are counted from 1.
use Rattle.std.specs.Prelude.{ℕ, ◌+◌, List, length, take}
use Rattle.sv_clause.specs.Logs.{Step as LogStep}
use Rattle.sv_proof.specs.Certificate.{log_lines}
use Rattle.sv_proof.specs.declared.check.LogFault.{LogFault}
use Rattle.sv_proof.specs.declared.check.LogFault.TheVariants.{Step, NotEmpty, OutOfMemory}

-- the `o` line of the log behind so many: two lines and those of the logs before stand above it
abbrev pub line_of_log : List (List LogStep) → (before : ℕ) → ℕ
line_of_log logs before = 3 + length (log_lines 1 (take before logs))

-- the last line of that log: its last step, or its `o` line where it has no step
abbrev pub last_line_of_log : List (List LogStep) → (before : ℕ) → ℕ
last_line_of_log logs before = 2 + length (log_lines 1 (take (before + 1) logs))

-- the line of that log's fault: that of the step, or the last one where the log does not end with
-- the empty clause; want of memory has no line, which 0 stands for
abbrev pub fault_line : List (List LogStep) → (before : ℕ) → LogFault → ℕ
fault_line logs before (Step i) = line_of_log logs before + 1 + i
fault_line logs before NotEmpty = last_line_of_log logs before
fault_line logs before OutOfMemory = 0
