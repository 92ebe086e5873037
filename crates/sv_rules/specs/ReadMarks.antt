-- Private: how the code goes. What a statement reads, and the clock of a process.
use Rattle.std.specs.Prelude.{◌<◌, ℕ, Bool, false, ◌||◌, List}
use Rattle.sv_flat.specs.Design.{SignalForm, FlatStatement, nothing, after, assign, branch}
use Rattle.sv_flat.specs.Design.{ProcessKind, clocked}
use Rattle.sv_flat.specs.Readings.{names_signal}

-- the statement reads the signal
abbrev pub reads_in : List SignalForm → FlatStatement → ℕ → Bool
reads_in signals nothing s = false
reads_in signals (after first second) s = reads_in signals first s || reads_in signals second s
reads_in signals (assign pieces place blocking right) s = names_signal signals right s
reads_in signals (branch place condition first second) s =
    names_signal signals condition s || reads_in signals first s || reads_in signals second s

-- the clock of a clocked process is one of n signals
abbrev pub HasClockBelow : (n : ℕ) → ProcessKind → Type 0
HasClockBelow n (clocked clock) = clock < n
HasClockBelow n _ = Unit {0}
