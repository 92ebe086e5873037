-- What a run of a process does (IEEE 1364-2005, clauses 6 and 9): a new environment, and a new list
-- of updates that wait for the end of the time step.
use Rattle.std.specs.Prelude.{ℕ, ◌/◌, ◌^◌, Bool, true, false, ◌==◌, if◌then◌else◌, List, [], ◌∷◌}
use Rattle.std.specs.Prelude.{◌++◌, fold}
use Rattle.sv_num.specs.Vectors.{is_true}
use Rattle.sv_system.specs.System.{Environment, put, last_update}
use Rattle.sv_flat.specs.Design.{SignalForm, PieceForm, FlatStatement, nothing, after, assign}
use Rattle.sv_flat.specs.Design.{branch}
use Rattle.sv_num.specs.Parts.{replaced_bits}
use Rattle.sv_flat.specs.Values.{signal_width, value}

-- the signals that are to be changed, each with its new value, the oldest update first
abbrev pub Updates : Type 0
Updates = List (ℕ × ℕ)

-- a signal's old value in which the bits of the piece are those that it takes from the value of the
-- right side
abbrev pub with_piece : List SignalForm → PieceForm → (right old : ℕ) → ℕ
with_piece signals piece right old =
    replaced_bits (signal_width signals piece.signal) piece.high piece.low old
    (right / 2 ^ piece.from)

-- a piece of a blocking assignment changes the environment (clause 9.2.1); that of a nonblocking
-- one adds an update (clause 9.2.2), which keeps what is pending of the signal's other bits
abbrev pub put_piece : List SignalForm → (blocking : Bool) → (right : ℕ) → Environment ℕ × Updates
    → PieceForm
    → Environment ℕ × Updates
put_piece signals true right now piece =
    (put ◌==◌ piece.signal (with_piece signals piece right (now.0 piece.signal)) now.0, now.1)
put_piece signals false right now piece =
    let pending = last_update ◌==◌ piece.signal (now.0 piece.signal) now.1 in
    (now.0, now.1 ++ (piece.signal, with_piece signals piece right pending) ∷ [])

-- An assignment takes the value of its right side once, and then puts its pieces in textual order.
-- An `if` takes its first arm where the condition is not 0, else its second (clause 9.4).
abbrev pub run : List SignalForm → FlatStatement → Environment ℕ × Updates → Environment ℕ × Updates
run signals nothing now = now
run signals (after first second) now = run signals second (run signals first now)
run signals (assign pieces place blocking right) now =
    fold (put_piece signals blocking (value signals now.0 right)) now pieces
run signals (branch place condition first second) now =
    if is_true (value signals now.0 condition) then run signals first now
    else run signals second now

-- the environment after a whole run with no updates pending
abbrev pub run_alone : List SignalForm → FlatStatement → Environment ℕ → Environment ℕ
run_alone signals body environment = (run signals body (environment, [])).0

-- the updates of a whole run with no updates pending
abbrev pub updates_of : List SignalForm → FlatStatement → Environment ℕ → Updates
updates_of signals body environment = (run signals body (environment, [])).1
