-- What a process makes of a signal's value from the values of what it reads: every name that is
-- settled has its value of one environment, and of the run itself only the copies of followed
-- signals are asked for.
use Rattle.std.specs.Prelude.{ℕ, Bool, ◌==◌, not, if◌then◌else◌, List, fold}
use Rattle.sv_num.specs.Vectors.{is_true}
use Rattle.sv_system.specs.System.{Environment, put}
use Rattle.sv_flat.specs.Design.{SignalForm, PieceForm, FlatStatement, nothing, after, assign}
use Rattle.sv_flat.specs.Design.{branch, ProcessForm, FlatDesign}
use Rattle.sv_flat.specs.Values.{value}
use Rattle.sv_flat.specs.Runs.{with_piece}
use Rattle.sv_flat.specs.Processes.{is_clocked, is_block}
use Rattle.sv_flat.specs.Readings.{no_bits}
use Rattle.sv_flat.specs.Reads.{followed}
use Rattle.sv_flat.specs.Sets.{holds}
use Rattle.sv_obl.specs.Wanted.{with_copies, copy_of, is_copy, original, marked}

-- the target's value after one piece: where the piece is of the target, its bits are those that it
-- takes from the value of the right side
abbrev pub after_piece : List SignalForm → (target right : ℕ) → (old : ℕ) → PieceForm → ℕ
after_piece signals target right old piece =
    if piece.signal == target then with_piece signals piece right old else old

-- ---- where every name is settled

-- A statement makes of the target's old value a new one: an assignment puts its pieces in textual
-- order (IEEE 1364-2005, clause 9.2), an `if` does what the arm does that its condition takes
-- (clauses 9.4 and 9.5), and a block what its statements do one after the other (clause 9.8.1).
abbrev pub made : List SignalForm → (settled : Environment ℕ) → (target : ℕ) → FlatStatement →
    (old : ℕ) → ℕ
made signals settled target nothing old = old
made signals settled target (after first second) old =
    made signals settled target second (made signals settled target first old)
made signals settled target (assign pieces place blocking right) old =
    fold (after_piece signals target (value signals settled right)) old pieces
made signals settled target (branch place condition first second) old =
    if is_true (value signals settled condition) then made signals settled target first old
    else made signals settled target second old

-- ---- where some names are wanted

-- the values with one more piece put into the copy of its signal, if that is one of the followed
abbrev pub put_followed : List SignalForm → (followed : List ℕ) → (right : ℕ) → Environment ℕ →
    PieceForm → Environment ℕ
put_followed signals followed right now piece =
    let copy = copy_of signals piece.signal in
    if holds followed piece.signal
    then put ◌==◌ copy (with_piece signals piece right (now copy)) now
    else now

-- The same for all followed signals at once, since a wanted name has the value that the statements
-- before it have made: settled names have their values, and the copies of the followed signals
-- those that these have so far.
abbrev pub made_on_the_way : List SignalForm → (followed : List ℕ) → FlatStatement →
    (now : Environment ℕ) → Environment ℕ
made_on_the_way signals followed nothing now = now
made_on_the_way signals followed (after first second) now =
    made_on_the_way signals followed second (made_on_the_way signals followed first now)
made_on_the_way signals followed (assign pieces place blocking right) now =
    fold (put_followed signals followed (value (with_copies signals) now right)) now pieces
made_on_the_way signals followed (branch place condition first second) now =
    if is_true (value (with_copies signals) now condition)
    then made_on_the_way signals followed first now
    else made_on_the_way signals followed second now

-- where a process begins, a copy has a register's own value, and of any other signal 0
abbrev pub starting_values : List SignalForm → (is_register : Bool) → Environment ℕ →
    Environment ℕ
starting_values signals is_register settled t =
    if not (is_copy signals t) then settled t
    else if is_register then settled (original signals t)
    else 0

-- What a process makes of a signal from where it begins: of the signal's copy, among those of all
-- signals that are followed for it.
abbrev pub made_in : FlatDesign → ProcessForm → (target : ℕ) → (settled : Environment ℕ) → ℕ
made_in design process s settled =
    made_on_the_way design.signals (followed design process s)
    (marked design.signals (is_block process.kind) process.body no_bits)
    (starting_values design.signals (is_clocked process.kind) settled) (copy_of design.signals s)
