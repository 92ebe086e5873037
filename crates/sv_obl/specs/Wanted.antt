-- Wanted names: a name that is wanted stands for the value that its signal has where the statements
-- taken so far begin, which is what a blocking assignment reads (IEEE 1364-2005, clauses 9.2.1 and
-- 9.8.1); a name that is not is settled. A wanted name is that of a second copy of the signal: copy
-- s has the number of all signals plus s (this project's profile).
use Rattle.std.specs.Prelude.{ℕ, ◌+◌, ◌-◌, Bool, false, ◌==◌, ◌&&◌, not, nat_le, if◌then◌else◌}
use Rattle.std.specs.Prelude.{List, ◌++◌, length, fold}
use Rattle.std.specs.List.{list_any}
use Rattle.sv_num.specs.declared.faults.Place.{Place}
use Rattle.sv_num.specs.Parts.{span_of}
use Rattle.sv_flat.specs.Design.{SignalForm, TypedTree, typed, constant, read, mend, slice}
use Rattle.sv_flat.specs.Design.{PieceForm, FlatStatement, nothing, after, assign, branch}
use Rattle.sv_flat.specs.Values.{signal_of, signal_width}
use Rattle.sv_flat.specs.Soundness.{is_whole}
use Rattle.sv_flat.specs.Assigned.{can_assign}
use Rattle.sv_flat.specs.Readings.{ReadForm, BitSet, either, some_bit_read}
use Rattle.sv_obl.specs.Exchange.{Instead, name, content, exchanged}

-- the signals, and then their copies
abbrev pub with_copies : List SignalForm → List SignalForm
with_copies signals = signals ++ signals

-- the number of a signal's copy
abbrev pub copy_of : List SignalForm → ℕ → ℕ
copy_of signals s = length signals + s

abbrev pub is_copy : List SignalForm → ℕ → Bool
is_copy signals t = nat_le (length signals) t

-- the signal that a copy is of
abbrev pub original : List SignalForm → ℕ → ℕ
original signals t = t - length signals

-- a signal's wanted name
abbrev pub wanted_name : List SignalForm → ℕ → Place → TypedTree
wanted_name signals s place =
    typed (signal_width signals s) (signal_of signals s).signed (read (copy_of signals s) place)

-- ---- earlier reads

-- In an `always @*` a read that an assignment to a bit that it reads can follow is earlier, and so
-- wanted; every other read is settled.
abbrev pub mark : List SignalForm → (in_block : Bool) → (follows : BitSet) → ReadForm → Instead
mark signals in_block follows r =
    name (if in_block && some_bit_read signals r (follows r.signal) then copy_of signals r.signal
    else r.signal)

abbrev pub marked_tree : List SignalForm → (in_block : Bool) → (follows : BitSet) → TypedTree →
    TypedTree
marked_tree signals in_block follows e = exchanged signals (mark signals in_block follows) e

-- the statement in which earlier reads are wanted, where some bits can be assigned after it
abbrev pub marked : List SignalForm → (in_block : Bool) → FlatStatement → (later : BitSet) →
    FlatStatement
marked signals in_block nothing later = nothing
marked signals in_block (after first second) later =
    after (marked signals in_block first (either (can_assign second) later))
    (marked signals in_block second later)
marked signals in_block (assign pieces place blocking right) later =
    assign pieces place blocking
    (marked_tree signals in_block
    (either (can_assign (assign pieces place blocking right)) later) right)
marked signals in_block (branch place condition first second) later =
    branch place
    (marked_tree signals in_block (either (can_assign (branch place condition first second)) later)
    condition)
    (marked signals in_block first later) (marked signals in_block second later)

-- ---- putting in

-- the piece of a right side
abbrev pub piece_value : (right : TypedTree) → PieceForm → TypedTree
piece_value right piece =
    if piece.from == 0
    then right
    else typed (span_of piece.high piece.low) false
    (slice right (piece.from + piece.high - piece.low) piece.from)

-- what stands for a signal's name before a piece is put, from what stands for it after the pieces
-- before: the piece where it covers the signal whole, else that value with its bits replaced
abbrev pub with_piece_put : List SignalForm → (right : TypedTree) → (signal : ℕ) → TypedTree →
    PieceForm → TypedTree
with_piece_put signals right s old piece =
    if not (piece.signal == s)
    then old
    else if is_whole signals piece
    then piece_value right piece
    else typed (signal_width signals s) (signal_of signals s).signed
    (mend s old piece.high piece.low (piece_value right piece))

-- the pieces are put in textual order, the first innermost, where the name is wanted still
abbrev pub put_value : List SignalForm → List PieceForm → (right : TypedTree) → (signal : ℕ) →
    Place → TypedTree
put_value signals pieces right s place =
    fold (with_piece_put signals right s) (wanted_name signals s place) pieces

-- an assignment puts its pieces for all wanted names at once
abbrev pub pieces_put : List SignalForm → List PieceForm → (right : TypedTree) → ReadForm → Instead
pieces_put signals pieces right r =
    let s = original signals r.signal in
    if is_copy signals r.signal && list_any (λ (piece : PieceForm). piece.signal == s) pieces
    then content s (put_value signals pieces right s r.place)
    else name r.signal

abbrev pub put_in : List SignalForm → List PieceForm → (right : TypedTree) → TypedTree → TypedTree
put_in signals pieces right e = exchanged (with_copies signals) (pieces_put signals pieces right) e

-- ---- the beginning of a process

-- At the beginning of a clocked block a wanted name is an ordinary read, and at that of an
-- `always @*` it stands for 0: no bit that is used comes from it, since each is assigned on every
-- path.
abbrev pub close : List SignalForm → (is_register : Bool) → ReadForm → Instead
close signals is_register r =
    let s = original signals r.signal in
    if not (is_copy signals r.signal) then name r.signal
    else if is_register then name s
    else content s (typed (signal_width signals s) (signal_of signals s).signed (constant 0))

abbrev pub closed_tree : List SignalForm → (is_register : Bool) → TypedTree → TypedTree
closed_tree signals is_register e = exchanged (with_copies signals) (close signals is_register) e
