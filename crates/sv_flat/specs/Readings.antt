-- What expressions and statements read (this project's profile; what `@*` waits for by IEEE
-- 1364-2005, clause 9.7.5, is not used).
use Rattle.std.specs.Prelude.{ℕ, ◌-◌, Bool, true, false, ◌==◌, ◌&&◌, ◌||◌, nat_le, if◌then◌else◌}
use Rattle.std.specs.Prelude.{List, [], ◌∷◌, ◌++◌, map, ℤ, pos, negsuc}
use Rattle.std.specs.List.{list_any, range_with_len}
use Rattle.sv_num.specs.declared.faults.Place.{Place}
use Rattle.sv_flat.specs.Design.{SignalForm, TypedTree, typed, NodeTree, constant, read, read_bit}
use Rattle.sv_flat.specs.Design.{read_part, unary, binary, choice, join, replication, held}
use Rattle.sv_flat.specs.Design.{held_bit, held_part, mend, slice, TypedTrees, no_parts, more_parts}
use Rattle.sv_flat.specs.Design.{FlatStatement, nothing, after, assign, branch}
use Rattle.sv_flat.specs.Values.{signal_width, number_of}
use Rattle.sv_flat.specs.Assigned.{assigns, can_assign, always_assigns}

-- ---- expressions

-- a name in an expression: its signal, its place, and from which bit down to which it is read (none
-- where the first is below the last)
pub record ReadForm : Type 0 where
  pub signal : ℕ
  pub place : Place
  pub high : ℕ
  pub low : ℕ

-- the whole signal
abbrev pub whole_read : List SignalForm → ℕ → Place → ReadForm
whole_read signals s place =
    record { signal = s; place = place; high = signal_width signals s - 1; low = 0 }

-- the bit at a constant index, if there is such a bit
abbrev pub bit_read : ℕ → Place → (index : ℤ) → ReadForm
bit_read s place (pos i) = record { signal = s; place = place; high = i; low = i }
bit_read s place (negsuc i) = record { signal = s; place = place; high = 0; low = 1 }

abbrev mutual
  -- An index is constant where it names no signal.
  pub is_constant : TypedTree → Bool
  is_constant (typed width signed node) = is_constant_node node

  pub is_constant_node : NodeTree → Bool
  is_constant_node (constant n) = true
  is_constant_node (read s place) = false
  is_constant_node (read_bit s place index) = false
  is_constant_node (read_part s place high low) = false
  is_constant_node (unary op e) = is_constant e
  is_constant_node (binary op a b) = is_constant a && is_constant b
  is_constant_node (choice place c a b) = is_constant c && is_constant a && is_constant b
  is_constant_node (join es) = are_constant es
  is_constant_node (replication count es) = are_constant es
  is_constant_node (held s e) = false
  is_constant_node (held_bit s place e index) = false
  is_constant_node (held_part s place e high low) = false
  is_constant_node (mend s e high low piece) = false
  is_constant_node (slice e high low) = is_constant e

  pub are_constant : TypedTrees → Bool
  are_constant no_parts = true
  are_constant (more_parts e es) = is_constant e && are_constant es

-- a bit by an index: at a constant index that bit, else the whole signal
abbrev pub indexed_read : List SignalForm → ℕ → Place → (index : TypedTree) → ReadForm
indexed_read signals s place index =
    if is_constant index then bit_read s place (number_of signals (λ t. 0) index)
    else whole_read signals s place

-- The names in an expression, in textual order. Of a value that was put in for a name, they are the
-- names in that value.
abbrev mutual
  pub reads : List SignalForm → TypedTree → List ReadForm
  reads signals (typed width signed node) = node_reads signals node

  pub node_reads : List SignalForm → NodeTree → List ReadForm
  node_reads signals (constant n) = []
  node_reads signals (read s place) = whole_read signals s place ∷ []
  node_reads signals (read_bit s place index) =
      indexed_read signals s place index ∷ reads signals index
  node_reads signals (read_part s place high low) =
      record { signal = s; place = place; high = high; low = low } ∷ []
  node_reads signals (unary op e) = reads signals e
  node_reads signals (binary op a b) = reads signals a ++ reads signals b
  node_reads signals (choice place c a b) = reads signals c ++ reads signals a ++ reads signals b
  node_reads signals (join es) = parts_reads signals es
  node_reads signals (replication count es) = parts_reads signals es
  node_reads signals (held s e) = reads signals e
  node_reads signals (held_bit s place e index) = reads signals e ++ reads signals index
  node_reads signals (held_part s place e high low) = reads signals e
  node_reads signals (mend s e high low piece) = reads signals e ++ reads signals piece
  node_reads signals (slice e high low) = reads signals e

  pub parts_reads : List SignalForm → TypedTrees → List ReadForm
  parts_reads signals no_parts = []
  parts_reads signals (more_parts e es) = reads signals e ++ parts_reads signals es

-- the expression names the signal
abbrev pub names_signal : List SignalForm → TypedTree → ℕ → Bool
names_signal signals e s = list_any (λ (r : ReadForm). r.signal == s) (reads signals e)

-- ---- statements

-- a set of bits of signals
abbrev pub BitSet : Type 0
BitSet = (signal bit : ℕ) → Bool

abbrev pub no_bits : BitSet
no_bits s b = false

abbrev pub either : BitSet → BitSet → BitSet
either first second s b = first s b || second s b

-- A name in a statement: how it is read, for which targets, which bits every path to it has
-- assigned, and to which bits an assignment can follow it in the same run, its own assignment among
-- them.
pub record Reading : Type 0 where
  pub name : ReadForm
  pub serves : (target : ℕ) → Bool
  pub assigned : BitSet
  pub follows : BitSet

-- a name that is read there
abbrev pub reading_of : (serves : ℕ → Bool) → (assigned follows : BitSet) → ReadForm → Reading
reading_of serves assigned follows r =
    record { name = r; serves = serves; assigned = assigned; follows = follows }

abbrev pub readings_of : List SignalForm → TypedTree → (serves : ℕ → Bool) →
    (assigned follows : BitSet) → List Reading
readings_of signals e serves assigned follows =
    map (reading_of serves assigned follows) (reads signals e)

-- The names in a statement, where some bits are assigned before it, and some can be assigned after
-- it. A right side serves the targets of its assignment, and a condition those that one of its arms
-- assigns.
abbrev pub readings : List SignalForm → FlatStatement → (before later : BitSet) → List Reading
readings signals nothing before later = []
readings signals (after first second) before later =
    readings signals first before (either (can_assign second) later)
    ++ readings signals second (either (always_assigns first) before) later
readings signals (assign pieces place blocking right) before later =
    let whole = assign pieces place blocking right in
    readings_of signals right (assigns whole) before (either (can_assign whole) later)
readings signals (branch place condition first second) before later =
    let whole = branch place condition first second in
    readings_of signals condition (assigns whole) before (either (can_assign whole) later)
    ++ readings signals first before later
    ++ readings signals second before later

-- some bit that is read passes the test
abbrev pub some_bit_read : List SignalForm → ReadForm → (ℕ → Bool) → Bool
some_bit_read signals r test =
    list_any (λ b. nat_le r.low b && nat_le b r.high && test b)
    (range_with_len 0 (signal_width signals r.signal))

-- an assignment to a bit that is read can follow the read
abbrev pub is_followed : List SignalForm → Reading → Bool
is_followed signals reading =
    some_bit_read signals reading.name (reading.follows reading.name.signal)
