-- What a flat design keeps to, whatever it says: lengths and signedness as IEEE 1364-2005, clauses
-- 5.4 and 5.5, give them, and numbers of signals, points and maps that exist.
use Rattle.std.specs.Prelude.{ℕ, ◌+◌, ◌-◌, ◌*◌, ◌^◌, Bool, true, false, ◌==◌, ◌&&◌, ◌||◌, not}
use Rattle.std.specs.Prelude.{nat_lt, nat_le, List, length, Option, Some, None}
use Rattle.std.specs.Bool.{beq}
use Rattle.std.specs.List.{list_all}
use Rattle.sv_num.specs.declared.operators.UnOp.{UnOp}
use Rattle.sv_num.specs.declared.operators.OpClass.{OpClass}
use Rattle.sv_num.specs.declared.operators.OpClass.TheVariants.{Context, Compare, Logical, Shift}
use Rattle.sv_num.specs.UnaryValues.{gives_one_bit}
use Rattle.sv_num.specs.BinaryValues.{class_of, is_division}
use Rattle.sv_lattice.specs.declared.points.Point.{Point}
use Rattle.sv_lattice.specs.declared.labels.Label.{Label}
use Rattle.sv_lattice.specs.declared.labels.Label.TheVariants.{Point as Declared, Table}
use Rattle.sv_lattice.specs.Maps.{MapRows}
use Rattle.sv_lattice.specs.Labels.{map_of}
use Rattle.sv_flat.specs.Design.{SignalForm, TypedTree, typed, NodeTree, constant, read, read_bit}
use Rattle.sv_flat.specs.Design.{read_part, unary, binary, choice, join, replication, held}
use Rattle.sv_flat.specs.Design.{held_bit, held_part, mend, slice, TypedTrees, no_parts, more_parts}
use Rattle.sv_flat.specs.Design.{PieceForm, FlatStatement, nothing, after, assign, branch}
use Rattle.sv_flat.specs.Design.{ProcessKind, continuous, port_in, port_out, combinational, clocked}
use Rattle.sv_flat.specs.Design.{release, ProcessForm, InvariantForm, FlatDesign}
use Rattle.sv_flat.specs.Values.{signal_width, expression_width, expression_signed, parts_width}

-- ---- expressions

-- from 1 to this many
abbrev pub is_one_to : ℕ → ℕ → Bool
is_one_to most n = nat_le 1 n && nat_le n most

-- the number is that of a signal
abbrev pub is_signal : List SignalForm → ℕ → Bool
is_signal signals s = nat_lt s (length signals)

-- an operand has the length and signedness that are pushed down to it
abbrev pub has_type : (width : ℕ) → (signed : Bool) → TypedTree → Bool
has_type width signed e = (expression_width e == width) && beq (expression_signed e) signed

-- the bits from high to low lie in a value of n bits, and are at most as many as the width
abbrev pub is_part_of : (n width high low : ℕ) → Bool
is_part_of n width high low = nat_le low high && nat_lt high n && nat_le (high + 1 - low) width

-- the operand of `!` and of a reduction has a length and signedness of its own
abbrev pub unary_typed : UnOp → (width : ℕ) → (signed : Bool) → TypedTree → Bool
unary_typed op width signed e = gives_one_bit op || has_type width signed e

-- the operands of `+ - * & | ^ ~^` have the pushed type, those of a comparison one type, a shift's
-- left operand the pushed type
abbrev pub binary_typed : OpClass → (width : ℕ) → (signed : Bool) → TypedTree → TypedTree → Bool
binary_typed Context width signed a b = has_type width signed a && has_type width signed b
binary_typed Compare width signed a b = has_type (expression_width a) (expression_signed a) b
binary_typed Logical width signed a b = true
binary_typed Shift width signed a b = has_type width signed a

abbrev mutual
  -- every length is 1 to 64, every operand has the type that its operator gives it, and every name
  -- its signal
  pub well_formed : List SignalForm → TypedTree → Bool
  well_formed signals (typed width signed node) =
      is_one_to 64 width && node_well_formed signals width signed node

  pub node_well_formed : List SignalForm → (width : ℕ) → (signed : Bool) → NodeTree → Bool
  node_well_formed signals width signed (constant n) = nat_lt n (2 ^ width)
  node_well_formed signals width signed (read s place) =
      is_signal signals s && nat_le (signal_width signals s) width
  node_well_formed signals width signed (read_bit s place index) =
      is_signal signals s && well_formed signals index
  node_well_formed signals width signed (read_part s place high low) =
      is_signal signals s && is_part_of (signal_width signals s) width high low
  node_well_formed signals width signed (unary op e) =
      unary_typed op width signed e && well_formed signals e
  node_well_formed signals width signed (binary op a b) =
      not (is_division op) && binary_typed (class_of op) width signed a b && well_formed signals a
      && well_formed signals b
  node_well_formed signals width signed (choice place c a b) =
      has_type width signed a && has_type width signed b
      && well_formed signals c && well_formed signals a && well_formed signals b
  node_well_formed signals width signed (join es) =
      nat_le (parts_width es) width && parts_well_formed signals es
  node_well_formed signals width signed (replication count es) =
      is_one_to 64 count && nat_le (count * parts_width es) width && parts_well_formed signals es
  node_well_formed signals width signed (held s e) =
      is_signal signals s && nat_le (signal_width signals s) width && well_formed signals e
  node_well_formed signals width signed (held_bit s place e index) =
      is_signal signals s && well_formed signals e && well_formed signals index
  node_well_formed signals width signed (held_part s place e high low) =
      is_signal signals s && is_part_of (signal_width signals s) width high low
      && well_formed signals e
  node_well_formed signals width signed (mend s e high low piece) =
      is_signal signals s && nat_le (signal_width signals s) width
      && is_part_of (signal_width signals s) (expression_width piece) high low
      && well_formed signals e && well_formed signals piece
  node_well_formed signals width signed (slice e high low) =
      is_part_of (expression_width e) width high low && well_formed signals e

  pub parts_well_formed : List SignalForm → TypedTrees → Bool
  parts_well_formed signals no_parts = true
  parts_well_formed signals (more_parts e es) =
      well_formed signals e && parts_well_formed signals es

-- ---- statements

-- a piece lies inside its signal and takes bits inside the value
abbrev pub piece_fits : List SignalForm → TypedTree → PieceForm → Bool
piece_fits signals e piece =
    is_signal signals piece.signal
    && is_part_of (signal_width signals piece.signal) (expression_width e - piece.from) piece.high
    piece.low

abbrev pub pieces_fit : List SignalForm → TypedTree → List PieceForm → Bool
pieces_fit signals e pieces = list_all (piece_fits signals e) pieces

abbrev pub statement_sound : List SignalForm → FlatStatement → Bool
statement_sound signals nothing = true
statement_sound signals (after first second) =
    statement_sound signals first && statement_sound signals second
statement_sound signals (assign pieces place blocking e) =
    well_formed signals e && list_all (piece_fits signals e) pieces
statement_sound signals (branch place condition first second) =
    well_formed signals condition && statement_sound signals first && statement_sound signals second

-- a piece has all bits of its signal
abbrev pub is_whole : List SignalForm → PieceForm → Bool
is_whole signals piece = (piece.low == 0) && (piece.high + 1 == signal_width signals piece.signal)

-- one blocking assignment to whole signals
abbrev pub is_one_assignment : List SignalForm → FlatStatement → Bool
is_one_assignment signals (assign pieces place blocking e) =
    blocking && list_all (is_whole signals) pieces
is_one_assignment signals _ = false

abbrev pub is_point : FlatDesign → Point → Bool
is_point design point = nat_lt point.0 (length design.lattice)

-- the clock of an `always` is a signal and a release goes to a point; what is no `always` is one
-- blocking assignment
abbrev pub kind_sound : FlatDesign → ProcessKind → FlatStatement → Bool
kind_sound design continuous body = is_one_assignment design.signals body
kind_sound design port_in body = is_one_assignment design.signals body
kind_sound design port_out body = is_one_assignment design.signals body
kind_sound design combinational body = true
kind_sound design (clocked clock) body = is_signal design.signals clock
kind_sound design (release point) body =
    is_point design point && is_one_assignment design.signals body

abbrev pub process_sound : FlatDesign → ProcessForm → Bool
process_sound design process =
    kind_sound design process.kind process.body && statement_sound design.signals process.body

-- ---- labels

-- a selector has as many bits as the range of the map that it selects by
abbrev pub selector_fits : List SignalForm → ℕ → ℕ → Bool
selector_fits signals s width = is_signal signals s && (signal_width signals s == width)

-- there is a second selector just where there is a second range
abbrev pub second_fits : List SignalForm → Option ℕ → Option ℕ → Bool
second_fits signals None None = true
second_fits signals None (Some width) = false
second_fits signals (Some s) None = false
second_fits signals (Some s) (Some width) = selector_fits signals s width

abbrev pub label_sound : FlatDesign → Label → Bool
label_sound design (Declared point) = is_point design point
label_sound design (Table map first second) =
    nat_lt map (length design.maps)
    && selector_fits design.signals first (map_of design.maps map).first
    && second_fits design.signals second (map_of design.maps map).second

-- ---- designs

abbrev pub signal_sound : FlatDesign → SignalForm → Bool
signal_sound design signal = is_one_to 64 signal.width && label_sound design signal.label

abbrev pub map_sound : FlatDesign → MapRows → Bool
map_sound design map = list_all (is_point design) map.rows

abbrev pub invariant_sound : FlatDesign → InvariantForm → Bool
invariant_sound design invariant = well_formed design.signals invariant.expression

-- every part of the design is sound, each point has a name, and a 32-bit number is left beside
-- those of the signals
abbrev pub sound : FlatDesign → Bool
sound design =
    nat_lt (length design.signals) 4294967295
    && (length design.points == length design.lattice)
    && list_all (map_sound design) design.maps
    && list_all (signal_sound design) design.signals
    && list_all (process_sound design) design.processes
    && list_all (invariant_sound design) design.invariants
