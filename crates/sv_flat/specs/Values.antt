-- What a typed expression gives in an environment (IEEE 1364-2005, clause 5). The environment gives
-- each signal, by its number, a value; every operand stands at the length and signedness that
-- clauses 5.4 and 5.5 give it.
use Rattle.std.specs.Prelude.{ℕ, ◌+◌, ◌*◌, ◌%◌, ◌^◌, Bool, false, List, [], if◌then◌else◌, ℤ}
use Rattle.std.specs.Prelude.{slice_index_or}
use Rattle.sv_num.specs.Vectors.{as_number, is_true}
use Rattle.sv_num.specs.Parts.{extended, bits_between, bit_or_zero, replaced_bits, repeated}
use Rattle.sv_num.specs.UnaryValues.{unary_value}
use Rattle.sv_num.specs.BinaryValues.{binary_value}
use Rattle.sv_system.specs.System.{Environment}
use Rattle.sv_lattice.specs.declared.labels.Label.TheVariants.{Point}
use Rattle.sv_flat.specs.declared.signals.SigKind.TheVariants.{Net}
use Rattle.sv_flat.specs.Design.{SignalForm, TypedTree, typed, NodeTree, constant, read, read_bit}
use Rattle.sv_flat.specs.Design.{read_part, unary, binary, choice, join, replication, held}
use Rattle.sv_flat.specs.Design.{held_bit, held_part, mend, slice, TypedTrees, no_parts, more_parts}

-- ---- signals and types

-- the signal with this number
abbrev pub signal_of : List SignalForm → ℕ → SignalForm
signal_of signals s = slice_index_or signals s (record {
  name = [];
  width = 0;
  signed = false;
  kind = Net;
  label = Point (record { 0 = 0 });
  place = record { line = 0; column = 0 };
})

-- in bits
abbrev pub signal_width : List SignalForm → ℕ → ℕ
signal_width signals s = (signal_of signals s).width

-- the length that an expression's context gives it
abbrev pub expression_width : TypedTree → ℕ
expression_width (typed width signed node) = width

-- whether its context takes it as signed
abbrev pub expression_signed : TypedTree → Bool
expression_signed (typed width signed node) = signed

-- the length of a concatenation: the sum of its parts' lengths (clause 5.4)
abbrev pub parts_width : TypedTrees → ℕ
parts_width no_parts = 0
parts_width (more_parts e es) = expression_width e + parts_width es

-- ---- values

-- A comparison, a reduction, `!`, `&&` or `||` gives 0 or 1, and a bit, a part or a concatenation
-- an unsigned value: at a greater length their new bits are 0.
abbrev mutual
  -- the value at the length and signedness of the expression
  pub value : List SignalForm → Environment ℕ → TypedTree → ℕ
  value signals environment (typed width signed node) =
      node_value signals environment width signed node

  pub node_value : List SignalForm → Environment ℕ → (width : ℕ) → (signed : Bool) → NodeTree → ℕ
  node_value signals environment width signed (constant n) = n
  node_value signals environment width signed (read s place) =
      extended signed (signal_width signals s) width (environment s)
  node_value signals environment width signed (read_bit s place index) =
      bit_or_zero (signal_width signals s) (environment s) (number_of signals environment index)
  node_value signals environment width signed (read_part s place high low) =
      bits_between high low (environment s)
  node_value signals environment width signed (unary op e) =
      unary_value op (expression_width e) (expression_signed e) (value signals environment e)
  node_value signals environment width signed (binary op a b) =
      binary_value op (expression_width a) (expression_signed a) (value signals environment a)
      (value signals environment b)
  node_value signals environment width signed (choice place c a b) =
      if is_true (value signals environment c) then value signals environment a
      else value signals environment b
  node_value signals environment width signed (join es) = joined signals environment es
  node_value signals environment width signed (replication count es) =
      repeated count (parts_width es) (joined signals environment es)
  -- what was put in for a signal's name is cut to the signal's width, and read as the signal is
  node_value signals environment width signed (held s e) =
      extended signed (signal_width signals s) width (cut_value signals environment s e)
  node_value signals environment width signed (held_bit s place e index) =
      bit_or_zero (signal_width signals s) (cut_value signals environment s e)
      (number_of signals environment index)
  node_value signals environment width signed (held_part s place e high low) =
      bits_between high low (cut_value signals environment s e)
  node_value signals environment width signed (mend s e high low piece) =
      extended signed (signal_width signals s) width
      (replaced_bits (signal_width signals s) high low (value signals environment e)
      (value signals environment piece))
  node_value signals environment width signed (slice e high low) =
      bits_between high low (value signals environment e)

  -- the parts one beside the other, the first with the highest bits (clause 5.1.14)
  pub joined : List SignalForm → Environment ℕ → TypedTrees → ℕ
  joined signals environment no_parts = 0
  joined signals environment (more_parts e es) =
      value signals environment e * 2 ^ parts_width es + joined signals environment es

  -- the number that an index stands for, by its own signedness
  pub number_of : List SignalForm → Environment ℕ → TypedTree → ℤ
  number_of signals environment (typed width signed node) =
      as_number width signed (node_value signals environment width signed node)

  -- an expression's value cut to the width of a signal
  pub cut_value : List SignalForm → Environment ℕ → ℕ → TypedTree → ℕ
  cut_value signals environment s (typed width signed node) =
      node_value signals environment width signed node % 2 ^ signal_width signals s
