-- Names in an expression exchanged for other names, or for values that stand for them: what a name
-- reads behind an assignment is the assigned value (IEEE 1364-2005, clause 9.2.1).
use Rattle.std.specs.Prelude.{ℕ, List}
use Rattle.sv_num.specs.declared.faults.Place.{Place}
use Rattle.sv_flat.specs.Design.{SignalForm, TypedTree, typed, NodeTree, constant, read, read_bit}
use Rattle.sv_flat.specs.Design.{read_part, unary, binary, choice, join, replication, held}
use Rattle.sv_flat.specs.Design.{held_bit, held_part, mend, slice, TypedTrees, no_parts, more_parts}
use Rattle.sv_flat.specs.Readings.{ReadForm, whole_read, indexed_read}

-- what stands for a name: a name, or a value that is cut to the signal's width and read as the
-- signal is
pub data Instead : Type 0 where
  name : (signal : ℕ) → Instead
  content : (signal : ℕ) → TypedTree → Instead

-- in place of a whole name, of a bit by an index, and of a part
abbrev pub for_whole : Instead → Place → NodeTree
for_whole (name s) place = read s place
for_whole (content s e) place = held s e

abbrev pub for_bit : Instead → Place → (index : TypedTree) → NodeTree
for_bit (name s) place index = read_bit s place index
for_bit (content s e) place index = held_bit s place e index

abbrev pub for_part : Instead → Place → (high low : ℕ) → NodeTree
for_part (name s) place high low = read_part s place high low
for_part (content s e) place high low = held_part s place e high low

abbrev mutual
  -- the expression in which something stands for each name, by how it is read
  pub exchanged : List SignalForm → (ReadForm → Instead) → TypedTree → TypedTree
  exchanged signals instead (typed width signed node) =
      typed width signed (exchanged_node signals instead node)

  pub exchanged_node : List SignalForm → (ReadForm → Instead) → NodeTree → NodeTree
  exchanged_node signals instead (constant n) = constant n
  exchanged_node signals instead (read s place) =
      for_whole (instead (whole_read signals s place)) place
  exchanged_node signals instead (read_bit s place index) =
      for_bit (instead (indexed_read signals s place index)) place (exchanged signals instead index)
  exchanged_node signals instead (read_part s place high low) =
      for_part (instead (record { signal = s; place = place; high = high; low = low })) place
      high low
  exchanged_node signals instead (unary op e) = unary op (exchanged signals instead e)
  exchanged_node signals instead (binary op a b) =
      binary op (exchanged signals instead a) (exchanged signals instead b)
  exchanged_node signals instead (choice place c a b) =
      choice place (exchanged signals instead c) (exchanged signals instead a)
      (exchanged signals instead b)
  exchanged_node signals instead (join es) = join (exchanged_parts signals instead es)
  exchanged_node signals instead (replication count es) =
      replication count (exchanged_parts signals instead es)
  exchanged_node signals instead (held s e) = held s (exchanged signals instead e)
  exchanged_node signals instead (held_bit s place e index) =
      held_bit s place (exchanged signals instead e) (exchanged signals instead index)
  exchanged_node signals instead (held_part s place e high low) =
      held_part s place (exchanged signals instead e) high low
  exchanged_node signals instead (mend s e high low piece) =
      mend s (exchanged signals instead e) high low (exchanged signals instead piece)
  exchanged_node signals instead (slice e high low) = slice (exchanged signals instead e) high low

  pub exchanged_parts : List SignalForm → (ReadForm → Instead) → TypedTrees → TypedTrees
  exchanged_parts signals instead no_parts = no_parts
  exchanged_parts signals instead (more_parts e es) =
      more_parts (exchanged signals instead e) (exchanged_parts signals instead es)
