-- The word of a typed expression, where each signal has a word (IEEE 1364-2005, clause 5): node by
-- node as `value` gives its value. Nothing is shared: each occurrence is encoded anew.
use Rattle.std.specs.Prelude.{ℕ, Bool, if◌then◌else◌, ℤ, pos, negsuc, List, [], ◌∷◌, ◌++◌}
use Rattle.sv_num.specs.declared.operators.OpClass.{OpClass}
use Rattle.sv_num.specs.declared.operators.OpClass.TheVariants.{Context, Compare, Logical, Shift}
use Rattle.sv_num.specs.BinaryValues.{class_of}
use Rattle.sv_flat.specs.Design.{SignalForm, TypedTree, typed, NodeTree, constant, read, read_bit}
use Rattle.sv_flat.specs.Design.{read_part, unary, binary, choice, join, replication, held}
use Rattle.sv_flat.specs.Design.{held_bit, held_part, mend, slice, TypedTrees, no_parts, more_parts}
use Rattle.sv_flat.specs.Values.{signal_width, expression_signed, number_of}
use Rattle.sv_flat.specs.Readings.{is_constant}
use Rattle.sv_gates.specs.Gates.{false_literal, mux_gate}
use Rattle.sv_circuits.specs.Words.{Word, BitMaker, WordMaker, number_word, literal_at}
use Rattle.sv_circuits.specs.Words.{zero_filled, extended_word, part_word, replaced_word}
use Rattle.sv_circuits.specs.Words.{repeated_word, bitwise_word, not_zero_bit}
use Rattle.sv_circuits.specs.Operators.{one_bit, picked_bit, unary_word, binary_word}

-- the word of each signal, by its number
abbrev pub Words : Type 0
Words = (signal : ℕ) → Word

-- what was put in for a signal's name, at the signal's width
abbrev pub cut_word : List SignalForm → (signal : ℕ) → Word → Word
cut_word signals s word = zero_filled (signal_width signals s) word

-- the bit of a word at a constant index, and false outside of it
abbrev pub bit_at_number : Word → (index : ℤ) → ℤ
bit_at_number word (pos i) = literal_at word i
bit_at_number word (negsuc i) = false_literal

-- The bit of a word by an index (clause 5.2.1), and false outside of it (this project's profile). A
-- constant index takes no gates; the word of any other is made first.
abbrev pub indexed_bit : List SignalForm → Word → (index : TypedTree) → (make : WordMaker) →
    BitMaker
indexed_bit signals word index make formula =
    if is_constant index
    then (formula, bit_at_number word (number_of signals (λ t. 0) index))
    else picked_bit word (expression_signed index) make formula

-- an operand of a binary operator: of `&&` and `||`, whether it is not 0
abbrev pub operand_word : OpClass → Word → WordMaker
operand_word Context word formula = (formula, word)
operand_word Compare word formula = (formula, word)
operand_word Logical word formula = one_bit (not_zero_bit word) formula
operand_word Shift word formula = (formula, word)

-- A name, and what was put in for one, is extended by the pushed signedness; every other node gets
-- false as its new bits, as comparisons, bits, parts and concatenations are unsigned.
abbrev mutual
  pub expression_word : List SignalForm → Words → TypedTree → WordMaker
  expression_word signals words (typed width signed node) formula =
      node_word signals words width signed node formula

  pub node_word : List SignalForm → Words → (width : ℕ) → (signed : Bool) → NodeTree → WordMaker
  node_word signals words width signed (constant n) formula = (formula, number_word width n)
  node_word signals words width signed (read s place) formula =
      (formula, extended_word signed width (words s))
  node_word signals words width signed (read_bit s place index) formula =
      let make = expression_word signals words index in
      let (formula, bit) = indexed_bit signals (words s) index make formula in
      (formula, zero_filled width (bit ∷ []))
  node_word signals words width signed (read_part s place high low) formula =
      (formula, zero_filled width (part_word high low (words s)))
  node_word signals words width signed (unary op e) formula =
      let (formula, operand) = expression_word signals words e formula in
      let (formula, word) = unary_word op operand formula in
      (formula, zero_filled width word)
  -- operands are encoded from left to right, before their operator
  node_word signals words width signed (binary op a b) formula =
      let (formula, left) = expression_word signals words a formula in
      let (formula, left) = operand_word (class_of op) left formula in
      let (formula, right) = expression_word signals words b formula in
      let (formula, right) = operand_word (class_of op) right formula in
      let (formula, word) = binary_word op (expression_signed a) left right formula in
      (formula, zero_filled width word)
  node_word signals words width signed (choice place c a b) formula =
      let (formula, condition) = expression_word signals words c formula in
      let (formula, bit) = not_zero_bit condition formula in
      let (formula, first) = expression_word signals words a formula in
      let (formula, second) = expression_word signals words b formula in
      let (formula, word) = bitwise_word (mux_gate bit) first second formula in
      (formula, zero_filled width word)
  node_word signals words width signed (join es) formula =
      let (formula, word) = joined_word signals words es formula in
      (formula, zero_filled width word)
  -- the parts of a replication are encoded once
  node_word signals words width signed (replication count es) formula =
      let (formula, word) = joined_word signals words es formula in
      (formula, zero_filled width (repeated_word count word))
  -- what was put in for a signal's name is encoded where it stands
  node_word signals words width signed (held s e) formula =
      let (formula, word) = expression_word signals words e formula in
      (formula, extended_word signed width (cut_word signals s word))
  node_word signals words width signed (held_bit s place e index) formula =
      let (formula, word) = expression_word signals words e formula in
      let make = expression_word signals words index in
      let (formula, bit) = indexed_bit signals (cut_word signals s word) index make formula in
      (formula, zero_filled width (bit ∷ []))
  node_word signals words width signed (held_part s place e high low) formula =
      let (formula, word) = expression_word signals words e formula in
      (formula, zero_filled width (part_word high low (cut_word signals s word)))
  node_word signals words width signed (mend s e high low piece) formula =
      let (formula, word) = expression_word signals words e formula in
      let (formula, bits) = expression_word signals words piece formula in
      (formula, extended_word signed width (replaced_word high low (cut_word signals s word) bits))
  node_word signals words width signed (slice e high low) formula =
      let (formula, word) = expression_word signals words e formula in
      (formula, zero_filled width (part_word high low word))

  -- the parts one beside the other, the first with the highest bits (clause 5.1.14)
  pub joined_word : List SignalForm → Words → TypedTrees → WordMaker
  joined_word signals words no_parts formula = (formula, [])
  joined_word signals words (more_parts e es) formula =
      let (formula, first) = expression_word signals words e formula in
      let (formula, rest) = joined_word signals words es formula in
      (formula, rest ++ first)

-- an expression is not 0
abbrev pub is_true_bit : List SignalForm → Words → TypedTree → BitMaker
is_true_bit signals words e formula =
    let (formula, word) = expression_word signals words e formula in
    not_zero_bit word formula
