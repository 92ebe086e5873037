-- What is made of an expression adds variables and takes none away, whatever the expression is.
use Rattle.std.proofs.Common.{◌≡◌, ℕ, ◌≤◌, Bool, true, false, cond, ℤ, List, [], ◌∷◌, take, length}
use Rattle.std.proofs.Common.{map, refl, arith}
use Rattle.sv_num.specs.declared.operators.UnOp.{UnOp}
use Rattle.sv_num.specs.declared.operators.BinOp.{BinOp}
use Rattle.sv_num.specs.declared.operators.BinOp.TheVariants.{Mul, Div, Rem, Add, Sub, Shl, Shr}
use Rattle.sv_num.specs.declared.operators.BinOp.TheVariants.{SignShl, SignShr, Lt, Le, Gt, Ge, Eq}
use Rattle.sv_num.specs.declared.operators.BinOp.TheVariants.{Ne, And, Xor, Xnor, Or, LogicAnd}
use Rattle.sv_num.specs.declared.operators.BinOp.TheVariants.{LogicOr}
use Rattle.sv_num.specs.declared.operators.OpClass.{OpClass}
use Rattle.sv_num.specs.BinaryValues.{class_of}
use Rattle.sv_flat.specs.Design.{SignalForm, TypedTree, typed, NodeTree, constant, read, read_bit}
use Rattle.sv_flat.specs.Design.{read_part, unary, binary, choice, join, replication, held}
use Rattle.sv_flat.specs.Design.{held_bit, held_part, mend, slice, TypedTrees, no_parts, more_parts}
use Rattle.sv_flat.specs.Values.{expression_signed, number_of}
use Rattle.sv_flat.specs.Readings.{is_constant}
use Rattle.sv_gates.specs.Formulas.{Formula}
use Rattle.sv_gates.specs.Gates.{false_literal, true_literal, and_gate, or_gate, xor_gate, mux_gate}
use Rattle.sv_circuits.specs.Words.{Word, WordMaker, negation, made_in_turn, not_zero_bit}
use Rattle.sv_circuits.specs.Words.{bitwise_word, equal_bit, inverted_word}
use Rattle.sv_circuits.specs.Operators.{unary_word, binary_word, picked_bit, number_count, less_bit}
use Rattle.sv_circuits.specs.Operators.{ordered_word, moved_up, moved_down, sign_fill, product_rows}
use Rattle.sv_circuits.specs.Operators.{total_word, product_word}
use Rattle.sv_circuits.proofs.LoopSteps.{bits_grow, mux_takes, less_grows}
use Rattle.sv_circuits.proofs.SumSteps.{sum_grows}
use Rattle.sv_circuits.proofs.ProductSteps.{rows_grow, total_grows}
use Rattle.sv_circuits.proofs.ShiftSteps.{shift_grows}
use Rattle.sv_circuits.proofs.TestSteps.{same_grows}
use Rattle.sv_circuits.proofs.PickSteps.{picked_grows}
use Rattle.sv_encoding.specs.Expressions.{Words, expression_word, node_word, joined_word, cut_word}
use Rattle.sv_encoding.specs.Expressions.{bit_at_number, indexed_bit, operand_word, is_true_bit}
use Rattle.sv_encoding_laws.proofs.OperatorCounts.{unary_count, operand_count}
use Rattle.sv_encoding_laws.proofs.GateCounts.{ready_chain_count, or_count}

-- a piece takes no variables away
abbrev pub Grows : {A : Type 0} → (Formula → Formula × A) → Type 0
Grows make = (old : Formula) → old.variables ≤ ((make old).0).variables

-- ---- operators

pub not_zero_grows : (word : Word) → Grows (not_zero_bit word)
not_zero_grows word old =
    omega (arith, ready_chain_count or_gate or_count word false_literal old)

pub unary_grows : (op : UnOp) (a : Word) → Grows (unary_word op a)
unary_grows op a old = omega (arith, unary_count op a old)

pub operand_grows : (c : OpClass) (a : Word) → Grows (operand_word c a)
operand_grows c a old = omega (arith, operand_count c a old)

total_word_grows : (rows : List Word) → Grows (total_word rows)
total_word_grows [] old = omega arith
total_word_grows (row ∷ rows) old = total_grows row rows old

product_grows : (a b : Word) → Grows (product_word a b)
product_grows a b old =
    let rows = product_rows a 0 b old in
    let more = rows_grow a 0 b old in
    let last = total_word_grows rows.1 rows.0 in
    omega (arith, more, last)

less_bit_grows : (signed : Bool) (a b : Word) → Grows (less_bit signed a b)
less_bit_grows signed a b old =
    less_grows (ordered_word signed a) (ordered_word signed b) false_literal old

equal_grows : (a b : Word) → Grows (equal_bit a b)
equal_grows [] b old = omega arith
equal_grows (x ∷ a) [] old = omega arith
equal_grows (x ∷ a) (y ∷ b) old =
    let first = negation (xor_gate x y) old in
    let more = same_grows a b first.1 first.0 in
    omega (arith, more)

and_grows : (a b : Word) → Grows (bitwise_word and_gate a b)
and_grows a b old = bits_grow and_gate a b old (λ x y f. refl)

or_grows : (a b : Word) → Grows (bitwise_word or_gate a b)
or_grows a b old = bits_grow or_gate a b old (λ x y f. refl)

pub chosen_grows : (c : ℤ) (a b : Word) → Grows (bitwise_word (mux_gate c) a b)
chosen_grows c a b old = bits_grow (mux_gate c) a b old (mux_takes c)

pub binary_grows : (op : BinOp) (signed : Bool) (a b : Word) → Grows (binary_word op signed a b)
binary_grows Mul signed a b old = product_grows a b old
binary_grows Div signed a b old = omega arith
binary_grows Rem signed a b old = omega arith
binary_grows Add signed a b old = sum_grows a b false_literal old
binary_grows Sub signed a b old = sum_grows a (inverted_word b) true_literal old
binary_grows Shl signed a b old = shift_grows (moved_up false_literal) 0 b a old
binary_grows Shr signed a b old = shift_grows (moved_down false_literal) 0 b a old
binary_grows SignShl signed a b old = shift_grows (moved_up false_literal) 0 b a old
binary_grows SignShr signed a b old = shift_grows (moved_down (sign_fill signed a)) 0 b a old
binary_grows Lt signed a b old = less_bit_grows signed a b old
binary_grows Le signed a b old = less_bit_grows signed b a old
binary_grows Gt signed a b old = less_bit_grows signed b a old
binary_grows Ge signed a b old = less_bit_grows signed a b old
binary_grows Eq signed a b old = equal_grows a b old
binary_grows Ne signed a b old = equal_grows a b old
binary_grows And signed a b old = and_grows a b old
binary_grows Xor signed a b old = bits_grow xor_gate a b old (λ x y f. refl)
binary_grows Xnor signed a b old =
    bits_grow (λ x y. negation (xor_gate x y)) a b old (λ x y f. refl)
binary_grows Or signed a b old = or_grows a b old
binary_grows LogicAnd signed a b old = and_grows a b old
binary_grows LogicOr signed a b old = or_grows a b old

pub picked_bit_grows : (word : Word) (signed : Bool) (make : WordMaker) → Grows make →
    Grows (picked_bit word signed make)
picked_bit_grows word signed make grows old =
    let index = make old in
    let first = grows old in
    let more = picked_grows index.1 false_literal 0
    (take (number_count (length index.1) signed) word) index.0 in
    omega (arith, first, more)

pub indexed_grows : (signals : List SignalForm) (word : Word) (index : TypedTree)
    (make : WordMaker) → Grows make → Grows (indexed_bit signals word index make)
indexed_grows signals word index make grows old = by (is_constant index)
  where
    by : (c : Bool) → old.variables
        ≤ ((cond c (old, bit_at_number word (number_of signals (λ t. 0) index))
        (picked_bit word (expression_signed index) make old)).0).variables
    by true = omega arith
    by false = picked_bit_grows word (expression_signed index) make grows old

-- ---- expressions

module _ (signals : List SignalForm) (words : Words) where
  mutual
    pub expression_grows : (e : TypedTree) → Grows (expression_word signals words e)
    expression_grows (typed width signed node) old = node_grows node width signed old

    node_grows : (node : NodeTree) (width : ℕ) (signed : Bool) →
        Grows (node_word signals words width signed node)
    node_grows (constant n) width signed old = omega arith
    node_grows (read s place) width signed old = omega arith
    node_grows (read_bit s place index) width signed old =
        indexed_grows signals (words s) index (expression_word signals words index)
        (expression_grows index) old
    node_grows (read_part s place high low) width signed old = omega arith
    node_grows (unary op e) width signed old =
        let first = expression_word signals words e old in
        omega (arith, expression_grows e old, unary_grows op first.1 first.0)
    node_grows (binary op a b) width signed old =
        let c = class_of op in
        let first = expression_word signals words a old in
        let left = operand_word c first.1 first.0 in
        let second = expression_word signals words b left.0 in
        let right = operand_word c second.1 second.0 in
        omega (
          arith,
          expression_grows a old,
          operand_grows c first.1 first.0,
          expression_grows b left.0,
          operand_grows c second.1 second.0,
          binary_grows op (expression_signed a) left.1 right.1 right.0,
        )
    node_grows (choice place c a b) width signed old =
        let condition = expression_word signals words c old in
        let bit = not_zero_bit condition.1 condition.0 in
        let first = expression_word signals words a bit.0 in
        let second = expression_word signals words b first.0 in
        omega (
          arith,
          expression_grows c old,
          not_zero_grows condition.1 condition.0,
          expression_grows a bit.0,
          expression_grows b first.0,
          chosen_grows bit.1 first.1 second.1 second.0,
        )
    node_grows (join es) width signed old = joined_grows es old
    node_grows (replication count es) width signed old = joined_grows es old
    node_grows (held s e) width signed old = expression_grows e old
    node_grows (held_bit s place e index) width signed old =
        let first = expression_word signals words e old in
        omega (
          arith,
          expression_grows e old,
          indexed_grows signals (cut_word signals s first.1) index
              (expression_word signals words index) (expression_grows index) first.0,
        )
    node_grows (held_part s place e high low) width signed old = expression_grows e old
    node_grows (mend s e high low piece) width signed old =
        let first = expression_word signals words e old in
        omega (arith, expression_grows e old, expression_grows piece first.0)
    node_grows (slice e high low) width signed old = expression_grows e old

    pub joined_grows : (es : TypedTrees) → Grows (joined_word signals words es)
    joined_grows no_parts old = omega arith
    joined_grows (more_parts e es) old =
        let first = expression_word signals words e old in
        omega (arith, expression_grows e old, joined_grows es first.0)

  pub is_true_grows : (e : TypedTree) → Grows (is_true_bit signals words e)
  is_true_grows e old =
      let first = expression_word signals words e old in
      omega (arith, expression_grows e old, not_zero_grows first.1 first.0)

  pub truths_grow : (es : List TypedTree) →
      Grows (made_in_turn (map (is_true_bit signals words) es))
  truths_grow [] old = omega arith
  truths_grow (e ∷ es) old =
      let first = is_true_bit signals words e old in
      omega (arith, is_true_grows e old, truths_grow es first.0)
