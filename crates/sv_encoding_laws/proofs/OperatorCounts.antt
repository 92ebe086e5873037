-- How many variables the words of operators and expressions take.
use Rattle.std.proofs.Common.{◌≡◌, ℕ, ◌+◌, ◌-◌, ◌*◌, min, Bool, true, false, not, ◌&&◌, cond}
use Rattle.std.proofs.Common.{List, [], ◌∷◌, take, length, replicate, refl, sym, ap, ap₂, ◌∙◌, arith}
use Rattle.std.proofs.Common.{length-take, subst}
use Rattle.std.specs.Prelude.{IsTrue, nat_le}
use Rattle.std.proofs.lemmas.Bool.{false≢true}
use Rattle.sv_num.specs.declared.operators.UnOp.{UnOp}
use Rattle.sv_num.specs.declared.operators.UnOp.TheVariants.{Plus, Minus, LogicNot, Invert}
use Rattle.sv_num.specs.declared.operators.UnOp.TheVariants.{And as AllOf, Nand, Or as SomeOf, Nor}
use Rattle.sv_num.specs.declared.operators.UnOp.TheVariants.{Xor as OddOf, Xnor as EvenOf}
use Rattle.sv_num.specs.declared.operators.BinOp.{BinOp}
use Rattle.sv_num.specs.declared.operators.BinOp.TheVariants.{Mul, Div, Rem, Add, Sub, Shl, Shr}
use Rattle.sv_num.specs.declared.operators.BinOp.TheVariants.{SignShl, SignShr, Lt, Le, Gt, Ge, Eq}
use Rattle.sv_num.specs.declared.operators.BinOp.TheVariants.{Ne, And, Xor, Xnor, Or, LogicAnd}
use Rattle.sv_num.specs.declared.operators.BinOp.TheVariants.{LogicOr}
use Rattle.sv_num.specs.declared.operators.OpClass.{OpClass}
use Rattle.sv_num.specs.declared.operators.OpClass.TheVariants.{Context, Compare, Logical, Shift}
use Rattle.sv_num.specs.BinaryValues.{class_of, is_division}
use Rattle.sv_flat.specs.Design.{SignalForm, TypedTree, typed, NodeTree, constant, read, read_bit}
use Rattle.sv_flat.specs.Design.{read_part, unary, binary, choice, join, replication, held}
use Rattle.sv_flat.specs.Design.{held_bit, held_part, mend, slice, TypedTrees, no_parts, more_parts}
use Rattle.sv_flat.specs.Values.{signal_width, expression_width, expression_signed, parts_width}
use Rattle.sv_flat.specs.Values.{number_of}
use Rattle.sv_flat.specs.Soundness.{is_one_to, is_signal, has_type, is_part_of, unary_typed}
use Rattle.sv_flat.specs.Soundness.{binary_typed, well_formed, node_well_formed, parts_well_formed}
use Rattle.sv_flat.specs.Readings.{is_constant}
use Rattle.sv_flat.proofs.Depths.{first_of, second_of}
use Rattle.sv_gates.specs.Formulas.{Formula}
use Rattle.sv_gates.specs.Gates.{true_literal, false_literal, and_gate, or_gate, xor_gate, mux_gate}
use Rattle.sv_circuits.specs.Words.{Word, WordMaker, negation, not_zero_bit, inverted_word}
use Rattle.sv_circuits.specs.Operators.{unary_word, binary_word, picked_bit, number_count, moved_up}
use Rattle.sv_circuits.specs.Operators.{moved_down, sign_fill}
use Rattle.sv_circuits.specs.Circuits.{HaveSizes}
use Rattle.sv_circuits.proofs.Lengths.{inverted_length, filled_length, up_length, down_length}
use Rattle.sv_circuits.proofs.Lengths.{number_length, width_filled}
use Rattle.sv_encoding.specs.Expressions.{Words, expression_word, node_word, joined_word, cut_word}
use Rattle.sv_encoding.specs.Expressions.{bit_at_number, indexed_bit, operand_word, is_true_bit}
use Rattle.sv_encoding.specs.Sizes.{unary_size, binary_size, operand_size, picked_size, index_size}
use Rattle.sv_encoding.specs.Sizes.{expression_size, node_size, parts_size, truth_size}
use Rattle.sv_encoding_laws.proofs.Steps.{operand_width}
use Rattle.sv_encoding_laws.proofs.ExpressionLaws.{Named, NamedNode, NamedParts, sizes_of}
use Rattle.sv_encoding_laws.proofs.ExpressionLaws.{same_type}
use Rattle.sv_encoding_laws.proofs.ExpressionLaws.{formed_one, four_parts, five_parts}
use Rattle.sv_encoding_laws.proofs.GateCounts.{and_count, or_count, xor_count, mux_count}
use Rattle.sv_encoding_laws.proofs.GateCounts.{bitwise_count, ready_chain_count, equal_count}
use Rattle.sv_encoding_laws.proofs.GateCounts.{sum_count, product_count, less_count, shifted_count}
use Rattle.sv_encoding_laws.proofs.GateCounts.{picked_count}

-- ---- operators

pub unary_count : (op : UnOp) (a : Word) (old : Formula) →
    (unary_word op a old).0.variables ≡ old.variables + unary_size op (length a)
unary_count Plus a old = omega arith
unary_count Minus a old =
    sum_count (replicate (length a) false_literal) (inverted_word a) true_literal old
    (filled_length (length a) false_literal ∙ sym (inverted_length a))
    ∙ ap (λ n. old.variables + 5 * n) (filled_length (length a) false_literal)
unary_count LogicNot a old = ready_chain_count or_gate or_count a false_literal old
unary_count Invert a old = omega arith
unary_count AllOf a old = ready_chain_count and_gate and_count a true_literal old
unary_count Nand a old = ready_chain_count and_gate and_count a true_literal old
unary_count SomeOf a old = ready_chain_count or_gate or_count a false_literal old
unary_count Nor a old = ready_chain_count or_gate or_count a false_literal old
unary_count OddOf a old = ready_chain_count xor_gate xor_count a false_literal old
unary_count EvenOf a old = ready_chain_count xor_gate xor_count a false_literal old

pub binary_count : (op : BinOp) (signed : Bool) (a b : Word) (old : Formula) →
    HaveSizes op (length a) (length b) →
    (binary_word op signed a b old).0.variables
    ≡ old.variables + binary_size op (length a) (length b)
binary_count Mul signed a b old sizes = product_count a b old sizes.1.0
binary_count Div signed a b old sizes = absurd (false≢true (sym sizes.0))
binary_count Rem signed a b old sizes = absurd (false≢true (sym sizes.0))
binary_count Add signed a b old sizes = sum_count a b false_literal old sizes.1.0
binary_count Sub signed a b old sizes =
    sum_count a (inverted_word b) true_literal old (sizes.1.0 ∙ sym (inverted_length b))
binary_count Shl signed a b old sizes =
    shifted_count (moved_up false_literal) (up_length false_literal) 0 b a old
binary_count Shr signed a b old sizes =
    shifted_count (moved_down false_literal) (down_length false_literal) 0 b a old
binary_count SignShl signed a b old sizes =
    shifted_count (moved_up false_literal) (up_length false_literal) 0 b a old
binary_count SignShr signed a b old sizes =
    shifted_count (moved_down (sign_fill signed a)) (down_length (sign_fill signed a)) 0 b a old
binary_count Lt signed a b old sizes = less_count signed a b old sizes.1.0
binary_count Le signed a b old sizes =
    less_count signed b a old (sym sizes.1.0) ∙ ap (λ n. old.variables + 2 * n) (sym sizes.1.0)
binary_count Gt signed a b old sizes =
    less_count signed b a old (sym sizes.1.0) ∙ ap (λ n. old.variables + 2 * n) (sym sizes.1.0)
binary_count Ge signed a b old sizes = less_count signed a b old sizes.1.0
binary_count Eq signed a b old sizes = equal_count a b old sizes.1.0
binary_count Ne signed a b old sizes = equal_count a b old sizes.1.0
binary_count And signed a b old sizes = bitwise_count and_gate and_count a b old sizes.1.0
binary_count Xor signed a b old sizes = bitwise_count xor_gate xor_count a b old sizes.1.0
binary_count Xnor signed a b old sizes =
    bitwise_count (λ x y. negation (xor_gate x y)) xor_count a b old sizes.1.0
binary_count Or signed a b old sizes = bitwise_count or_gate or_count a b old sizes.1.0
binary_count LogicAnd signed a b old sizes =
    bitwise_count and_gate and_count a b old (sizes.1.0 ∙ sym sizes.1.1)
    ∙ ap (λ n. old.variables + n) sizes.1.0
binary_count LogicOr signed a b old sizes =
    bitwise_count or_gate or_count a b old (sizes.1.0 ∙ sym sizes.1.1)
    ∙ ap (λ n. old.variables + n) sizes.1.0

pub operand_count : (c : OpClass) (a : Word) (old : Formula) →
    (operand_word c a old).0.variables ≡ old.variables + operand_size c (length a)
operand_count Context a old = omega arith
operand_count Compare a old = omega arith
operand_count Logical a old = ready_chain_count or_gate or_count a false_literal old
operand_count Shift a old = omega arith

operand_length : (c : OpClass) (a : Word) (old : Formula) →
    length (operand_word c a old).1 ≡ operand_width c (length a)
operand_length Context a old = refl
operand_length Compare a old = refl
operand_length Logical a old = refl
operand_length Shift a old = refl

-- an operator takes as much by the lengths of its operands as by those that they are made from
size_same : (op : BinOp) (m n : ℕ) →
    binary_size op (operand_width (class_of op) m) (operand_width (class_of op) n)
    ≡ binary_size op m n
size_same Mul m n = refl
size_same Div m n = refl
size_same Rem m n = refl
size_same Add m n = refl
size_same Sub m n = refl
size_same Shl m n = refl
size_same Shr m n = refl
size_same SignShl m n = refl
size_same SignShr m n = refl
size_same Lt m n = refl
size_same Le m n = refl
size_same Gt m n = refl
size_same Ge m n = refl
size_same Eq m n = refl
size_same Ne m n = refl
size_same And m n = refl
size_same Xor m n = refl
size_same Xnor m n = refl
size_same Or m n = refl
size_same LogicAnd m n = refl
size_same LogicOr m n = refl

-- ---- expressions

node_length : (signals : List SignalForm) (words : Words) (width : ℕ) (signed : Bool)
    (node : NodeTree) (old : Formula) →
    length (node_word signals words width signed node old).1 ≡ width
node_length signals words w signed (constant n) old = number_length w n
node_length signals words w signed (read s place) old = width_filled _ w _
node_length signals words w signed (read_bit s place index) old =
    let bit = indexed_bit signals (words s) index (expression_word signals words index) old in
    width_filled false_literal w (bit.1 ∷ [])
node_length signals words w signed (read_part s place high low) old = width_filled _ w _
node_length signals words w signed (unary op e) old = width_filled _ w _
node_length signals words w signed (binary op a b) old = width_filled _ w _
node_length signals words w signed (choice place c a b) old = width_filled _ w _
node_length signals words w signed (join es) old = width_filled _ w _
node_length signals words w signed (replication count es) old = width_filled _ w _
node_length signals words w signed (held s e) old = width_filled _ w _
node_length signals words w signed (held_bit s place e index) old =
    let made = expression_word signals words e old in
    let bit = indexed_bit signals (cut_word signals s made.1) index
    (expression_word signals words index) made.0 in
    width_filled false_literal w (bit.1 ∷ [])
node_length signals words w signed (held_part s place e high low) old = width_filled _ w _
node_length signals words w signed (mend s e high low piece) old = width_filled _ w _
node_length signals words w signed (slice e high low) old = width_filled _ w _

-- the word of any expression has the expression's length
pub expression_length : (signals : List SignalForm) (words : Words) (e : TypedTree)
    (old : Formula) → length (expression_word signals words e old).1 ≡ expression_width e
expression_length signals words (typed w signed node) old =
    node_length signals words w signed node old

pub picked_bit_count : (word : Word) (size : ℕ) (signed : Bool) (make : WordMaker) (width own : ℕ)
    (old : Formula) → length word ≡ size → length (make old).1 ≡ width →
    (make old).0.variables ≡ old.variables + own →
    (picked_bit word signed make old).0.variables
    ≡ old.variables + (own + picked_size size width signed)
picked_bit_count word size signed make width own old long wide takes =
    let index = make old in
    let n = number_count (length index.1) signed in
    let reached : length (take n word) ≡ min size (number_count width signed) =
    length-take n word ∙ ap₂ (λ k m. min (number_count k signed) m) wide long
    ∙ omega arith in
    picked_count index.1 false_literal 0 (take n word) index.0
    ∙ ap₂ (λ k m. index.0.variables + k * (m - 1 + 1)) reached wide
    ∙ omega (arith, takes)

index_count : (signals : List SignalForm) (word : Word) (size : ℕ) (index : TypedTree)
    (make : WordMaker) (own : ℕ) (old : Formula) → length word ≡ size →
    length (make old).1 ≡ expression_width index →
    (make old).0.variables ≡ old.variables + own →
    (indexed_bit signals word index make old).0.variables
    ≡ old.variables + index_size size index own
index_count signals word size index make own old long wide takes = by (is_constant index)
  where
    by : (c : Bool) →
        (cond c (old, bit_at_number word (number_of signals (λ t. 0) index))
        (picked_bit word (expression_signed index) make old)).0.variables
        ≡ old.variables
        + cond c 0 (own + picked_size size (expression_width index) (expression_signed index))
    by true = omega arith
    by false =
        picked_bit_count word size (expression_signed index) make (expression_width index) own old
        long wide takes

not_zero_count : (word : Word) (width : ℕ) (old : Formula) → length word ≡ width →
    (not_zero_bit word old).0.variables ≡ old.variables + (width - 1)
not_zero_count word width old e =
    ready_chain_count or_gate or_count word false_literal old
    ∙ ap (λ n. old.variables + (n - 1)) e

-- the words of the names have the signals' lengths
module _ (signals : List SignalForm) (words : Words) where
  abbrev pub IsLong : ℕ → Type 0
  IsLong s = length (words s) ≡ signal_width signals s

  mutual
    pub expression_count : (e : TypedTree) → IsTrue (well_formed signals e) → Named IsLong e →
        (old : Formula) →
        (expression_word signals words e old).0.variables
        ≡ old.variables + expression_size signals e
    expression_count (typed w signed node) h named old =
        node_count node w signed (second_of (is_one_to 64 w) (node_well_formed signals w signed node) h)
        named old

    node_count : (node : NodeTree) (w : ℕ) (signed : Bool) →
        IsTrue (node_well_formed signals w signed node) → NamedNode IsLong node → (old : Formula) →
        (node_word signals words w signed node old).0.variables
        ≡ old.variables + node_size signals node
    node_count (constant n) w signed h named old = omega arith
    node_count (read s place) w signed h named old = omega arith
    node_count (read_bit s place i) w signed h named old =
        index_count signals (words s) (signal_width signals s) i (expression_word signals words i)
        (expression_size signals i) old named.0 (expression_length signals words i old)
        (expression_count i (second_of (is_signal signals s) (well_formed signals i) h) named.1 old)
    node_count (read_part s place high low) w signed h named old = omega arith
    node_count (unary op e) w signed h named old =
        let formed = second_of (unary_typed op w signed e) (well_formed signals e) h in
        let first = expression_word signals words e old in
        unary_count op first.1 first.0
        ∙ ap₂ (λ v n. v + unary_size op n) (expression_count e formed named old)
        (expression_length signals words e old)
        ∙ omega arith
    node_count (binary op a b) w signed h named old =
        let (is_whole, is_typed, formed_a, formed_b) =
        four_parts (not (is_division op)) (binary_typed (class_of op) w signed a b)
        (well_formed signals a) (well_formed signals b) h in
        let c = class_of op in
        let first = expression_word signals words a old in
        let left = operand_word c first.1 first.0 in
        let second = expression_word signals words b left.0 in
        let right = operand_word c second.1 second.0 in
        let wide_a = expression_length signals words a old in
        let wide_b = expression_length signals words b left.0 in
        let m : length left.1 ≡ operand_width c (expression_width a) =
        operand_length c first.1 first.0 ∙ ap (operand_width c) wide_a in
        let n : length right.1 ≡ operand_width c (expression_width b) =
        operand_length c second.1 second.0 ∙ ap (operand_width c) wide_b in
        let sizes = sizes_of op w signed a b is_whole is_typed (formed_one signals a formed_a) in
        let p = expression_count a formed_a named.0 old in
        let q : left.0.variables ≡ first.0.variables + operand_size c (expression_width a) =
        operand_count c first.1 first.0
        ∙ ap (λ k. first.0.variables + operand_size c k) wide_a in
        let r = expression_count b formed_b named.1 left.0 in
        let t : right.0.variables ≡ second.0.variables + operand_size c (expression_width b) =
        operand_count c second.1 second.0
        ∙ ap (λ k. second.0.variables + operand_size c k) wide_b in
        let u : (binary_word op (expression_signed a) left.1 right.1 right.0).0.variables
        ≡ right.0.variables + binary_size op (length left.1) (length right.1) =
        binary_count op (expression_signed a) left.1 right.1 right.0
        (subst (λ k. HaveSizes op k (length right.1)) (sym m)
        (subst (λ k. HaveSizes op (operand_width c (expression_width a)) k) (sym n) sizes)) in
        let same = size_same op (expression_width a) (expression_width b) in
        u ∙ ap₂ (λ k l. right.0.variables + binary_size op k l) m n
        ∙ omega (arith, same, p, q, r, t)
    node_count (choice place c a b) w signed h named old =
        let (type_a, type_b, formed_c, formed_a, formed_b) =
        five_parts (has_type w signed a) (has_type w signed b) (well_formed signals c)
        (well_formed signals a) (well_formed signals b) h in
        let same_a = same_type w signed a type_a in
        let same_b = same_type w signed b type_b in
        let condition = expression_word signals words c old in
        let bit = not_zero_bit condition.1 condition.0 in
        let first = expression_word signals words a bit.0 in
        let second = expression_word signals words b first.0 in
        let wide_a = expression_length signals words a bit.0 in
        let wide_b = expression_length signals words b first.0 in
        bitwise_count (mux_gate bit.1) (mux_count bit.1) first.1 second.1 second.0
        (wide_a ∙ same_a ∙ sym same_b ∙ sym wide_b)
        ∙ omega (
          arith,
          wide_a,
          expression_count c formed_c named.0 old,
          not_zero_count condition.1 (expression_width c) condition.0
              (expression_length signals words c old),
          expression_count a formed_a named.1.0 bit.0,
          expression_count b formed_b named.1.1 first.0,
        )
    node_count (join es) w signed h named old =
        parts_count es (second_of (nat_le (parts_width es) w) (parts_well_formed signals es) h) named
        old
    node_count (replication count es) w signed h named old =
        parts_count es (second_of (is_one_to 64 count && nat_le (count * parts_width es) w)
        (parts_well_formed signals es) h) named old
    node_count (held s e) w signed h named old =
        expression_count e (second_of (is_signal signals s && nat_le (signal_width signals s) w)
        (well_formed signals e) h) named old
    node_count (held_bit s place e i) w signed h named old =
        let front = first_of (is_signal signals s && well_formed signals e) (well_formed signals i) h in
        let formed_i = second_of (is_signal signals s && well_formed signals e)
        (well_formed signals i) h in
        let formed = second_of (is_signal signals s) (well_formed signals e) front in
        let made = expression_word signals words e old in
        index_count signals (cut_word signals s made.1) (signal_width signals s) i
        (expression_word signals words i) (expression_size signals i) made.0
        (width_filled _ (signal_width signals s) made.1)
        (expression_length signals words i made.0)
        (expression_count i formed_i named.1 made.0)
        ∙ omega (arith, expression_count e formed named.0 old)
    node_count (held_part s place e high low) w signed h named old =
        expression_count e (second_of (is_signal signals s
        && is_part_of (signal_width signals s) w high low) (well_formed signals e) h) named old
    node_count (mend s e high low piece) w signed h named old =
        let front = is_signal signals s && nat_le (signal_width signals s) w
        && is_part_of (signal_width signals s) (expression_width piece) high low in
        let h1 = first_of (front && well_formed signals e) (well_formed signals piece) h in
        let formed_piece = second_of (front && well_formed signals e) (well_formed signals piece) h in
        let formed = second_of front (well_formed signals e) h1 in
        let made = expression_word signals words e old in
        expression_count piece formed_piece named.1 made.0
        ∙ omega (arith, expression_count e formed named.0 old)
    node_count (slice e high low) w signed h named old =
        expression_count e (second_of (is_part_of (expression_width e) w high low)
        (well_formed signals e) h) named old

    parts_count : (es : TypedTrees) → IsTrue (parts_well_formed signals es) →
        NamedParts IsLong es → (old : Formula) →
        (joined_word signals words es old).0.variables ≡ old.variables + parts_size signals es
    parts_count no_parts h named old = omega arith
    parts_count (more_parts e es) h named old =
        let formed = first_of (well_formed signals e) (parts_well_formed signals es) h in
        let rest = second_of (well_formed signals e) (parts_well_formed signals es) h in
        let first = expression_word signals words e old in
        parts_count es rest named.1 first.0
        ∙ omega (arith, expression_count e formed named.0 old)

  pub truth_count : (e : TypedTree) → IsTrue (well_formed signals e) → Named IsLong e →
      (old : Formula) →
      (is_true_bit signals words e old).0.variables ≡ old.variables + truth_size signals e
  truth_count e h named old =
      let made = expression_word signals words e old in
      not_zero_count made.1 (expression_width e) made.0 (expression_length signals words e old)
      ∙ omega (arith, expression_count e h named old)
