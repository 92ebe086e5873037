-- Nodes made piece by piece: what the pieces make is the whole, and where a piece has too many
-- variables, so has the whole.
use Rattle.std.proofs.Common.{◌≡◌, ℕ, ◌<◌, Bool, ℤ, List, [], ◌∷◌, ap, sym, ◌∙◌, arith, take, length}
use Rattle.std.proofs.Common.{true, false, cond, not, ◌&&◌, subst}
use Rattle.std.specs.Prelude.{IsTrue, nat_le}
use Rattle.sv_num.specs.declared.faults.Place.{Place}
use Rattle.sv_num.specs.declared.operators.UnOp.{UnOp}
use Rattle.sv_num.specs.declared.operators.BinOp.{BinOp}
use Rattle.sv_num.specs.declared.operators.OpClass.{OpClass}
use Rattle.sv_num.specs.BinaryValues.{class_of, is_division}
use Rattle.sv_flat.specs.Design.{SignalForm, TypedTree, NodeTree, unary, binary, choice, held_bit}
use Rattle.sv_flat.specs.Design.{mend}
use Rattle.sv_flat.specs.Soundness.{well_formed, node_well_formed, is_signal, is_part_of, has_type}
use Rattle.sv_flat.specs.Soundness.{binary_typed}
use Rattle.sv_flat.specs.Values.{expression_signed, expression_width, signal_width, number_of}
use Rattle.sv_flat.proofs.ConstantFacts.{constant_number}
use Rattle.sv_flat.proofs.Depths.{first_of, second_of}
use Rattle.sv_flat.specs.Readings.{is_constant}
use Rattle.sv_gates.specs.Formulas.{Formula}
use Rattle.sv_gates.specs.Gates.{mux_gate, false_literal}
use Rattle.sv_circuits.specs.Words.{Word, bitwise_word}
use Rattle.sv_circuits.specs.Operators.{unary_word, binary_word, picked_bit, number_count}
use Rattle.sv_circuits.proofs.PickSteps.{picked_grows}
use Rattle.sv_encoding.specs.Expressions.{Words, expression_word, node_word, is_true_bit, cut_word}
use Rattle.sv_encoding.specs.Expressions.{indexed_bit, operand_word, bit_at_number}
use Rattle.sv_blast.specs.NodeWords.{operand_of, cut_of}
use Rattle.sv_blast.proofs.Growing.{Grows, expression_grows, is_true_grows, unary_grows}
use Rattle.sv_blast.proofs.Growing.{operand_grows, binary_grows, chosen_grows, indexed_grows}

module _ (signals : List SignalForm) (words : Words) where
  pub operand_of_grows : (c : OpClass) (e : TypedTree) → Grows (operand_of signals words c e)
  operand_of_grows c e old =
      let first = expression_word signals words e old in
      omega (arith, expression_grows signals words e old, operand_grows c first.1 first.0)

  module _ (most : ℕ) (old : Formula) where
    -- ---- nodes of which a part is made first

    module _ (width : ℕ) (signed : Bool) (node : NodeTree) where
      -- the node that it is
      pub full_as : (other : NodeTree) → node ≡ other →
          most < ((node_word signals words width signed other old).0).variables →
          most < ((node_word signals words width signed node old).0).variables
      full_as other is h =
          let same = ap (λ z. ((node_word signals words width signed z old).0).variables) is in
          omega (arith, h, same)

      pub binary_full_first : (op : BinOp) (a b : TypedTree) (k : OpClass) → node ≡ binary op a b →
          k ≡ class_of op → most < ((operand_of signals words k a old).0).variables →
          most < ((node_word signals words width signed node old).0).variables
      binary_full_first op a b k is ek h =
          let left = operand_of signals words (class_of op) a old in
          let right = operand_of signals words (class_of op) b left.0 in
          let here = ap (λ z. ((operand_of signals words z a old).0).variables) ek in
          full_as (binary op a b) is
          (omega (
            arith,
            h,
            here,
            operand_of_grows (class_of op) b left.0,
            binary_grows op (expression_signed a) left.1 right.1 right.0,
          ))

      pub binary_full_second : (op : BinOp) (a b : TypedTree) (k : OpClass) (one : Formula)
          (left : Word) → node ≡ binary op a b → k ≡ class_of op →
          operand_of signals words k a old ≡ (one, left) →
          most < ((operand_of signals words k b one).0).variables →
          most < ((node_word signals words width signed node old).0).variables
      binary_full_second op a b k one left is ek e h =
          let first = operand_of signals words (class_of op) a old in
          let right = operand_of signals words (class_of op) b first.0 in
          let made : first ≡ (one, left) = ap (λ z. operand_of signals words z a old) (sym ek) ∙ e in
          let here = ap (λ z. ((operand_of signals words z b one).0).variables) ek in
          let same = ap (λ (z : Formula × Word).
          ((operand_of signals words (class_of op) b z.0).0).variables) made in
          full_as (binary op a b) is
          (omega (
            arith,
            h,
            here,
            same,
            binary_grows op (expression_signed a) first.1 right.1 right.0,
          ))

      module _ (place : Place) (c a b : TypedTree) (is : node ≡ choice place c a b) where
        pub choice_full_bit : most < ((is_true_bit signals words c old).0).variables →
            most < ((node_word signals words width signed node old).0).variables
        choice_full_bit h =
            let bit = is_true_bit signals words c old in
            let first = expression_word signals words a bit.0 in
            let second = expression_word signals words b first.0 in
            full_as (choice place c a b) is
            (omega (
              arith,
              h,
              expression_grows signals words a bit.0,
              expression_grows signals words b first.0,
              chosen_grows bit.1 first.1 second.1 second.0,
            ))

        pub choice_full_first : (one : Formula) (bit : ℤ) →
            is_true_bit signals words c old ≡ (one, bit) →
            most < ((expression_word signals words a one).0).variables →
            most < ((node_word signals words width signed node old).0).variables
        choice_full_first one bit e h =
            let made = is_true_bit signals words c old in
            let first = expression_word signals words a made.0 in
            let second = expression_word signals words b first.0 in
            let same = ap (λ (z : Formula × ℤ).
            ((expression_word signals words a z.0).0).variables) e in
            full_as (choice place c a b) is
            (omega (
              arith,
              h,
              same,
              expression_grows signals words b first.0,
              chosen_grows made.1 first.1 second.1 second.0,
            ))

        pub choice_full_second : (one two : Formula) (bit : ℤ) (first : Word) →
            is_true_bit signals words c old ≡ (one, bit) →
            expression_word signals words a one ≡ (two, first) →
            most < ((expression_word signals words b two).0).variables →
            most < ((node_word signals words width signed node old).0).variables
        choice_full_second one two bit first e f h =
            let made = is_true_bit signals words c old in
            let yes = expression_word signals words a made.0 in
            let no = expression_word signals words b yes.0 in
            let same = ap (λ (z : Formula × ℤ). ((expression_word signals words b
            (expression_word signals words a z.0).0).0).variables) e in
            let last = ap (λ (z : Formula × Word).
            ((expression_word signals words b z.0).0).variables) f in
            full_as (choice place c a b) is
            (omega (arith, h, same, last, chosen_grows made.1 yes.1 no.1 no.0))

      pub unary_full_first : (op : UnOp) (e : TypedTree) → node ≡ unary op e →
          most < ((expression_word signals words e old).0).variables →
          most < ((node_word signals words width signed node old).0).variables
      unary_full_first op e is h =
          let first = expression_word signals words e old in
          full_as (unary op e) is (omega (arith, h, unary_grows op first.1 first.0))

      pub held_bit_full_first : (s : ℕ) (place : Place) (e index : TypedTree) →
          node ≡ held_bit s place e index →
          most < ((cut_of signals words s e old).0).variables →
          most < ((node_word signals words width signed node old).0).variables
      held_bit_full_first s place e index is h =
          let first = cut_of signals words s e old in
          full_as (held_bit s place e index) is
          (omega (
            arith,
            h,
            indexed_grows signals first.1 index
                (expression_word signals words index) (expression_grows signals words index) first.0,
          ))

      pub mend_full_first : (s : ℕ) (e : TypedTree) (high low : ℕ) (piece : TypedTree) →
          node ≡ mend s e high low piece →
          most < ((cut_of signals words s e old).0).variables →
          most < ((node_word signals words width signed node old).0).variables
      mend_full_first s e high low piece is h =
          let first = cut_of signals words s e old in
          full_as (mend s e high low piece) is
          (omega (arith, h, expression_grows signals words piece first.0))

-- a word that is made first, and then changed without gates
pub changed : (made : Formula × Word) (change : Word → Word) (new : Formula)
    (word seen done : Word) → made ≡ (new, word) → seen ≡ word → done ≡ change seen →
    ◌≡◌ {A = Formula × Word} (made.0, change made.1) (new, done)
changed made change new word seen done e es ed =
    ap (λ (z : Formula × Word). (z.0, change z.1)) e
    ∙ ap (λ z. (new, z)) (ap change (sym es) ∙ sym ed)

-- ---- constant indices

-- the bit at a constant index
pub constant_bit : (signals : List SignalForm) (words : Words) (word : Word) (index : TypedTree)
    (old : Formula) (bit : ℤ) → is_constant index ≡ true →
    bit ≡ bit_at_number word (number_of [] (λ t. 0) index) →
    indexed_bit signals word index (expression_word signals words index) old ≡ (old, bit)
constant_bit signals words word index old bit constant e =
    ap (λ b. cond b (old, bit_at_number word (number_of signals (λ t. 0) index))
    (picked_bit word (expression_signed index) (expression_word signals words index) old)) constant
    ∙ ap (λ z. (old, z)) (ap (bit_at_number word)
    (constant_number signals [] (λ t. 0) (λ t. 0) index constant)
    ∙ sym e)

-- of any other the word is made first
pub indexed_full : (signals : List SignalForm) (words : Words) (most : ℕ) (word : Word)
    (index : TypedTree) (old : Formula) → is_constant index ≡ false →
    most < ((expression_word signals words index old).0).variables →
    most < ((indexed_bit signals word index (expression_word signals words index) old).0).variables
indexed_full signals words most word index old other h =
    let made = expression_word signals words index old in
    let reached = take (number_count (length made.1) (expression_signed index)) word in
    let same = ap (λ b. ((cond b (old, bit_at_number word (number_of signals (λ t. 0) index))
    (picked_bit word (expression_signed index) (expression_word signals words index)
    old)).0).variables) other in
    omega (arith, h, same, picked_grows made.1 false_literal 0 reached made.0)

-- ---- what a well formed node says of its parts

module _ (signals : List SignalForm) (w : ℕ) (signed : Bool) (node : NodeTree)
    (formed : IsTrue (node_well_formed signals w signed node)) where
  as_formed : (other : NodeTree) → node ≡ other → IsTrue (node_well_formed signals w signed other)
  as_formed other is = subst (λ z. IsTrue (node_well_formed signals w signed z)) is formed

  pub binary_formed : (op : BinOp) (a b : TypedTree) → node ≡ binary op a b →
      IsTrue (well_formed signals a) × IsTrue (well_formed signals b)
  binary_formed op a b is =
      let front = not (is_division op) && binary_typed (class_of op) w signed a b in
      let h = as_formed (binary op a b) is in (
        second_of front (well_formed signals a)
            (first_of (front && well_formed signals a) (well_formed signals b) h),
        second_of (front && well_formed signals a) (well_formed signals b) h,
      )

  pub choice_formed : (place : Place) (c a b : TypedTree) → node ≡ choice place c a b →
      IsTrue (well_formed signals c) × IsTrue (well_formed signals a)
      × IsTrue (well_formed signals b)
  choice_formed place c a b is =
      let types = has_type w signed a && has_type w signed b in
      let fc = well_formed signals c in
      let fa = well_formed signals a in
      let fb = well_formed signals b in
      let h = as_formed (choice place c a b) is in
      let front = first_of (types && fc && fa) fb h in (
        second_of types fc (first_of (types && fc) fa front),
        second_of (types && fc) fa front,
        second_of (types && fc && fa) fb h,
      )

  pub held_bit_formed : (s : ℕ) (place : Place) (e index : TypedTree) →
      node ≡ held_bit s place e index → IsTrue (well_formed signals index)
  held_bit_formed s place e index is =
      second_of (is_signal signals s && well_formed signals e) (well_formed signals index)
      (as_formed (held_bit s place e index) is)

  pub mend_formed : (s : ℕ) (e : TypedTree) (high low : ℕ) (piece : TypedTree) →
      node ≡ mend s e high low piece → IsTrue (well_formed signals piece)
  mend_formed s e high low piece is =
      second_of (is_signal signals s && nat_le (signal_width signals s) w
      && is_part_of (signal_width signals s) (expression_width piece) high low
      && well_formed signals e) (well_formed signals piece)
      (as_formed (mend s e high low piece) is)
