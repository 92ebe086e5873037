-- The word of an expression hangs on the words and widths of the signals that it names alone.
use Rattle.std.proofs.Common.{◌≡◌, ℕ, ◌<◌, Bool, true, false, ◌&&◌, nat_lt, cond, ltb-true, List}
use Rattle.std.proofs.Common.{[], ◌∷◌, ◌++◌, length, refl, ap, ◌∙◌, ℤ}
use Rattle.std.specs.Prelude.{IsTrue}
use mathlib.Core.Path.{fun_ext}
use Rattle.sv_flat.specs.Design.{SignalForm, TypedTree, typed, NodeTree, constant, read, read_bit}
use Rattle.sv_flat.specs.Design.{read_part, unary, binary, choice, join, replication, held}
use Rattle.sv_flat.specs.Design.{held_bit, held_part, mend, slice, TypedTrees, no_parts, more_parts}
use Rattle.sv_flat.specs.Values.{signal_width, expression_signed, number_of}
use Rattle.sv_num.specs.BinaryValues.{class_of}
use Rattle.sv_flat.specs.Soundness.{well_formed}
use Rattle.sv_flat.specs.Readings.{is_constant}
use Rattle.sv_flat.proofs.Depths.{first_of, second_of}
use Rattle.sv_flat.proofs.ReadSignals.{reads_signals}
use Rattle.sv_flat.proofs.ConstantFacts.{constant_number}
use Rattle.sv_obl.specs.Wanted.{with_copies}
use Rattle.sv_obl.proofs.PutFacts.{width_settled}
use Rattle.sv_obl.proofs.TreeFacts.{held_below, node_held_below, parts_held_below, well_held}
use Rattle.sv_gates.specs.Formulas.{Formula}
use Rattle.sv_gates.specs.Gates.{mux_gate}
use Rattle.sv_circuits.specs.Words.{Word, WordMaker, zero_filled, extended_word, part_word}
use Rattle.sv_circuits.specs.Words.{replaced_word, repeated_word, bitwise_word, not_zero_bit}
use Rattle.sv_circuits.specs.Operators.{picked_bit, unary_word, binary_word}
use Rattle.sv_encoding.specs.Expressions.{Words, expression_word, node_word, joined_word, cut_word}
use Rattle.sv_encoding.specs.Expressions.{bit_at_number, indexed_bit, operand_word, is_true_bit}
use Rattle.sv_encoding_laws.proofs.ExpressionLaws.{Named, NamedNode, NamedParts}
use Rattle.sv_encoding_laws.proofs.NamedValues.{named_from_reads}

module _ (A B : List SignalForm) (ws vs : Words) (n : ℕ)
    (widths : (k : ℕ) → k < n → signal_width B k ≡ signal_width A k) where
  abbrev pub HasSame : ℕ → Type 0
  HasSame s = ws s ≡ vs s

  cut_same : (s : ℕ) (word : Word) → IsTrue (nat_lt s n) → cut_word B s word ≡ cut_word A s word
  cut_same s word low = ap (λ k. zero_filled k word) (widths s (ltb-true s n low))

  index_same : (one two : Word) (index : TypedTree) (make made : WordMaker) (f : Formula) →
      one ≡ two → ((g : Formula) → make g ≡ made g) →
      indexed_bit B one index make f ≡ indexed_bit A two index made f
  index_same one two index make made f words makes = by (is_constant index) refl
    where
      by : (c : Bool) → is_constant index ≡ c →
          cond c (f, bit_at_number one (number_of B (λ t. 0) index))
          (picked_bit one (expression_signed index) make f)
          ≡ cond c (f, bit_at_number two (number_of A (λ t. 0) index))
          (picked_bit two (expression_signed index) made f)
      by true is =
          ap (λ k. (f, bit_at_number one k)) (constant_number B A (λ k. 0) (λ k. 0) index is)
          ∙ ap (λ w. (f, bit_at_number w (number_of A (λ t. 0) index))) words
      by false is =
          ap (λ w. picked_bit w (expression_signed index) make f) words
          ∙ ap (λ (m : WordMaker). picked_bit two (expression_signed index) m f) (fun_ext makes)

  mutual
    pub named_word : (t : TypedTree) → IsTrue (held_below n t) → Named HasSame t → (f : Formula) →
        expression_word B ws t f ≡ expression_word A vs t f
    named_word (typed w s node) low h f = named_node_word node w s low h f

    named_node_word : (node : NodeTree) (w : ℕ) (s : Bool) → IsTrue (node_held_below n node) →
        NamedNode HasSame node → (f : Formula) →
        node_word B ws w s node f ≡ node_word A vs w s node f
    named_node_word (constant k) w s low h f = refl
    named_node_word (read t p) w s low h f = ap (λ z. (f, extended_word s w z)) h
    named_node_word (read_bit t p i) w s low h f =
        ap (λ (z : Formula × ℤ). (z.0, zero_filled w (z.1 ∷ [])))
        (index_same (ws t) (vs t) i (expression_word B ws i) (expression_word A vs i) f h.0
        (λ g. named_word i low h.1 g))
    named_node_word (read_part t p high bottom) w s low h f =
        ap (λ z. (f, zero_filled w (part_word high bottom z))) h
    named_node_word (unary op a) w s low h f =
        ap (λ (z : Formula × Word).
        ((unary_word op z.1 z.0).0, zero_filled w (unary_word op z.1 z.0).1)) (named_word a low h f)
    named_node_word (binary op a b) w s low h f =
        let c = class_of op in
        let first = expression_word B ws a f in
        let left = operand_word c first.1 first.0 in
        ap (λ (z : Formula × Word).
        let right = operand_word c z.1 z.0 in
        let made = binary_word op (expression_signed a) left.1 right.1 right.0 in
        (made.0, zero_filled w made.1))
        (named_word b (second_of (held_below n a) (held_below n b) low) h.1 left.0)
        ∙ ap (λ (y : Formula × Word).
        let left = operand_word c y.1 y.0 in
        let second = expression_word A vs b left.0 in
        let right = operand_word c second.1 second.0 in
        let made = binary_word op (expression_signed a) left.1 right.1 right.0 in
        (made.0, zero_filled w made.1))
        (named_word a (first_of (held_below n a) (held_below n b) low) h.0 f)
    named_node_word (choice p c a b) w s low h f =
        let low_ca = first_of (held_below n c && held_below n a) (held_below n b) low in
        let condition = expression_word B ws c f in
        let bit = not_zero_bit condition.1 condition.0 in
        let first = expression_word B ws a bit.0 in
        ap (λ (z : Formula × Word).
        let made = bitwise_word (mux_gate bit.1) first.1 z.1 z.0 in
        (made.0, zero_filled w made.1))
        (named_word b (second_of (held_below n c && held_below n a) (held_below n b) low) h.1.1
        first.0)
        ∙ ap (λ (y : Formula × Word).
        let second = expression_word A vs b y.0 in
        let made = bitwise_word (mux_gate bit.1) y.1 second.1 second.0 in
        (made.0, zero_filled w made.1))
        (named_word a (second_of (held_below n c) (held_below n a) low_ca) h.1.0 bit.0)
        ∙ ap (λ (x : Formula × Word).
        let bit = not_zero_bit x.1 x.0 in
        let first = expression_word A vs a bit.0 in
        let second = expression_word A vs b first.0 in
        let made = bitwise_word (mux_gate bit.1) first.1 second.1 second.0 in
        (made.0, zero_filled w made.1))
        (named_word c (first_of (held_below n c) (held_below n a) low_ca) h.0 f)
    named_node_word (join es) w s low h f =
        ap (λ (z : Formula × Word). (z.0, zero_filled w z.1)) (named_parts_word es low h f)
    named_node_word (replication count es) w s low h f =
        ap (λ (z : Formula × Word). (z.0, zero_filled w (repeated_word count z.1)))
        (named_parts_word es low h f)
    named_node_word (held t a) w s low h f =
        let made = expression_word B ws a f in
        ap (λ z. (made.0, extended_word s w z))
        (cut_same t made.1 (first_of (nat_lt t n) (held_below n a) low))
        ∙ ap (λ (z : Formula × Word). (z.0, extended_word s w (cut_word A t z.1)))
        (named_word a (second_of (nat_lt t n) (held_below n a) low) h f)
    named_node_word (held_bit t p a i) w s low h f =
        let low_a = first_of (nat_lt t n && held_below n a) (held_below n i) low in
        let low_i = second_of (nat_lt t n && held_below n a) (held_below n i) low in
        let made = expression_word B ws a f in
        let make = expression_word A vs i in
        ap (λ (z : Formula × ℤ). (z.0, zero_filled w (z.1 ∷ [])))
        (index_same (cut_word B t made.1) (cut_word A t made.1) i (expression_word B ws i) make made.0
        (cut_same t made.1 (first_of (nat_lt t n) (held_below n a) low_a))
        (λ g. named_word i low_i h.1 g))
        ∙ ap (λ (y : Formula × Word).
        let bit = indexed_bit A (cut_word A t y.1) i make y.0 in
        (bit.0, zero_filled w (bit.1 ∷ [])))
        (named_word a (second_of (nat_lt t n) (held_below n a) low_a) h.0 f)
    named_node_word (held_part t p a high bottom) w s low h f =
        let made = expression_word B ws a f in
        ap (λ z. (made.0, zero_filled w (part_word high bottom z)))
        (cut_same t made.1 (first_of (nat_lt t n) (held_below n a) low))
        ∙ ap (λ (z : Formula × Word). (z.0, zero_filled w (part_word high bottom (cut_word A t z.1))))
        (named_word a (second_of (nat_lt t n) (held_below n a) low) h f)
    named_node_word (mend t a high bottom piece) w s low h f =
        let low_a = first_of (nat_lt t n && held_below n a) (held_below n piece) low in
        let low_p = second_of (nat_lt t n && held_below n a) (held_below n piece) low in
        let made = expression_word B ws a f in
        ap (λ z.
        let bits = expression_word B ws piece made.0 in
        (bits.0, extended_word s w (replaced_word high bottom z bits.1)))
        (cut_same t made.1 (first_of (nat_lt t n) (held_below n a) low_a))
        ∙ ap (λ (z : Formula × Word).
        (z.0, extended_word s w (replaced_word high bottom (cut_word A t made.1) z.1)))
        (named_word piece low_p h.1 made.0)
        ∙ ap (λ (y : Formula × Word).
        let bits = expression_word A vs piece y.0 in
        (bits.0, extended_word s w (replaced_word high bottom (cut_word A t y.1) bits.1)))
        (named_word a (second_of (nat_lt t n) (held_below n a) low_a) h.0 f)
    named_node_word (slice a high bottom) w s low h f =
        ap (λ (z : Formula × Word). (z.0, zero_filled w (part_word high bottom z.1)))
        (named_word a low h f)

    named_parts_word : (es : TypedTrees) → IsTrue (parts_held_below n es) →
        NamedParts HasSame es → (f : Formula) → joined_word B ws es f ≡ joined_word A vs es f
    named_parts_word no_parts low h f = refl
    named_parts_word (more_parts a es) low h f =
        let first = expression_word B ws a f in
        ap (λ (z : Formula × Word). (z.0, z.1 ++ first.1))
        (named_parts_word es (second_of (held_below n a) (parts_held_below n es) low) h.1 first.0)
        ∙ ap (λ (y : Formula × Word).
        let rest = joined_word A vs es y.0 in (rest.0, rest.1 ++ y.1))
        (named_word a (first_of (held_below n a) (parts_held_below n es) low) h.0 f)

-- ---- among copies

module _ (signals : List SignalForm) (ws words : Words) where
  -- signals that are no copies have their words
  abbrev pub AreSettled : Type 0
  AreSettled = (t : ℕ) → t < length signals → ws t ≡ words t

  pub settled_expression : AreSettled → (e : TypedTree) → IsTrue (well_formed signals e) →
      (f : Formula) → expression_word (with_copies signals) ws e f ≡ expression_word signals words e f
  settled_expression same e formed f =
      named_word signals (with_copies signals) ws words (length signals)
      (λ k low. width_settled signals k low) e (well_held signals e formed)
      (named_from_reads signals (λ s. ws s ≡ words s) e
      (λ r r_at. same r.signal
      (ltb-true r.signal (length signals) (reads_signals signals e formed r r_at)))) f

  pub settled_truth : AreSettled → (e : TypedTree) → IsTrue (well_formed signals e) →
      (f : Formula) → is_true_bit (with_copies signals) ws e f ≡ is_true_bit signals words e f
  settled_truth same e formed f =
      ap (λ (z : Formula × Word). not_zero_bit z.1 z.0) (settled_expression same e formed f)
