-- The word of an expression spells its value in the environment that the words spell (IEEE
-- 1364-2005, clause 5).
use Rattle.std.proofs.Common.{◌≡◌, ℕ, ◌+◌, ◌-◌, ◌*◌, ◌/◌, ◌%◌, ◌^◌, ◌<◌, ◌≤◌, Bool, true, false}
use Rattle.std.proofs.Common.{not, ◌&&◌, ◌||◌, ◌==◌, nat_lt, cond, ℤ, List, [], ◌∷◌, refl, sym}
use Rattle.std.proofs.Common.{ap, ap₂, ◌∙◌, subst, arith, if◌then◌else◌, ltb-true}
use Rattle.std.specs.Prelude.{IsTrue, nat_le}
use Rattle.std.specs.Bool.{beq}
use Rattle.std.proofs.Math.Pow.{mod-mod-pow}
use Rattle.std.proofs.lemmas.Bool.{leb-true, eqb-true}
use Rattle.sv_num.specs.declared.operators.UnOp.{UnOp}
use Rattle.sv_num.specs.declared.operators.BinOp.{BinOp}
use Rattle.sv_num.specs.declared.operators.OpClass.{OpClass}
use Rattle.sv_num.specs.declared.operators.OpClass.TheVariants.{Context, Compare, Logical, Shift}
use Rattle.sv_num.specs.Vectors.{truth, is_true}
use Rattle.sv_num.specs.Parts.{extended, span_of, bits_between, bit_or_zero, replaced_bits, repeated}
use Rattle.sv_num.specs.UnaryValues.{gives_one_bit}
use Rattle.sv_num.specs.BinaryValues.{binary_value, class_of, is_division, result_width}
use Rattle.sv_flat.specs.Design.{SignalForm, TypedTree, typed, NodeTree, constant, read, read_bit}
use Rattle.sv_flat.specs.Design.{read_part, unary, binary, choice, join, replication, held}
use Rattle.sv_flat.specs.Design.{held_bit, held_part, mend, slice, TypedTrees, no_parts, more_parts}
use Rattle.sv_flat.specs.Values.{signal_width, expression_width, expression_signed, parts_width}
use Rattle.sv_flat.specs.Values.{value, node_value, joined, number_of, cut_value}
use Rattle.sv_flat.specs.Soundness.{is_one_to, is_signal, has_type, is_part_of, unary_typed}
use Rattle.sv_flat.specs.Soundness.{binary_typed, well_formed, node_well_formed, parts_well_formed}
use Rattle.sv_flat.specs.Readings.{is_constant}
use Rattle.sv_flat.proofs.ConstantFacts.{constant_number}
use Rattle.sv_flat.proofs.Depths.{first_of, second_of}
use Rattle.sv_clause.specs.Literals.{literal_true}
use Rattle.sv_gates.specs.Formulas.{Formula, IsLiteral}
use Rattle.sv_gates.specs.Extending.{Makes}
use Rattle.sv_gates.specs.Gates.{mux_gate}
use Rattle.sv_gates.proofs.ExtendingLaws.{makes_then, makes_at_once}
use Rattle.sv_circuits.specs.Words.{Word, word_value, number_word, zero_filled, extended_word}
use Rattle.sv_circuits.specs.Words.{part_word, replaced_word, repeated_word, bitwise_word, not_zero_bit}
use Rattle.sv_circuits.specs.Operators.{unary_word, binary_word, picked_bit}
use Rattle.sv_circuits.specs.Circuits.{IsBase}
use Rattle.sv_circuits.proofs.Pieces.{base_more}
use Rattle.sv_circuits.proofs.Products.{joined_is}
use Rattle.sv_circuits.specs.Circuits.{AreSized, HaveSizes}
use Rattle.sv_flat.proofs.AdmittedFacts.{negated_true}
use Rattle.sv_circuits.proofs.Lengths.{unary_width, number_length, width_filled, joined_length}
use Rattle.sv_circuits.proofs.WordValues.{number_is, number_value, extended_is, extended_value}
use Rattle.sv_circuits.proofs.WordValues.{both_value}
use Rattle.sv_circuits.proofs.PartValues.{part_is, part_value, replaced_is, replaced_length}
use Rattle.sv_circuits.proofs.PartValues.{replaced_value, repeated_is, repeated_length}
use Rattle.sv_circuits.proofs.PartValues.{repeated_value}
use Rattle.sv_encoding.specs.Expressions.{Words, expression_word, node_word, joined_word, cut_word}
use Rattle.sv_encoding.specs.Expressions.{bit_at_number, indexed_bit, operand_word, is_true_bit}
use Rattle.sv_encoding.specs.Valuations.{spelled_environment}
use Rattle.sv_encoding_laws.proofs.Steps.{HasWidth, Spells, MakesWord, MakesBit, width_more, there}
use Rattle.sv_encoding_laws.proofs.Steps.{word_from, resized, cut_to, unary_step}
use Rattle.sv_encoding_laws.proofs.Steps.{operand_width, operand_value, not_zero_step, operand_step}
use Rattle.sv_encoding_laws.proofs.Steps.{operand_same, binary_step, choice_step, picked_step}
use Rattle.sv_encoding_laws.proofs.Steps.{bit_at_is, bit_at_value}

-- ---- names

-- each signal that is named has a property
abbrev mutual
  pub Named : (ℕ → Type 0) → TypedTree → Type 0
  Named P (typed width signed node) = NamedNode P node

  pub NamedNode : (ℕ → Type 0) → NodeTree → Type 0
  NamedNode P (constant n) = Unit {0}
  NamedNode P (read s place) = P s
  NamedNode P (read_bit s place index) = P s × Named P index
  NamedNode P (read_part s place high low) = P s
  NamedNode P (unary op e) = Named P e
  NamedNode P (binary op a b) = Named P a × Named P b
  NamedNode P (choice place c a b) = Named P c × (Named P a × Named P b)
  NamedNode P (join es) = NamedParts P es
  NamedNode P (replication count es) = NamedParts P es
  NamedNode P (held s e) = Named P e
  NamedNode P (held_bit s place e index) = Named P e × Named P index
  NamedNode P (held_part s place e high low) = Named P e
  NamedNode P (mend s e high low piece) = Named P e × Named P piece
  NamedNode P (slice e high low) = Named P e

  pub NamedParts : (ℕ → Type 0) → TypedTrees → Type 0
  NamedParts P no_parts = Unit {0}
  NamedParts P (more_parts e es) = Named P e × NamedParts P es

-- the parts of a conjunction of four, and of five
pub four_parts : (a b c d : Bool) → IsTrue (a && b && c && d) →
    IsTrue a × IsTrue b × IsTrue c × IsTrue d
four_parts a b c d h =
    let three = first_of (a && b && c) d h in
    let two = first_of (a && b) c three in (
      first_of a b two,
      second_of a b two,
      second_of (a && b) c three,
      second_of (a && b && c) d h,
    )

pub five_parts : (a b c d e : Bool) → IsTrue (a && b && c && d && e) →
    IsTrue a × IsTrue b × IsTrue c × IsTrue d × IsTrue e
five_parts a b c d e h =
    let (one, two, three, four) = four_parts a b c d (first_of (a && b && c && d) e h) in
    (one, two, three, four, second_of (a && b && c && d) e h)

-- ---- lengths

pub same_type : (w : ℕ) (s : Bool) (e : TypedTree) → IsTrue (has_type w s e) → expression_width e ≡ w
same_type w s e h =
    eqb-true (expression_width e) w (first_of (expression_width e == w)
    (beq (expression_signed e) s) h)

sized : (c : OpClass) (width : ℕ) (signed : Bool) (a b : TypedTree) →
    IsTrue (binary_typed c width signed a b) → 1 ≤ expression_width a →
    AreSized c (operand_width c (expression_width a)) (operand_width c (expression_width b))
sized Context width signed a b h some = (
  same_type width signed a (first_of (has_type width signed a) (has_type width signed b) h)
      ∙ sym (same_type width signed b
      (second_of (has_type width signed a) (has_type width signed b) h)),
  some,
)
sized Compare width signed a b h some =
    (sym (same_type (expression_width a) (expression_signed a) b h), some)
sized Logical width signed a b h some = (refl, refl)
sized Shift width signed a b h some = some

pub sizes_of : (op : BinOp) (width : ℕ) (signed : Bool) (a b : TypedTree) →
    IsTrue (not (is_division op)) → IsTrue (binary_typed (class_of op) width signed a b) →
    1 ≤ expression_width a →
    HaveSizes op (operand_width (class_of op) (expression_width a))
    (operand_width (class_of op) (expression_width b))
sizes_of op width signed a b whole types some =
    (negated_true (is_division op) whole, sized (class_of op) width signed a b types some)

-- an operator's word is no longer than its expression
result_fits : (c : OpClass) (width : ℕ) (signed : Bool) (a b : TypedTree) →
    IsTrue (binary_typed c width signed a b) → 1 ≤ width →
    result_width c (operand_width c (expression_width a)) ≤ width
result_fits Context width signed a b h some =
    let e = eqb-true (expression_width a) width
    (first_of (expression_width a == width) (beq (expression_signed a) signed)
    (first_of (has_type width signed a) (has_type width signed b) h)) in
    omega (arith, e)
result_fits Compare width signed a b h some = some
result_fits Logical width signed a b h some = some
result_fits Shift width signed a b h some =
    let e = eqb-true (expression_width a) width
    (first_of (expression_width a == width) (beq (expression_signed a) signed) h) in
    omega (arith, e)

unary_fits : (op : UnOp) (width : ℕ) (signed : Bool) (e : TypedTree) →
    IsTrue (unary_typed op width signed e) → 1 ≤ width → unary_width op (expression_width e) ≤ width
unary_fits op width signed e h some = by_one (gives_one_bit op) h
  where
    by_one : (t : Bool) → IsTrue (t || has_type width signed e) → (if t then 1 else expression_width e) ≤ width
    by_one true h = some
    by_one false h =
        let same = eqb-true (expression_width e) width
        (first_of (expression_width e == width) (beq (expression_signed e) signed) h) in
        omega (arith, same)

from_le : (a b : ℕ) → IsTrue (nat_le a b) → a ≤ b
from_le a b h = leb-true a b h

one_to : (w : ℕ) → IsTrue (is_one_to 64 w) → 1 ≤ w
one_to w h = from_le 1 w (first_of (nat_le 1 w) (nat_le w 64) h)

-- the bits from high to low
record Part (n width high low : ℕ) : Type 0 where
  order : low ≤ high
  inside : high < n
  fits : high + 1 - low ≤ width

part_of : (n width high low : ℕ) → IsTrue (is_part_of n width high low) → Part n width high low
part_of n width high low h =
    let front = first_of (nat_le low high && nat_lt high n) (nat_le (high + 1 - low) width) h in
    record {
      order = from_le low high (first_of (nat_le low high) (nat_lt high n) front);
      inside = ltb-true high n (second_of (nat_le low high) (nat_lt high n) front);
      fits = from_le (high + 1 - low) width
          (second_of (nat_le low high && nat_lt high n) (nat_le (high + 1 - low) width) h);
    }

low_mod : (v width low : ℕ) → low ≤ width → v % 2 ^ width % 2 ^ low ≡ v % 2 ^ low
low_mod v width low h =
    let split : width ≡ (width - low) + low = omega (arith, h) in
    ap (λ k. v % 2 ^ k % 2 ^ low) split ∙ mod-mod-pow v (width - low) low

pub formed_one : (signals : List SignalForm) (e : TypedTree) → IsTrue (well_formed signals e) →
    1 ≤ expression_width e
formed_one signals (typed w s node) h =
    one_to w (first_of (is_one_to 64 w) (node_well_formed signals w s node) h)

-- replacing bits of a value that is cut to the width
replaced_same : (width high low v piece : ℕ) {k : ℕ} → Part width k high low →
    replaced_bits width high low (v % 2 ^ width) piece ≡ replaced_bits width high low v piece
replaced_same width high low v piece part =
    let order = part.order in
    let inside = part.inside in
    ap₂ (λ a b. a / 2 ^ (high + 1) * 2 ^ (high + 1) + (piece % 2 ^ span_of high low * 2 ^ low + b))
    (low_mod v width width (omega arith)) (low_mod v width low (omega (arith, order, inside)))

module _ (signals : List SignalForm)
    (positive : (s : ℕ) → IsTrue (is_signal signals s) → 0 < signal_width signals s)
    (words : Words) (n : ℕ) where
  -- the word of a signal has its width, in some first variables
  abbrev pub Stands : ℕ → Type 0
  Stands s = HasWidth (signal_width signals s) n (words s)

  abbrev spelled : (ℕ → Bool) → ℕ → ℕ
  spelled values s = spelled_environment values words s

  -- the bit that an index names
  index_step : (old : Formula) (word : Word) (size : ℕ) (held_value : (ℕ → Bool) → ℕ)
      (index : TypedTree) → IsBase old → IsTrue (well_formed signals index) →
      HasWidth size old.variables word →
      MakesWord old (expression_word signals words index old) (expression_width index)
      (λ values. value signals (spelled values) index) →
      Makes old (indexed_bit signals word index (expression_word signals words index) old) IsLiteral
      (λ values l. truth (literal_true values l) ≡ bit_or_zero size (word_value values word)
      (number_of signals (spelled values) index))
  index_step old word size held_value (typed w s node) base h has p =
      by_constant (is_constant (typed w s node)) refl
    where
      by_constant : (t : Bool) → is_constant (typed w s node) ≡ t →
          Makes old (indexed_bit signals word (typed w s node)
          (expression_word signals words (typed w s node)) old) IsLiteral
          (λ values l. truth (literal_true values l) ≡ bit_or_zero size (word_value values word)
          (number_of signals (spelled values) (typed w s node)))
      by_constant true e =
          let index = typed w s node in
          let i = number_of signals (λ t. 0) index in
          let at_number : Makes old (old, bit_at_number word i) IsLiteral
          (λ values l. truth (literal_true values l) ≡ bit_or_zero size (word_value values word)
          (number_of signals (spelled values) index)) =
          makes_at_once old (bit_at_number word i) IsLiteral
          (λ values l. truth (literal_true values l)
          ≡ bit_or_zero size (word_value values word)
          (number_of signals (spelled values) index))
          base.closed (bit_at_is old.variables word i base.some has.is)
          (λ values met. bit_at_value values (base.truth values met) word i
          ∙ ap₂ (λ k z. bit_or_zero k (word_value values word) z) has.width
          (constant_number signals signals (λ t. 0) (spelled values) index e)) in
          subst (λ c. Makes old (cond c (old, bit_at_number word i)
          (picked_bit word s (expression_word signals words index) old)) IsLiteral
          (λ values l. truth (literal_true values l) ≡ bit_or_zero size (word_value values word)
          (number_of signals (spelled values) index))) (sym e) at_number
      by_constant false e =
          let index = typed w s node in
          let i = number_of signals (λ t. 0) index in
          subst (λ c. Makes old (cond c (old, bit_at_number word i)
          (picked_bit word s (expression_word signals words index) old)) IsLiteral
          (λ values l. truth (literal_true values l) ≡ bit_or_zero size (word_value values word)
          (number_of signals (spelled values) index))) (sym e)
          (picked_step old word size held_value s (expression_word signals words index) w
          (λ values. value signals (spelled values) index) base
          (one_to w (first_of (is_one_to 64 w) (node_well_formed signals w s node) h)) has p)

  -- a literal with a value as a word
  truth_word : (old : Formula) (made : Formula × ℤ) (width : ℕ) (v : (ℕ → Bool) → ℕ) →
      IsBase old → 1 ≤ width →
      Makes old made IsLiteral (λ values l. truth (literal_true values l) ≡ v values) →
      MakesWord old (made.0, zero_filled width (made.1 ∷ [])) width v
  truth_word old made width v base h p =
      resized old (made.0, made.1 ∷ []) 1 width v base h (record {
        extends = p.extends;
        within = record { is = (p.within, tt); width = refl };
        says = λ values e. one (literal_true values made.1) ∙ p.says values e;
      })
    where
      one : (b : Bool) → truth b + 2 * 0 ≡ truth b
      one true = refl
      one false = refl

  -- a part of a word, with false bits behind it
  part_step : (old : Formula) (made : Formula × Word) (size width high low : ℕ)
      (v : (ℕ → Bool) → ℕ) → IsBase old → high + 1 - low ≤ width → MakesWord old made size v →
      MakesWord old (made.0, zero_filled width (part_word high low made.1)) width
      (λ values. bits_between high low (v values))
  part_step old made size width high low v base fits p =
      resized old (made.0, part_word high low made.1) (span_of high low) width
      (λ values. bits_between high low (v values)) base fits
      (word_from old made size v (part_word high low made.1) (span_of high low)
      (λ values. bits_between high low (v values)) base p
      (λ m some has. record {
        is = part_is m high low made.1 some has.is;
        width = width_filled _ (span_of high low) _;
      })
      (λ values e said. part_value values e high low made.1 ∙ ap (bits_between high low) said))

  -- a word at a greater width
  extended_step : (old : Formula) (made : Formula × Word) (size width : ℕ) (signed : Bool)
      (v : (ℕ → Bool) → ℕ) → IsBase old → 1 ≤ size → size ≤ width → MakesWord old made size v →
      MakesWord old (made.0, extended_word signed width made.1) width
      (λ values. extended signed size width (v values))
  extended_step old made size width signed v base some wider p =
      word_from old made size v (extended_word signed width made.1) width
      (λ values. extended signed size width (v values)) base p
      (λ m one has. record {
        is = extended_is m signed width made.1 one has.is;
        width = width_filled _ width made.1;
      })
      (λ values e said.
      let wide = p.within.width in
      extended_value values e signed width made.1 (subst (λ k. 1 ≤ k) (sym wide) some)
      (subst (λ k. k ≤ width) (sym wide) wider)
      ∙ ap₂ (λ k x. extended signed k width x) wide said)

  -- the word of a signal, where it is named
  stands_there : (s : ℕ) (old : Formula) → n ≤ old.variables → IsBase old → Stands s →
      MakesWord old (old, words s) (signal_width signals s) (λ values. spelled values s)
  stands_there s old small base stands =
      there old (words s) (signal_width signals s) (λ values. spelled values s) base
      (width_more n old.variables (signal_width signals s) (words s) small stands)
      (λ values e. refl)

  -- an expression's value cut to the width of a signal
  cut_same : (s : ℕ) (e : TypedTree) (environment : ℕ → ℕ) →
      value signals environment e % 2 ^ signal_width signals s
      ≡ cut_value signals environment s e
  cut_same s (typed w signed node) environment = refl

  mutual
    pub expression_makes : (e : TypedTree) → IsTrue (well_formed signals e) → Named Stands e →
        (old : Formula) → n ≤ old.variables → IsBase old →
        MakesWord old (expression_word signals words e old) (expression_width e)
        (λ values. value signals (spelled values) e)
    expression_makes (typed w s node) h named old small base =
        node_makes node w s (one_to w (first_of (is_one_to 64 w) (node_well_formed signals w s node) h))
        (second_of (is_one_to 64 w) (node_well_formed signals w s node) h) named old small base

    node_makes : (node : NodeTree) (w : ℕ) (signed : Bool) → 1 ≤ w →
        IsTrue (node_well_formed signals w signed node) → NamedNode Stands node → (old : Formula) →
        n ≤ old.variables → IsBase old →
        MakesWord old (node_word signals words w signed node old) w
        (λ values. node_value signals (spelled values) w signed node)
    node_makes (constant k) w signed some h named old small base =
        there old (number_word w k) w (λ values. k) base
        (record { is = number_is old.variables w k base.some; width = number_length w k })
        (λ values e. number_value values e w k (ltb-true k (2 ^ w) h))
    node_makes (read s p) w signed some h named old small base =
        extended_step old (old, words s) (signal_width signals s) w signed
        (λ values. spelled values s) base
        (positive s (first_of (is_signal signals s) (nat_le (signal_width signals s) w) h))
        (from_le (signal_width signals s) w
        (second_of (is_signal signals s) (nat_le (signal_width signals s) w) h))
        (stands_there s old small base named)
    node_makes (read_bit s p i) w signed some h named old small base =
        let formed = second_of (is_signal signals s) (well_formed signals i) h in
        let index = expression_makes i formed named.1 old small base in
        truth_word old (indexed_bit signals (words s) i (expression_word signals words i) old) w
        (λ values. node_value signals (spelled values) w signed (read_bit s p i)) base some
        (index_step old (words s) (signal_width signals s) (λ values. spelled values s) i base formed
        (width_more n old.variables (signal_width signals s) (words s) small named.0) index)
    node_makes (read_part s p high low) w signed some h named old small base =
        let part = part_of (signal_width signals s) w high low
        (second_of (is_signal signals s) (is_part_of (signal_width signals s) w high low) h) in
        part_step old (old, words s) (signal_width signals s) w high low (λ values. spelled values s)
        base part.fits (stands_there s old small base named)
    node_makes (unary op e) w signed some h named old small base =
        let typed_so = first_of (unary_typed op w signed e) (well_formed signals e) h in
        let formed = second_of (unary_typed op w signed e) (well_formed signals e) h in
        let first = expression_word signals words e old in
        let p = expression_makes e formed named old small base in
        resized old (unary_word op first.1 first.0) (unary_width op (expression_width e)) w
        (λ values. node_value signals (spelled values) w signed (unary op e)) base
        (unary_fits op w signed e typed_so some)
        (unary_step op (expression_signed e) old first (expression_width e)
        (λ values. value signals (spelled values) e) base p)
    node_makes (binary op a b) w signed some h named old small base =
        let (is_whole, is_typed, formed_a, formed_b) =
        four_parts (not (is_division op)) (binary_typed (class_of op) w signed a b)
        (well_formed signals a) (well_formed signals b) h in
        let c = class_of op in
        let x = λ (values : ℕ → Bool). value signals (spelled values) a in
        let y = λ (values : ℕ → Bool). value signals (spelled values) b in
        let first = expression_word signals words a old in
        let p = expression_makes a formed_a named.0 old small base in
        let left = operand_word c first.1 first.0 in
        let q = operand_step c old first (expression_width a) x base p in
        let base1 = base_more old left.0 base q.extends in
        let small1 : n ≤ (left.0).variables = omega (arith, small, q.extends.begins.grows) in
        let second = expression_word signals words b left.0 in
        let r = expression_makes b formed_b named.1 left.0 small1 base1 in
        let right = operand_word c second.1 second.0 in
        let t = operand_step c left.0 second (expression_width b) y base1 r in
        let made = binary_word op (expression_signed a) left.1 right.1 right.0 in
        let m = operand_width c (expression_width a) in
        let u = binary_step op (expression_signed a) old left right m
        (operand_width c (expression_width b)) (λ values. operand_value c (x values))
        (λ values. operand_value c (y values)) base q t
        (sizes_of op w signed a b is_whole is_typed (formed_one signals a formed_a)) in
        let done = resized old made (result_width c m) w
        (λ values. binary_value op m (expression_signed a) (operand_value c (x values))
        (operand_value c (y values))) base (result_fits c w signed a b is_typed some) u in
        record {
          extends = done.extends;
          within = done.within;
          says = λ values e. done.says values e
              ∙ operand_same op (expression_width a) (expression_width b) (expression_signed a)
              (x values) (y values);
        }
    node_makes (choice place c a b) w signed some h named old small base =
        let (type_a, type_b, formed_c, formed_a, formed_b) =
        five_parts (has_type w signed a) (has_type w signed b) (well_formed signals c)
        (well_formed signals a) (well_formed signals b) h in
        let wide_a = eqb-true (expression_width a) w (first_of (expression_width a == w)
        (beq (expression_signed a) signed) type_a) in
        let wide_b = eqb-true (expression_width b) w (first_of (expression_width b == w)
        (beq (expression_signed b) signed) type_b) in
        let x = λ (values : ℕ → Bool). value signals (spelled values) a in
        let y = λ (values : ℕ → Bool). value signals (spelled values) b in
        let v = λ (values : ℕ → Bool). value signals (spelled values) c in
        let condition = expression_word signals words c old in
        let p = expression_makes c formed_c named.0 old small base in
        let bit = not_zero_bit condition.1 condition.0 in
        let q = not_zero_step old condition (expression_width c) v base p in
        let base1 = base_more old bit.0 base q.extends in
        let small1 : n ≤ (bit.0).variables = omega (arith, small, q.extends.begins.grows) in
        let first = expression_word signals words a bit.0 in
        let r = expression_makes a formed_a named.1.0 bit.0 small1 base1 in
        let base2 = base_more bit.0 first.0 base1 r.extends in
        let small2 : n ≤ (first.0).variables = omega (arith, small1, r.extends.begins.grows) in
        let second = expression_word signals words b first.0 in
        let t = expression_makes b formed_b named.1.1 first.0 small2 base2 in
        let r_w = subst (λ k. MakesWord bit.0 first k x) wide_a r in
        let t_w = subst (λ k. MakesWord first.0 second k y) wide_b t in
        resized old (bitwise_word (mux_gate bit.1) first.1 second.1 second.0) w w
        (λ values. cond (is_true (v values)) (x values) (y values)) base (omega arith)
        (choice_step old bit first second w (λ values. is_true (v values)) x y base q r_w t_w)
    node_makes (join es) w signed some h named old small base =
        let fits = first_of (nat_le (parts_width es) w) (parts_well_formed signals es) h in
        let formed = second_of (nat_le (parts_width es) w) (parts_well_formed signals es) h in
        resized old (joined_word signals words es old) (parts_width es) w
        (λ values. joined signals (spelled values) es) base (from_le (parts_width es) w fits)
        (parts_make es formed named old small base)
    node_makes (replication count es) w signed some h named old small base =
        let front = first_of (is_one_to 64 count && nat_le (count * parts_width es) w)
        (parts_well_formed signals es) h in
        let formed = second_of (is_one_to 64 count && nat_le (count * parts_width es) w)
        (parts_well_formed signals es) h in
        let fits = from_le (count * parts_width es) w
        (second_of (is_one_to 64 count) (nat_le (count * parts_width es) w) front) in
        let made = joined_word signals words es old in
        let p = parts_make es formed named old small base in
        let v = λ (values : ℕ → Bool). joined signals (spelled values) es in
        resized old (made.0, repeated_word count made.1) (count * parts_width es) w
        (λ values. repeated count (parts_width es) (v values)) base fits
        (word_from old made (parts_width es) v (repeated_word count made.1) (count * parts_width es)
        (λ values. repeated count (parts_width es) (v values)) base p
        (λ m one has. record {
          is = repeated_is m count made.1 has.is;
          width = repeated_length count made.1 ∙ ap (λ k. count * k) has.width;
        })
        (λ values e said. repeated_value values count made.1
        ∙ ap₂ (repeated count) p.within.width said))
    node_makes (held s e) w signed some h named old small base =
        let sw = signal_width signals s in
        let front = first_of (is_signal signals s && nat_le sw w) (well_formed signals e) h in
        let formed = second_of (is_signal signals s && nat_le sw w) (well_formed signals e) h in
        let made = expression_word signals words e old in
        let p = expression_makes e formed named old small base in
        let v = λ (values : ℕ → Bool). value signals (spelled values) e in
        let done = extended_step old (made.0, cut_word signals s made.1) sw w signed
        (λ values. v values % 2 ^ sw) base (positive s (first_of (is_signal signals s) (nat_le sw w) front))
        (from_le sw w (second_of (is_signal signals s) (nat_le sw w) front))
        (cut_to old made (expression_width e) sw v base p) in
        record {
          extends = done.extends;
          within = done.within;
          says = λ values met. done.says values met ∙ ap (extended signed sw w)
              (cut_same s e (spelled values));
        }
    node_makes (held_bit s place e i) w signed some h named old small base =
        let sw = signal_width signals s in
        let front = first_of (is_signal signals s && well_formed signals e) (well_formed signals i) h in
        let formed_i = second_of (is_signal signals s && well_formed signals e)
        (well_formed signals i) h in
        let formed = second_of (is_signal signals s) (well_formed signals e) front in
        let made = expression_word signals words e old in
        let p = expression_makes e formed named.0 old small base in
        let v = λ (values : ℕ → Bool). value signals (spelled values) e in
        let cut = cut_word signals s made.1 in
        let q = cut_to old made (expression_width e) sw v base p in
        let base1 = base_more old made.0 base p.extends in
        let small1 : n ≤ (made.0).variables = omega (arith, small, p.extends.begins.grows) in
        let index = expression_makes i formed_i named.1 made.0 small1 base1 in
        let bit = indexed_bit signals cut i (expression_word signals words i) made.0 in
        let picked = index_step made.0 cut sw (λ values. v values % 2 ^ sw) i base1 formed_i
        q.within index in
        let both = makes_then old (made.0, cut) bit (HasWidth sw) IsLiteral
        (Spells (λ values. v values % 2 ^ sw))
        (λ values l. truth (literal_true values l) ≡ bit_or_zero sw (word_value values cut)
        (number_of signals (spelled values) i)) q picked in
        truth_word old bit w
        (λ values. node_value signals (spelled values) w signed (held_bit s place e i)) base some
        (record {
          extends = both.extends;
          within = both.within;
          says = λ values met.
              let said = both.says values met in
              said.1
              ∙ ap (λ x. bit_or_zero sw x (number_of signals (spelled values) i))
              (said.0 ∙ cut_same s e (spelled values));
        })
    node_makes (held_part s place e high low) w signed some h named old small base =
        let sw = signal_width signals s in
        let front = first_of (is_signal signals s && is_part_of sw w high low)
        (well_formed signals e) h in
        let formed = second_of (is_signal signals s && is_part_of sw w high low)
        (well_formed signals e) h in
        let part = part_of sw w high low
        (second_of (is_signal signals s) (is_part_of sw w high low) front) in
        let made = expression_word signals words e old in
        let p = expression_makes e formed named old small base in
        let v = λ (values : ℕ → Bool). value signals (spelled values) e in
        let done = part_step old (made.0, cut_word signals s made.1) sw w high low
        (λ values. v values % 2 ^ sw) base part.fits
        (cut_to old made (expression_width e) sw v base p) in
        record {
          extends = done.extends;
          within = done.within;
          says = λ values met. done.says values met ∙ ap (bits_between high low)
              (cut_same s e (spelled values));
        }
    node_makes (mend s e high low piece) w signed some h named old small base =
        let sw = signal_width signals s in
        let signal = is_signal signals s in
        let wide = nat_le sw w in
        let inside = is_part_of sw (expression_width piece) high low in
        let h1 = first_of (signal && wide && inside && well_formed signals e)
        (well_formed signals piece) h in
        let formed_piece = second_of (signal && wide && inside && well_formed signals e)
        (well_formed signals piece) h in
        let h2 = first_of (signal && wide && inside) (well_formed signals e) h1 in
        let formed = second_of (signal && wide && inside) (well_formed signals e) h1 in
        let h3 = first_of (signal && wide) inside h2 in
        let part = part_of sw (expression_width piece) high low (second_of (signal && wide) inside h2) in
        let made = expression_word signals words e old in
        let p = expression_makes e formed named.0 old small base in
        let v = λ (values : ℕ → Bool). value signals (spelled values) e in
        let x = λ (values : ℕ → Bool). value signals (spelled values) piece in
        let cut = cut_word signals s made.1 in
        let q = cut_to old made (expression_width e) sw v base p in
        let base1 = base_more old made.0 base p.extends in
        let small1 : n ≤ (made.0).variables = omega (arith, small, p.extends.begins.grows) in
        let bits = expression_word signals words piece made.0 in
        let r = expression_makes piece formed_piece named.1 made.0 small1 base1 in
        let base2 = base_more made.0 bits.0 base1 r.extends in
        let both = makes_then old (made.0, cut) bits (HasWidth sw) (HasWidth (expression_width piece))
        (Spells (λ values. v values % 2 ^ sw)) (Spells x) q r in
        let new = replaced_word high low cut bits.1 in
        let cut_there = width_more (made.0).variables (bits.0).variables sw cut
        r.extends.begins.grows q.within in
        let replaced : MakesWord old (bits.0, new) sw
        (λ values. replaced_bits sw high low (v values) (x values)) = record {
          extends = both.extends;
          within = record {
            is = replaced_is (bits.0).variables high low cut bits.1 base2.some cut_there.is
                r.within.is;
            width = replaced_length high low cut bits.1 part.order
                (subst (λ k. high < k) (sym cut_there.width) part.inside) ∙ cut_there.width;
          };
          says = λ values met.
              let said = both.says values met in
              replaced_value values (base2.truth values met) high low cut bits.1 part.order
              (subst (λ k. high < k) (sym cut_there.width) part.inside)
              ∙ ap (λ k. replaced_bits k high low (word_value values cut) (word_value values bits.1))
              cut_there.width
              ∙ ap₂ (replaced_bits sw high low) said.0 said.1
              ∙ replaced_same sw high low (v values) (x values) part;
        } in
        extended_step old (bits.0, new) sw w signed
        (λ values. replaced_bits sw high low (v values) (x values)) base
        (positive s (first_of signal wide h3)) (from_le sw w (second_of signal wide h3)) replaced
    node_makes (slice e high low) w signed some h named old small base =
        let part = part_of (expression_width e) w high low
        (first_of (is_part_of (expression_width e) w high low) (well_formed signals e) h) in
        let formed = second_of (is_part_of (expression_width e) w high low) (well_formed signals e) h in
        part_step old (expression_word signals words e old) (expression_width e) w high low
        (λ values. value signals (spelled values) e) base part.fits
        (expression_makes e formed named old small base)

    parts_make : (es : TypedTrees) → IsTrue (parts_well_formed signals es) → NamedParts Stands es →
        (old : Formula) → n ≤ old.variables → IsBase old →
        MakesWord old (joined_word signals words es old) (parts_width es)
        (λ values. joined signals (spelled values) es)
    parts_make no_parts h named old small base =
        there old [] 0 (λ values. 0) base (record { is = tt; width = refl }) (λ values e. refl)
    parts_make (more_parts e es) h named old small base =
        let formed = first_of (well_formed signals e) (parts_well_formed signals es) h in
        let rest_formed = second_of (well_formed signals e) (parts_well_formed signals es) h in
        let first = expression_word signals words e old in
        let p = expression_makes e formed named.0 old small base in
        let base1 = base_more old first.0 base p.extends in
        let small1 : n ≤ (first.0).variables = omega (arith, small, p.extends.begins.grows) in
        let rest = joined_word signals words es first.0 in
        let q = parts_make es rest_formed named.1 first.0 small1 base1 in
        let x = λ (values : ℕ → Bool). value signals (spelled values) e in
        let y = λ (values : ℕ → Bool). joined signals (spelled values) es in
        let both = makes_then old first rest (HasWidth (expression_width e))
        (HasWidth (parts_width es)) (Spells x) (Spells y) p q in
        let there = width_more (first.0).variables (rest.0).variables (expression_width e) first.1
        q.extends.begins.grows p.within in
        record {
          extends = both.extends;
          within = record {
            is = joined_is (rest.0).variables rest.1 first.1 q.within.is there.is;
            width = joined_length rest.1 first.1 ∙ ap₂ ◌+◌ q.within.width there.width ∙ omega arith;
          };
          says = λ values met.
              let said = both.says values met in
              both_value values rest.1 first.1
              ∙ ap₂ (λ k v. word_value values rest.1 + 2 ^ k * v) q.within.width said.0
              ∙ ap (λ r. r + 2 ^ parts_width es * x values) said.1
              ∙ omega arith;
        }

  -- an expression is not 0
  pub truth_makes : (e : TypedTree) → IsTrue (well_formed signals e) → Named Stands e →
      (old : Formula) → n ≤ old.variables → IsBase old →
      MakesBit old (is_true_bit signals words e old)
      (λ values. is_true (value signals (spelled values) e))
  truth_makes e h named old small base =
      not_zero_step old (expression_word signals words e old) (expression_width e)
      (λ values. value signals (spelled values) e) base (expression_makes e h named old small base)
