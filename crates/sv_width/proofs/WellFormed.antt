-- The typed form of an expression that breaks no rule is well formed.
use Rattle.std.proofs.Common.{◌≡◌, ℕ, ◌+◌, ◌-◌, ◌*◌, ◌^◌, ◌<◌, ◌≤◌, max, Bool, true}
use Rattle.std.proofs.Common.{false, List, refl, ap, subst, ◌∙◌, arith}
use Rattle.std.specs.Prelude.{not, ◌&&◌, ◌==◌, nat_le, nat_lt, if◌then◌else◌, Option, Some}
use Rattle.std.specs.Prelude.{None, IsTrue, ℤ, pos, negsuc}
use Rattle.std.specs.Bool.{beq}
use Rattle.std.proofs.lemmas.Bool.{and_parts, and_from, or_left, or_right}
use Rattle.std.proofs.lemmas.Bool.{lt-ltb, le-leb, eq-eqb}
use Rattle.std.proofs.lemmas.Nat.{pow_pos, mod_below}
use Rattle.sv_num.specs.declared.operators.BinOp.{BinOp}
use Rattle.sv_num.specs.declared.operators.BinOp.TheVariants.{Mul, Div, Rem, Add, Sub, Shl, Shr}
use Rattle.sv_num.specs.declared.operators.BinOp.TheVariants.{SignShl, SignShr, Lt, Le, Gt, Ge, Eq}
use Rattle.sv_num.specs.declared.operators.BinOp.TheVariants.{Ne, And, Xor, Xnor, Or, LogicAnd}
use Rattle.sv_num.specs.declared.operators.BinOp.TheVariants.{LogicOr}
use Rattle.sv_num.specs.declared.operators.OpClass.{OpClass}
use Rattle.sv_num.specs.declared.operators.OpClass.TheVariants.{Context, Compare, Logical, Shift}
use Rattle.sv_num.specs.declared.operators.UnOp.{UnOp}
use Rattle.sv_num.specs.declared.faults.Place.{Place}
use Rattle.sv_num.specs.Vectors.{as_number, reduced}
use Rattle.sv_num.specs.UnaryValues.{gives_one_bit}
use Rattle.sv_num.specs.BinaryValues.{class_of, binary_value, is_division}
use Rattle.sv_ast.specs.Scopes.{Binding, parameter, signal, width_of}
use Rattle.sv_ast.specs.Tree.{ExpressionTree, ExpressionTrees, literal, named, bit_of, part_of}
use Rattle.sv_ast.specs.Tree.{unary, binary, choice, join, replication, no_expressions}
use Rattle.sv_ast.specs.Tree.{more_expressions}
use Rattle.sv_ast.specs.Shape.{is_shaped_expression, are_shaped_parts, has_part}
use Rattle.sv_ast.specs.Values.{natural, nowhere, binary_length, length_of, joined_length}
use Rattle.sv_ast.specs.Values.{signed_of}
use Rattle.sv_ast.specs.Values.{value, joined_value, whole_number, operand}
use Rattle.sv_ast.specs.Instances.{is_signal as names_a_signal}
use Rattle.sv_flat.specs.Design.{SignalForm}
use Rattle.sv_flat.specs.Values.{signal_width, expression_width, expression_signed, parts_width}
use Rattle.sv_flat.specs.Soundness.{is_one_to, is_signal, has_type}
use Rattle.sv_flat.specs.Soundness.{binary_typed, well_formed}
use Rattle.sv_flat.specs.Soundness.{node_well_formed, parts_well_formed}
use Rattle.sv_elab_rules.specs.Names.{Names, is_bound}
use Rattle.sv_elab_rules.specs.TypedExpressions.{names_signal, left_length, left_signed}
use Rattle.sv_elab_rules.specs.TypedExpressions.{right_length, right_signed, named_node, typed_of}
use Rattle.sv_elab_rules.specs.TypedExpressions.{typed_parts}
use Rattle.sv_width.specs.Agreement.{AllDeclared, HaveSignals, HaveLengths, IsLength}
use Rattle.sv_width.specs.Agreement.{NumbersHaveLengths, PartsHaveLengths}
use Rattle.sv_width.proofs.Sound.{Sound, SoundParts}
use Rattle.sv_width.proofs.SameValue.{type_of_typed, typed_reduction, typed_unary, typed_division}
use Rattle.sv_width.proofs.SameValue.{typed_binary, parts_width_of, result_at, reached, meant}
use Rattle.sv_width.proofs.SameValue.{either, left_standing, right_standing}
use Rattle.sv_width.proofs.Lengths.{KnownIn, three_parts, own_length, part_inside, count_inside}

pub reduced_low : (n : ℕ) (z : ℤ) → reduced n z < 2 ^ n
reduced_low n (pos a) = mod_below a (2 ^ n) (pow_pos n)
reduced_low n (negsuc a) = omega (arith, pow_pos n)

-- the left operand of a division stands at the pushed length
divided : (op : BinOp) → is_division op ≡ true
    → (n : ℕ) (s : Bool) (la lb : ℕ) (sa sb : Bool) (x y : ℕ)
    → binary_value op (left_length (class_of op) n la lb) (left_signed (class_of op) s sa sb) x
    y < 2 ^ n
divided Div h n s la lb sa sb x y = reduced_low n _
divided Rem h n s la lb sa sb x y = reduced_low n _
divided Mul h n s la lb sa sb x y = absurd (cc h)
divided Add h n s la lb sa sb x y = absurd (cc h)
divided Sub h n s la lb sa sb x y = absurd (cc h)
divided Shl h n s la lb sa sb x y = absurd (cc h)
divided Shr h n s la lb sa sb x y = absurd (cc h)
divided SignShl h n s la lb sa sb x y = absurd (cc h)
divided SignShr h n s la lb sa sb x y = absurd (cc h)
divided Lt h n s la lb sa sb x y = absurd (cc h)
divided Le h n s la lb sa sb x y = absurd (cc h)
divided Gt h n s la lb sa sb x y = absurd (cc h)
divided Ge h n s la lb sa sb x y = absurd (cc h)
divided Eq h n s la lb sa sb x y = absurd (cc h)
divided Ne h n s la lb sa sb x y = absurd (cc h)
divided And h n s la lb sa sb x y = absurd (cc h)
divided Xor h n s la lb sa sb x y = absurd (cc h)
divided Xnor h n s la lb sa sb x y = absurd (cc h)
divided Or h n s la lb sa sb x y = absurd (cc h)
divided LogicAnd h n s la lb sa sb x y = absurd (cc h)
divided LogicOr h n s la lb sa sb x y = absurd (cc h)

quotient_low : (names : Names) (op : BinOp) (p : Place) (a b : ExpressionTree) (n : ℕ) (s : Bool)
    → is_division op ≡ true
    → value names.scope nowhere (binary op p a b) n s < 2 ^ n
unfolding value joined_value
quotient_low names op p a b n s is =
    subst (λ x. x < 2 ^ n)
    (result_at op n s (operand (length_of names.scope a) (signed_of names.scope a)
    (value names.scope nowhere a))
    (operand (length_of names.scope b) (signed_of names.scope b) (value names.scope nowhere b)))
    (divided op is n s _ _ _ _ _ _)

own_signed : (s : Bool) → beq s s ≡ true
own_signed true = refl
own_signed false = refl

-- a typed form has the pushed type
pub pushed_type : (names : Names) (e : ExpressionTree) (n : ℕ) (s : Bool) →
    has_type n s (typed_of names e n s) ≡ true
pushed_type names e n s =
    let is = type_of_typed names e n s in
    and_from (expression_width (typed_of names e n s) == n)
    (beq (expression_signed (typed_of names e n s)) s)
    (eq-eqb (expression_width (typed_of names e n s)) n is.0)
    (ap (λ t. beq t s) is.1 ∙ own_signed s)

pub is_length_test : (n : ℕ) → IsLength n → is_one_to 64 n ≡ true
is_length_test n h = and_from (nat_le 1 n) (nat_le n 64) (le-leb 1 n h.0) (le-leb n 64 h.1)

-- the lengths at which operands stand are at least their own, and lengths
pub operand_lengths : (c : OpClass) (n a b : ℕ) → IsLength a → IsLength b → IsLength n
    → binary_length c a b ≤ n
    → IsLength (left_length c n a b) × (a ≤ left_length c n a b) × IsLength (right_length c n a b)
    × (b ≤ right_length c n a b)
operand_lengths Context n a b p q r h = (r, omega arith, r, omega arith)
operand_lengths Compare n a b p q r h =
    ((omega arith, omega arith), omega arith, (omega arith, omega arith), omega arith)
operand_lengths Logical n a b p q r h = (p, omega arith, q, omega arith)
operand_lengths Shift n a b p q r h = (r, h, q, omega arith)

-- so sound operands stand
pub both_stand : (names : Names) → HaveLengths names.scope → (c : Bool) → KnownIn names c
    → (op : BinOp) (a b : ExpressionTree) → Sound names c a × Sound names c b
    → IsTrue (is_shaped_expression a) × IsTrue (is_shaped_expression b)
    → NumbersHaveLengths a × NumbersHaveLengths b
    → (n : ℕ) (s : Bool)
    → binary_length (class_of op) (length_of names.scope a) (length_of names.scope b) ≤ n
    → IsLength n
    → IsLength (left_standing names op a b n s).length
    × (length_of names.scope a ≤ (left_standing names op a b n s).length)
    × IsLength (right_standing names op a b n s).length
    × (length_of names.scope b ≤ (right_standing names op a b n s).length)
both_stand names lengths c known op a b q shapes numbers n s fits is =
    operand_lengths (class_of op) n (length_of names.scope a) (length_of names.scope b)
    (own_length names lengths c known a q.0 shapes.0 numbers.0)
    (own_length names lengths c known b q.1 shapes.1 numbers.1) is fits

-- the operands have the types that the operator gives them
operands_typed : (names : Names) (c : OpClass) (n : ℕ) (s : Bool) (a b : ExpressionTree) (la lb : ℕ)
    (sa sb : Bool)
    → binary_typed c n s (typed_of names a (left_length c n la lb) (left_signed c s sa sb))
    (typed_of names b (right_length c n la lb) (right_signed c s sa sb)) ≡ true
operands_typed names Context n s a b la lb sa sb =
    and_from _ _ (pushed_type names a n s) (pushed_type names b n s)
operands_typed names Compare n s a b la lb sa sb =
    let m : ℕ = max la lb in
    let t : Bool = sa && sb in
    let is = type_of_typed names a m t in
    ap (λ x. has_type x (expression_signed (typed_of names a m t)) (typed_of names b m t)) is.0
    ∙ ap (λ x. has_type m x (typed_of names b m t)) is.1
    ∙ pushed_type names b m t
operands_typed names Logical n s a b la lb sa sb = refl
operands_typed names Shift n s a b la lb sa sb = pushed_type names a n s

-- an operator that keeps its operand's type has its length
pub kept_length : (op : UnOp) (m n : ℕ) → gives_one_bit op ≡ false →
    (if gives_one_bit op then 1 else m) ≤ n → m ≤ n
kept_length op m n is fits = subst (λ (b : Bool). (if b then 1 else m) ≤ n) is fits

all_of_three : (a b c : Bool) → a ≡ true → b ≡ true → c ≡ true → (a && b && c) ≡ true
all_of_three a b c p q r = and_from (a && b) c (and_from a b p q) r

all_of_four : (a b c d : Bool) → a ≡ true → b ≡ true → c ≡ true → d ≡ true →
    (a && b && c && d) ≡ true
all_of_four a b c d p q r s = and_from (a && b && c) d (all_of_three a b c p q r) s

all_of_five : (a b c d e : Bool) → a ≡ true → b ≡ true → c ≡ true → d ≡ true → e ≡ true →
    (a && b && c && d && e) ≡ true
all_of_five a b c d e p q r s t = and_from (a && b && c && d) e (all_of_four a b c d p q r s) t

module _ (names : Names) (declared : AllDeclared names) (lengths : HaveLengths names.scope)
    (signals : List SignalForm) (has_signals : HaveSignals names signals) where
  signal_there : (m : List ℕ) (b : Option Binding) → names.scope m ≡ b → names_a_signal b ≡ true
      → (is_signal signals (names.number m) ≡ true)
      × (signal_width signals (names.number m) ≡ width_of b)
  signal_there m (Some (parameter v)) is h = absurd (cc h)
  signal_there m (Some (signal w t)) is h = has_signals m w t is
  signal_there m None is h = absurd (cc h)

  named_formed : (m : List ℕ) (p : Place) (n : ℕ) (s : Bool) (b : Option Binding)
      → names.scope m ≡ b → IsTrue (is_bound b) → width_of b ≤ n
      → node_well_formed signals n s (named_node b (names.number m) p n s) ≡ true
  named_formed m p n s (Some (parameter v)) is bound fits =
      lt-ltb _ (2 ^ n) (reduced_low n (as_number v.width s v.value))
  named_formed m p n s (Some (signal w t)) is bound fits =
      let there = has_signals m w t is in
      and_from (is_signal signals (names.number m))
      (nat_le (signal_width signals (names.number m)) n) there.0
      (ap (λ x. nat_le x n) there.1 ∙ le-leb w n fits)
  named_formed m p n s None is bound fits = absurd (cc bound)

  unary_formed : (op : UnOp) (p : Place) (e : ExpressionTree) (n : ℕ) (s : Bool)
      → (gives_one_bit op ≡ true
      → well_formed signals
      (typed_of names e (length_of names.scope e) (signed_of names.scope e)) ≡ true)
      → (gives_one_bit op ≡ false → well_formed signals (typed_of names e n s) ≡ true)
      → is_one_to 64 n ≡ true → well_formed signals (typed_of names (unary op p e) n s) ≡ true
  unary_formed op p e n s alone pushed one = either (gives_one_bit op)
      (λ h. ap (λ t. well_formed signals t) (typed_reduction names p n s op e h)
      ∙ and_from (is_one_to 64 n) _ one (and_from _ _ (or_left (gives_one_bit op) _ h) (alone h)))
      (λ h. ap (λ t. well_formed signals t) (typed_unary names p n s op e h)
      ∙ and_from (is_one_to 64 n) _ one
      (and_from _ _ (or_right (gives_one_bit op) _ (pushed_type names e n s)) (pushed h)))

  binary_formed : (op : BinOp) (p : Place) (a b : ExpressionTree) (n : ℕ) (s : Bool)
      → well_formed signals (typed_of names a
      (left_length (class_of op) n (length_of names.scope a) (length_of names.scope b))
      (left_signed (class_of op) s (signed_of names.scope a) (signed_of names.scope b))) ≡ true
      → well_formed signals (typed_of names b
      (right_length (class_of op) n (length_of names.scope a) (length_of names.scope b))
      (right_signed (class_of op) s (signed_of names.scope a) (signed_of names.scope b))) ≡ true
      → is_one_to 64 n ≡ true → well_formed signals (typed_of names (binary op p a b) n s) ≡ true
  binary_formed op p a b n s left right one = either (is_division op)
      (λ h. ap (λ t. well_formed signals t) (typed_division names p n s op a b h)
      ∙ and_from (is_one_to 64 n) _ one (lt-ltb _ (2 ^ n) (quotient_low names op p a b n s h)))
      (λ h. ap (λ t. well_formed signals t) (typed_binary names p n s op a b h)
      ∙ and_from (is_one_to 64 n) _ one
      (all_of_four (not (is_division op)) _ _ _
      (ap not h)
      (operands_typed names (class_of op) n s a b (length_of names.scope a)
      (length_of names.scope b) (signed_of names.scope a) (signed_of names.scope b))
      left right))

  -- at its own length and signedness
  alone : (c : Bool) (e : ExpressionTree) → Sound names c e → IsTrue (is_shaped_expression e)
      → NumbersHaveLengths e
      → ((n : ℕ) (s : Bool) → length_of names.scope e ≤ n → IsLength n
      → well_formed signals (typed_of names e n s) ≡ true)
      → well_formed signals (typed_of names e (length_of names.scope e) (signed_of names.scope e)) ≡
      true
  alone c e q shape numbers formed =
      formed (length_of names.scope e) (signed_of names.scope e) (omega arith)
      (own_length names lengths c (λ _. declared) e q shape numbers)

  mutual
    unfolding typed_of typed_parts length_of joined_length Sound SoundParts

    pub typed_formed : (c : Bool) (e : ExpressionTree) → Sound names c e
        → IsTrue (is_shaped_expression e) → NumbersHaveLengths e
        → (n : ℕ) (s : Bool) → length_of names.scope e ≤ n → IsLength n
        → well_formed signals (typed_of names e n s) ≡ true
    typed_formed c (literal l p) q shape numbers n s fits is =
        and_from (is_one_to 64 n) _ (is_length_test n is)
        (lt-ltb _ (2 ^ n) (reduced_low n (as_number l.width s l.value)))
    typed_formed c (named m p) q shape numbers n s fits is =
        and_from (is_one_to 64 n) _ (is_length_test n is)
        (named_formed m p n s (names.scope m) refl (reached names m (declared m) q.0) fits)
    typed_formed c (bit_of m p i) q shape numbers n s fits is =
        let there = signal_there m (names.scope m) refl (meant names m (declared m) q.0) in
        and_from (is_one_to 64 n) _ (is_length_test n is)
        (and_from (is_signal signals (names.number m)) _ there.0
        (either (names_signal names.scope i) (λ h.
        alone false i (q.2 h) shape numbers (typed_formed false i (q.2 h) shape numbers))
        (λ h. alone true i (q.3 h).0 shape numbers (typed_formed true i (q.3 h).0 shape numbers))))
    typed_formed c (part_of m p h l) q shape numbers n s fits is =
        let there = signal_there m (names.scope m) refl (meant names m (declared m) q.0) in
        let inside = part_inside (width_of (names.scope m)) (whole_number names.scope h)
        (whole_number names.scope l) q.6 in
        let high : ℕ = natural (whole_number names.scope h) in
        let low : ℕ = natural (whole_number names.scope l) in
        and_from (is_one_to 64 n) _ (is_length_test n is)
        (and_from (is_signal signals (names.number m)) _ there.0
        (all_of_three (nat_le low high) (nat_lt high (signal_width signals (names.number m)))
        (nat_le (high + 1 - low) n)
        (le-leb low high inside.1)
        (ap (λ x. nat_lt high x) there.1 ∙ lt-ltb high (width_of (names.scope m)) inside.0)
        (le-leb (high + 1 - low) n fits)))
    typed_formed c (unary op p e) q shape numbers n s fits is =
        unary_formed op p e n s
        (λ one. alone c e q shape numbers (typed_formed c e q shape numbers))
        (λ other. typed_formed c e q shape numbers n s
        (kept_length op (length_of names.scope e) n other fits) is)
        (is_length_test n is)
    typed_formed c (binary op p a b) q shape numbers n s fits is =
        let shapes = and_parts (is_shaped_expression a) (is_shaped_expression b) shape in
        let stand = operand_lengths (class_of op) n (length_of names.scope a)
        (length_of names.scope b)
        (own_length names lengths c (λ _. declared) a q.0 shapes.0 numbers.0)
        (own_length names lengths c (λ _. declared) b q.1 shapes.1 numbers.1) is fits in
        binary_formed op p a b n s
        (typed_formed c a q.0 shapes.0 numbers.0 _ _ stand.1 stand.0)
        (typed_formed c b q.1 shapes.1 numbers.1 _ _ stand.3 stand.2)
        (is_length_test n is)
    typed_formed c (choice p d a b) q shape numbers n s fits is =
        let shapes = three_parts (is_shaped_expression d) (is_shaped_expression a)
        (is_shaped_expression b) shape in
        let left : length_of names.scope a ≤ n = omega arith in
        let right : length_of names.scope b ≤ n = omega arith in
        and_from (is_one_to 64 n) _ (is_length_test n is)
        (all_of_five _ _ _ _ _ (pushed_type names a n s) (pushed_type names b n s)
        (alone c d q.0 shapes.0 numbers.0 (typed_formed c d q.0 shapes.0 numbers.0))
        (typed_formed c a q.1 shapes.1 numbers.1 n s left is)
        (typed_formed c b q.2 shapes.2 numbers.2 n s right is))
    typed_formed c (join p es) q shape numbers n s fits is =
        let shapes = and_parts (has_part es) (are_shaped_parts es) shape in
        and_from (is_one_to 64 n) _ (is_length_test n is)
        (and_from (nat_le (parts_width (typed_parts names es)) n) _
        (ap (λ x. nat_le x n) (parts_width_of names es)
        ∙ le-leb (joined_length names.scope es) n fits)
        (parts_formed c es q.0 shapes.1 numbers))
    typed_formed c (replication p k es) q shape numbers n s fits is =
        let outer = and_parts (is_shaped_expression k && has_part es) (are_shaped_parts es) shape in
        let count = count_inside (whole_number names.scope k) q.5 in
        let times : ℕ = natural (whole_number names.scope k) in
        and_from (is_one_to 64 n) _ (is_length_test n is)
        (all_of_three (is_one_to 64 times) (nat_le (times * parts_width (typed_parts names es)) n) _
        (is_length_test times count)
        (ap (λ x. nat_le (times * x) n) (parts_width_of names es)
        ∙ le-leb (times * joined_length names.scope es) n fits)
        (parts_formed c es q.2 outer.1 numbers.1))

    pub parts_formed : (c : Bool) (es : ExpressionTrees) → SoundParts names c es
        → IsTrue (are_shaped_parts es) → PartsHaveLengths es
        → parts_well_formed signals (typed_parts names es) ≡ true
    parts_formed c no_expressions q shape numbers = refl
    parts_formed c (more_expressions e es) q shape numbers =
        let shapes = and_parts (is_shaped_expression e) (are_shaped_parts es) shape in
        and_from _ _ (alone c e q.0 shapes.0 numbers.0 (typed_formed c e q.0 shapes.0 numbers.0))
        (parts_formed c es q.1 shapes.1 numbers.1)
