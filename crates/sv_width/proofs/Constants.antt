-- The values of constants in a measured expression are those of its source.
use Rattle.std.proofs.Common.{◌≡◌, ℕ, zero, suc, ◌+◌, ◌-◌, ◌*◌, ◌/◌, ◌%◌, ◌^◌, ◌<◌, ◌≤◌, Bool}
use Rattle.std.proofs.Common.{true, false, List, refl, sym, ap, ap₂, subst, ◌∙◌, arith}
use Rattle.std.specs.Prelude.{◌&&◌, nat_lt, if◌then◌else◌, Option, Some}
use Rattle.std.specs.Prelude.{None, IsTrue, ℤ, pos, negsuc, ◌-ℤ◌}
use Rattle.std.proofs.lemmas.Bool.{and_parts, lt-leb}
use Rattle.std.proofs.lemmas.Nat.{pow_pos, mod_below, pow-add}
use Rattle.std.proofs.Math.Pow.{pow_mono}
use Rattle.std.proofs.Math.Nat.{mod-eq_of_lt, add-mul-mod_self_right, div-add-mod', div-eq_of_lt}
use Rattle.sv_num.specs.declared.faults.Place.{Place}
use Rattle.sv_num.specs.Vectors.{as_number, reduced, is_negative, is_true}
use Rattle.sv_num.specs.UnaryValues.{gives_one_bit, unary_value}
use Rattle.sv_num.specs.BinaryValues.{class_of, binary_value}
use Rattle.sv_num.proofs.BitsLemmas.{joined_low}
use Rattle.sv_ast.specs.Scopes.{Binding, parameter, signal, width_of, value_of}
use Rattle.sv_ast.specs.Tree.{ExpressionTree, ExpressionTrees, literal, named, bit_of, part_of}
use Rattle.sv_ast.specs.Tree.{unary, binary, choice, join, replication, no_expressions}
use Rattle.sv_ast.specs.Tree.{more_expressions}
use Rattle.sv_ast.specs.Shape.{is_shaped_expression, are_shaped_parts, has_part}
use Rattle.sv_ast.specs.Values.{natural, nowhere, operand, length_of, joined_length}
use Rattle.sv_ast.specs.Values.{signed_of, value, joined_value, whole_number}
use Rattle.sv_num.specs.Parts.{extended, bit_or_zero, repeated}
use Rattle.sv_elab_rules.specs.Names.{Names}
use Rattle.sv_elab_rules.specs.TypedExpressions.{left_length, left_signed, right_length, right_signed}
use Rattle.sv_width.specs.Agreement.{HaveLengths, IsLength, NumbersHaveLengths}
use Rattle.sv_width.specs.Agreement.{PartsHaveLengths}
use Rattle.sv_width.specs.Measured.{OwnForm, MeasuredTree, own_form, own_of}
use Rattle.sv_width.specs.Measured.{measured_name, measured_of, measured_parts}
use Rattle.sv_width.specs.Pushed.{behind, behind_times, joined_width, folded_of, joined_from}
use Rattle.sv_width.proofs.Sound.{Sound, SoundParts}
use Rattle.sv_width.proofs.SameValue.{result_at, either, left_standing, right_standing}
use Rattle.sv_width.proofs.Lengths.{KnownIn, three_parts, own_length, count_inside}
use Rattle.sv_width.proofs.WellFormed.{reduced_low, operand_lengths, both_stand, kept_length}
use Rattle.sv_width.proofs.Low.{one_low, bit_low, unary_low, binary_low, odd_low}

-- ---- values of constants are low

pub bit_or_zero_low : (w v : ℕ) (i : ℤ) → bit_or_zero w v i < 2
bit_or_zero_low w v (pos k) = by (nat_lt k w)
  where
    by : (b : Bool) → (if b then v / 2 ^ k % 2 else 0) < 2
    by true = odd_low (v / 2 ^ k)
    by false = omega arith
bit_or_zero_low w v (negsuc k) = omega arith

pub chosen_low : (b : Bool) (x y m : ℕ) → x < m → y < m → (if b then x else y) < m
chosen_low true x y m p q = p
chosen_low false x y m p q = q

pub repeated_low : (k w v : ℕ) → v < 2 ^ w → repeated k w v < 2 ^ (k * w)
repeated_low zero w v low = pow_pos (0 * w)
repeated_low (suc k) w v low =
    subst (λ m. repeated k w v * 2 ^ w + v < 2 ^ m) (omega arith)
    (joined_low (repeated k w v) v (k * w) w (repeated_low k w v low) low)

module _ (names : Names) (lengths : HaveLengths names.scope) where
  mutual
    unfolding length_of joined_length value joined_value Sound SoundParts

    pub value_low : (c : Bool) → KnownIn names c → (e : ExpressionTree) → Sound names c e
        → IsTrue (is_shaped_expression e) → NumbersHaveLengths e
        → (n : ℕ) (s : Bool) → length_of names.scope e ≤ n → IsLength n
        → value names.scope nowhere e n s < 2 ^ n
    value_low c known (literal l p) q shape numbers n s fits is = reduced_low n _
    value_low c known (named m p) q shape numbers n s fits is = reduced_low n _
    value_low c known (bit_of m p i) q shape numbers n s fits is =
        one_low n _ is.0 (bit_or_zero_low (width_of (names.scope m)) 0 (whole_number names.scope i))
    value_low c known (part_of m p h l) q shape numbers n s fits is =
        let more : 2 ^ length_of names.scope (part_of m p h l) ≤ 2 ^ n = pow_mono fits in
        omega (
          arith,
          more,
          mod_below (0 / 2 ^ natural (whole_number names.scope l))
              (2 ^ length_of names.scope (part_of m p h l)) (pow_pos _),
        )
    value_low c known (unary op p e) q shape numbers n s fits is =
        let own = own_length names lengths c known e q shape numbers in
        let L : ℕ = length_of names.scope e in
        let S : Bool = signed_of names.scope e in
        either (gives_one_bit op)
        (λ h. subst (λ (b : Bool).
        (if b then unary_value op L S (value names.scope nowhere e L S)
        else unary_value op n s (value names.scope nowhere e n s)) < 2 ^ n)
        (sym h) (bit_low op h n L S _ is.0))
        (λ h. subst (λ (b : Bool).
        (if b then unary_value op L S (value names.scope nowhere e L S)
        else unary_value op n s (value names.scope nowhere e n s)) < 2 ^ n)
        (sym h) (unary_low op h n s _
        (value_low c known e q shape numbers n s (kept_length op L n h fits) is)))
    value_low c known (binary op p a b) q shape numbers n s fits is =
        let shapes = and_parts (is_shaped_expression a) (is_shaped_expression b) shape in
        let stand = operand_lengths (class_of op) n (length_of names.scope a)
        (length_of names.scope b)
        (own_length names lengths c known a q.0 shapes.0 numbers.0)
        (own_length names lengths c known b q.1 shapes.1 numbers.1) is fits in
        subst (λ x. x < 2 ^ n)
        (result_at op n s (operand (length_of names.scope a) (signed_of names.scope a)
        (value names.scope nowhere a))
        (operand (length_of names.scope b) (signed_of names.scope b) (value names.scope nowhere b)))
        (binary_low op n s (length_of names.scope a) (length_of names.scope b)
        (signed_of names.scope a) (signed_of names.scope b) _ _ is.0
        (value_low c known a q.0 shapes.0 numbers.0 _ _ stand.1 stand.0)
        (value_low c known b q.1 shapes.1 numbers.1 _ _ stand.3 stand.2))
    value_low c known (choice p d a b) q shape numbers n s fits is =
        let shapes = three_parts (is_shaped_expression d) (is_shaped_expression a)
        (is_shaped_expression b) shape in
        let left : length_of names.scope a ≤ n = omega arith in
        let right : length_of names.scope b ≤ n = omega arith in
        chosen_low (is_true (value names.scope nowhere d (length_of names.scope d)
        (signed_of names.scope d))) _ _ (2 ^ n)
        (value_low c known a q.1 shapes.1 numbers.1 n s left is)
        (value_low c known b q.2 shapes.2 numbers.2 n s right is)
    value_low c known (join p es) q shape numbers n s fits is =
        let shapes = and_parts (has_part es) (are_shaped_parts es) shape in
        let more : 2 ^ joined_length names.scope es ≤ 2 ^ n = pow_mono fits in
        let low = parts_low c known es q.0 shapes.1 numbers in
        omega (arith, more, low)
    value_low c known (replication p k es) q shape numbers n s fits is =
        let outer = and_parts (is_shaped_expression k && has_part es) (are_shaped_parts es) shape in
        let times : ℕ = natural (whole_number names.scope k) in
        let more : 2 ^ (times * joined_length names.scope es) ≤ 2 ^ n = pow_mono fits in
        let low = repeated_low times (joined_length names.scope es) _
        (parts_low c known es q.2 outer.1 numbers.1) in
        omega (arith, more, low)

    pub parts_low : (c : Bool) → KnownIn names c → (es : ExpressionTrees) → SoundParts names c es
        → IsTrue (are_shaped_parts es) → PartsHaveLengths es
        → joined_value names.scope nowhere es < 2 ^ joined_length names.scope es
    parts_low c known no_expressions q shape numbers = pow_pos 0
    parts_low c known (more_expressions e es) q shape numbers =
        let shapes = and_parts (is_shaped_expression e) (are_shaped_parts es) shape in
        let own = own_length names lengths c known e q.0 shapes.0 numbers.0 in
        joined_low (value names.scope nowhere e (length_of names.scope e) (signed_of names.scope e))
        (joined_value names.scope nowhere es)
        (length_of names.scope e) (joined_length names.scope es)
        (value_low c known e q.0 shapes.0 numbers.0 (length_of names.scope e)
        (signed_of names.scope e) (omega arith) own)
        (parts_low c known es q.1 shapes.1 numbers.1)

-- ---- what is measured of an expression

named_own : (names : Names) (own : OwnForm) (b : Option Binding) (k : ℕ) (p : Place) →
    own_form (measured_name own b k p) ≡ own
named_own names own (Some (parameter v)) k p = refl
named_own names own (Some (signal w t)) k p = refl
named_own names own None k p = refl

pub own_measured : (names : Names) (e : ExpressionTree) →
    own_form (measured_of names e) ≡ own_of names e
unfolding measured_of measured_parts
own_measured names (literal l p) = refl
own_measured names (named m p) =
    named_own names (own_of names (named m p)) (names.scope m) (names.number m) p
own_measured names (bit_of m p i) = refl
own_measured names (part_of m p h l) = refl
own_measured names (unary op p e) = refl
own_measured names (binary op p a b) = refl
own_measured names (choice p c a b) = refl
own_measured names (join p es) = refl
own_measured names (replication p k es) = refl

pub joined_measured : (names : Names) (es : ExpressionTrees) →
    joined_width (measured_parts names es) ≡ joined_length names.scope es
unfolding measured_of measured_parts length_of joined_length
joined_measured names no_expressions = refl
joined_measured names (more_expressions e es) =
    ap (λ (o : OwnForm). o.width + joined_width (measured_parts names es)) (own_measured names e)
    ∙ ap (λ x. length_of names.scope e + x) (joined_measured names es)

-- ---- 0 at every length

zero_extended : (w n : ℕ) (s : Bool) → reduced n (as_number w s 0) ≡ 0
zero_extended w n s =
    ap (λ (b : Bool). reduced n (if b then pos 0 -ℤ pos (2 ^ w) else pos 0)) (not_negative w s)
    ∙ mod-eq_of_lt (pow_pos n)
  where
    not_negative : (w : ℕ) (s : Bool) → is_negative w s 0 ≡ false
    not_negative w true = lt-leb (2 ^ (w - 1)) 0 (pow_pos (w - 1))
    not_negative w false = refl

zero_shifted : (k : ℕ) → 0 / 2 ^ k ≡ 0
zero_shifted k = div-eq_of_lt (pow_pos k)

zero_bit : (w : ℕ) (i : ℤ) → 0 ≡ bit_or_zero w 0 i
zero_bit w (pos k) = by (nat_lt k w)
  where
    by : (b : Bool) → 0 ≡ (if b then 0 / 2 ^ k % 2 else 0)
    by true = sym (ap (λ x. x % 2) (zero_shifted k))
    by false = refl
zero_bit w (negsuc k) = refl

zero_part : (l m : ℕ) → 0 ≡ 0 / 2 ^ l % 2 ^ m
zero_part l m = sym (ap (λ x. x % 2 ^ m) (zero_shifted l) ∙ mod-eq_of_lt (pow_pos m))

-- ---- joins

-- what is cut before it is multiplied
cut_first : (a b c m : ℕ) → (a % m * b + c) % m ≡ (a * b + c) % m
cut_first a b c m =
    let parts : a / m * m + a % m ≡ a = div-add-mod' a m in
    let whole : a * b + c ≡ (a % m * b + c) + (a / m * b) * m =
    omega (arith, ap (λ x. x * b) parts) in
    sym (ap (λ x. x % m) whole ∙ add-mul-mod_self_right (a % m * b + c) (a / m * b) m)

-- a value, a next one and the rest, put together in either way
grouped : (v x r w j : ℕ) → (v * 2 ^ w + x) * 2 ^ j + r ≡ v * 2 ^ (w + j) + (x * 2 ^ j + r)
grouped v x r w j =
    let power : 2 ^ (w + j) ≡ 2 ^ w * 2 ^ j = pow-add 2 w j in
    omega (arith, ap (λ y. v * y) power)

behind_times_same : (n k w v : ℕ) → behind_times n k w v ≡ repeated k w v % 2 ^ n
behind_times_same n zero w v = sym (mod-eq_of_lt (pow_pos n))
behind_times_same n (suc k) w v =
    ap (λ x. (x * 2 ^ w + v) % 2 ^ n) (behind_times_same n k w v)
    ∙ cut_first (repeated k w v) (2 ^ w) v (2 ^ n)

zero_sum : (x y : ℕ) → 0 * x + y ≡ y
zero_sum x y = omega arith

one_of_many : (k j : ℕ) → 1 ≤ k → j ≤ k * j
one_of_many zero j some = absurd (omega arith)
one_of_many (suc k) j some = grind arith

-- ---- values

named_folded : (names : Names) (m : List ℕ) (own : OwnForm) (b : Option Binding) (k : ℕ) (p : Place)
    (n : ℕ) (s : Bool)
    → folded_of (measured_name own b k p) n s ≡ extended s (width_of b) n (value_of b 0)
unfolding folded_of joined_from
named_folded names m own (Some (parameter v)) k p n s = refl
named_folded names m own (Some (signal w t)) k p n s = sym (zero_extended w n s)
named_folded names m own None k p n s = sym (zero_extended 0 n s)

module _ (names : Names) (lengths : HaveLengths names.scope) where
  mutual
    unfolding length_of joined_length value joined_value Sound SoundParts measured_of measured_parts
        folded_of joined_from

    pub folded_same : (c : Bool) → KnownIn names c → (e : ExpressionTree) → Sound names c e
        → IsTrue (is_shaped_expression e) → NumbersHaveLengths e
        → (n : ℕ) (s : Bool) → length_of names.scope e ≤ n → IsLength n
        → folded_of (measured_of names e) n s ≡ value names.scope nowhere e n s
    folded_same c known (literal l p) q shape numbers n s fits is = refl
    folded_same c known (named m p) q shape numbers n s fits is =
        named_folded names m (own_of names (named m p)) (names.scope m) (names.number m) p n s
    folded_same c known (bit_of m p i) q shape numbers n s fits is =
        zero_bit (width_of (names.scope m)) (whole_number names.scope i)
    folded_same c known (part_of m p h l) q shape numbers n s fits is =
        zero_part (natural (whole_number names.scope l)) (length_of names.scope (part_of m p h l))
    folded_same c known (unary op p e) q shape numbers n s fits is =
        let own = own_length names lengths c known e q shape numbers in
        let L : ℕ = length_of names.scope e in
        let S : Bool = signed_of names.scope e in
        let M : MeasuredTree = measured_of names e in
        either (gives_one_bit op)
        (λ h. ap (λ (b : Bool).
        if b then unary_value op (own_form M).width (own_form M).signed
        (folded_of M (own_form M).width (own_form M).signed)
        else unary_value op n s (folded_of M n s)) h
        ∙ ap (λ (o : OwnForm). unary_value op o.width o.signed (folded_of M o.width o.signed))
        (own_measured names e)
        ∙ ap (λ x. unary_value op L S x)
        (folded_same c known e q shape numbers L S (omega arith) own)
        ∙ sym (ap (λ (b : Bool). if b then unary_value op L S (value names.scope nowhere e L S)
        else unary_value op n s (value names.scope nowhere e n s)) h))
        (λ h. ap (λ (b : Bool).
        if b then unary_value op (own_form M).width (own_form M).signed
        (folded_of M (own_form M).width (own_form M).signed)
        else unary_value op n s (folded_of M n s)) h
        ∙ ap (λ x. unary_value op n s x)
        (folded_same c known e q shape numbers n s (kept_length op L n h fits) is)
        ∙ sym (ap (λ (b : Bool). if b then unary_value op L S (value names.scope nowhere e L S)
        else unary_value op n s (value names.scope nowhere e n s)) h))
    folded_same c known (binary op p a b) q shape numbers n s fits is =
        let shapes = and_parts (is_shaped_expression a) (is_shaped_expression b) shape in
        let l = left_standing names op a b n s in
        let r = right_standing names op a b n s in
        let stand = both_stand names lengths c known op a b (q.0, q.1) shapes numbers n s fits is in
        ap₂ (λ (x y : OwnForm).
        binary_value op (left_length (class_of op) n x.width y.width)
        (left_signed (class_of op) s x.signed y.signed)
        (folded_of (measured_of names a) (left_length (class_of op) n x.width y.width)
        (left_signed (class_of op) s x.signed y.signed))
        (folded_of (measured_of names b) (right_length (class_of op) n x.width y.width)
        (right_signed (class_of op) s x.signed y.signed)))
        (own_measured names a) (own_measured names b)
        ∙ ap (λ x. binary_value op l.length l.signed x
        (folded_of (measured_of names b) r.length r.signed))
        (folded_same c known a q.0 shapes.0 numbers.0 l.length l.signed stand.1 stand.0)
        ∙ ap (λ x. binary_value op l.length l.signed
        (value names.scope nowhere a l.length l.signed) x)
        (folded_same c known b q.1 shapes.1 numbers.1 r.length r.signed stand.3 stand.2)
        ∙ result_at op n s (operand (length_of names.scope a) (signed_of names.scope a)
        (value names.scope nowhere a))
        (operand (length_of names.scope b) (signed_of names.scope b) (value names.scope nowhere b))
    folded_same c known (choice p d a b) q shape numbers n s fits is =
        let shapes = three_parts (is_shaped_expression d) (is_shaped_expression a)
        (is_shaped_expression b) shape in
        let own = own_length names lengths c known d q.0 shapes.0 numbers.0 in
        let A : ℕ = folded_of (measured_of names a) n s in
        let B : ℕ = folded_of (measured_of names b) n s in
        ap (λ x. if is_true x then A else B)
        (ap (λ (o : OwnForm).
        folded_of (measured_of names d) o.width o.signed) (own_measured names d)
        ∙ folded_same c known d q.0 shapes.0 numbers.0 (length_of names.scope d)
        (signed_of names.scope d) (omega arith) own)
        ∙ ap (λ x. if is_true
        (value names.scope nowhere d (length_of names.scope d) (signed_of names.scope d))
        then x else B)
        (folded_same c known a q.1 shapes.1 numbers.1 n s (omega arith) is)
        ∙ ap (λ x. if is_true
        (value names.scope nowhere d (length_of names.scope d) (signed_of names.scope d))
        then value names.scope nowhere a n s else x)
        (folded_same c known b q.2 shapes.2 numbers.2 n s (omega arith) is)
    folded_same c known (join p es) q shape numbers n s fits is =
        let shapes = and_parts (has_part es) (are_shaped_parts es) shape in
        let more : 2 ^ joined_length names.scope es ≤ 2 ^ n = pow_mono fits in
        let low = parts_low names lengths c known es q.0 shapes.1 numbers in
        joined_same c known es q.0 shapes.1 numbers n 0 (pow_pos n)
        ∙ ap (λ x. x % 2 ^ n)
        (zero_sum (2 ^ joined_length names.scope es) (joined_value names.scope nowhere es))
        ∙ mod-eq_of_lt (omega (arith, more, low))
    folded_same c known (replication p k es) q shape numbers n s fits is =
        let shapes = three_parts (is_shaped_expression k) (has_part es)
        (are_shaped_parts es) shape in
        let times : ℕ = natural (whole_number names.scope k) in
        let J : ℕ = joined_length names.scope es in
        let V : ℕ = joined_value names.scope nowhere es in
        let count = count_inside (whole_number names.scope k) q.5 in
        let once : J ≤ times * J = one_of_many times J count.0 in
        let fits_once : J ≤ n = omega (arith, once, fits) in
        let more : 2 ^ J ≤ 2 ^ n = pow_mono fits_once in
        let low = parts_low names lengths c known es q.2 shapes.2 numbers.1 in
        let whole : 2 ^ (times * J) ≤ 2 ^ n = pow_mono fits in
        let all_low = repeated_low times J V low in
        ap (λ x. behind_times n times x (joined_from (measured_parts names es) n 0))
        (joined_measured names es)
        ∙ ap (λ x. behind_times n times J x)
        (joined_same c known es q.2 shapes.2 numbers.1 n 0 (pow_pos n)
        ∙ ap (λ x. x % 2 ^ n) (zero_sum (2 ^ J) V)
        ∙ mod-eq_of_lt (omega (arith, more, low)))
        ∙ behind_times_same n times J V
        ∙ mod-eq_of_lt (omega (arith, whole, all_low))

    pub joined_same : (c : Bool) → KnownIn names c → (es : ExpressionTrees) → SoundParts names c es
        → IsTrue (are_shaped_parts es) → PartsHaveLengths es
        → (n v : ℕ) → v < 2 ^ n
        → joined_from (measured_parts names es) n v ≡
        (v * 2 ^ joined_length names.scope es + joined_value names.scope nowhere es) % 2 ^ n
    joined_same c known no_expressions q shape numbers n v low =
        sym (ap (λ x. x % 2 ^ n) (omega arith) ∙ mod-eq_of_lt low)
    joined_same c known (more_expressions e es) q shape numbers n v low =
        let shapes = and_parts (is_shaped_expression e) (are_shaped_parts es) shape in
        let own = own_length names lengths c known e q.0 shapes.0 numbers.0 in
        let L : ℕ = length_of names.scope e in
        let X : ℕ = value names.scope nowhere e L (signed_of names.scope e) in
        let J : ℕ = joined_length names.scope es in
        let R : ℕ = joined_value names.scope nowhere es in
        ap (λ (o : OwnForm).
        joined_from (measured_parts names es) n
        (behind n v o.width (folded_of (measured_of names e) o.width o.signed)))
        (own_measured names e)
        ∙ ap (λ x. joined_from (measured_parts names es) n (behind n v L x))
        (folded_same c known e q.0 shapes.0 numbers.0 L (signed_of names.scope e) (omega arith) own)
        ∙ joined_same c known es q.1 shapes.1 numbers.1 n (behind n v L X)
        (mod_below (v * 2 ^ L + X) (2 ^ n) (pow_pos n))
        ∙ cut_first (v * 2 ^ L + X) (2 ^ J) R (2 ^ n)
        ∙ ap (λ x. x % 2 ^ n) (grouped v X R L J)
