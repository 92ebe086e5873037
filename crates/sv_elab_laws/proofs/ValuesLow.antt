-- A source expression's value fits each length from its own one on.
use Rattle.std.proofs.Common.{◌≡◌, ℕ, ◌*◌, ◌/◌, ◌^◌, ◌<◌, ◌≤◌, Bool, true}
use Rattle.std.proofs.Common.{false, List, refl, arith}
use Rattle.std.specs.Prelude.{if◌then◌else◌, Option, Some, None}
use Rattle.std.proofs.lemmas.Nat.{pow_pos, mod_below, and_le_l, or_lt, xor_lt}
use Rattle.std.proofs.Math.Pow.{pow_mono}
use Rattle.std.proofs.Math.Nat.{div-le_self}
use Rattle.sv_num.specs.declared.operators.BinOp.{BinOp}
use Rattle.sv_num.specs.declared.operators.BinOp.TheVariants.{Mul, Div, Rem, Add, Sub, Shl, Shr}
use Rattle.sv_num.specs.declared.operators.BinOp.TheVariants.{SignShl, SignShr, Lt, Le, Gt, Ge, Eq}
use Rattle.sv_num.specs.declared.operators.BinOp.TheVariants.{Ne, And, Xor, Xnor, Or, LogicAnd}
use Rattle.sv_num.specs.declared.operators.BinOp.TheVariants.{LogicOr}
use Rattle.sv_num.specs.declared.operators.UnOp.{UnOp}
use Rattle.sv_num.specs.Vectors.{truth, is_true, as_number}
use Rattle.sv_num.specs.UnaryValues.{gives_one_bit, unary_value}
use Rattle.sv_num.specs.BinaryValues.{class_of}
use Rattle.sv_num.proofs.BitsLemmas.{joined_low}
use Rattle.sv_system.specs.System.{Environment}
use Rattle.sv_ast.specs.Scopes.{Scope, Number, width_of}
use Rattle.sv_ast.specs.Tree.{ExpressionTree, ExpressionTrees, literal, named, bit_of, part_of}
use Rattle.sv_ast.specs.Tree.{unary, binary, choice, join, replication, no_expressions}
use Rattle.sv_ast.specs.Tree.{more_expressions, SpanTree}
use Rattle.sv_ast.specs.Values.{nowhere, natural, Operand, operand, binary_length, binary_result}
use Rattle.sv_ast.specs.Values.{length_of, joined_length, signed_of, value, joined_value, at_own}
use Rattle.sv_ast.specs.Values.{whole_number, constant_of}
use Rattle.sv_ast.specs.Instances.{in_range}
use Rattle.sv_width.proofs.Constants.{bit_or_zero_low, chosen_low, repeated_low}
use Rattle.sv_width.proofs.WellFormed.{reduced_low}
use Rattle.sv_width.proofs.Low.{one_low, bit_low, unary_low}

pub truth_low : (n : ℕ) (b : Bool) → 1 ≤ n → truth b < 2 ^ n
truth_low n true some = one_low n 1 some (omega arith)
truth_low n false some = one_low n 0 some (omega arith)

unary_result_low : (op : UnOp) (b : Bool) → gives_one_bit op ≡ b
    → (own n : ℕ) (signed s : Bool) (x y : ℕ)
    → (if b then 1 else own) ≤ n → (own ≤ n → y < 2 ^ n)
    → (if b then unary_value op own signed x else unary_value op n s y) < 2 ^ n
unary_result_low op true is own n signed s x y fits low = bit_low op is n own signed x fits
unary_result_low op false is own n signed s x y fits low = unary_low op is n s y (low fits)

-- each operand that stands at the pushed length fits it
binary_result_low : (op : BinOp) (n : ℕ) (s : Bool) (a b : Operand)
    → binary_length (class_of op) a.length b.length ≤ n
    → (a.length ≤ n → a.value n s < 2 ^ n) → (b.length ≤ n → b.value n s < 2 ^ n)
    → binary_result op (class_of op) n s a b < 2 ^ n
binary_result_low Mul n s a b fits p q = reduced_low n _
binary_result_low Div n s a b fits p q = reduced_low n _
binary_result_low Rem n s a b fits p q = reduced_low n _
binary_result_low Add n s a b fits p q = reduced_low n _
binary_result_low Sub n s a b fits p q = reduced_low n _
binary_result_low Shl n s a b fits p q = mod_below _ (2 ^ n) (pow_pos n)
binary_result_low Shr n s a b fits p q =
    let less : a.value n s / 2 ^ b.value b.length b.signed ≤ a.value n s =
    div-le_self (a.value n s) (2 ^ b.value b.length b.signed) in
    omega (arith, less, p fits)
binary_result_low SignShl n s a b fits p q = mod_below _ (2 ^ n) (pow_pos n)
binary_result_low SignShr n s a b fits p q = reduced_low n _
binary_result_low Lt n s a b fits p q = truth_low n _ fits
binary_result_low Le n s a b fits p q = truth_low n _ fits
binary_result_low Gt n s a b fits p q = truth_low n _ fits
binary_result_low Ge n s a b fits p q = truth_low n _ fits
binary_result_low Eq n s a b fits p q = truth_low n _ fits
binary_result_low Ne n s a b fits p q = truth_low n _ fits
binary_result_low And n s a b fits p q =
    let left : a.length ≤ n = omega arith in
    omega (arith, and_le_l (a.value n s) (b.value n s), p left)
binary_result_low Xor n s a b fits p q =
    xor_lt n (a.value n s) (b.value n s) (p (omega arith)) (q (omega arith))
binary_result_low Xnor n s a b fits p q = omega (arith, pow_pos n)
binary_result_low Or n s a b fits p q =
    or_lt n (a.value n s) (b.value n s) (p (omega arith)) (q (omega arith))
binary_result_low LogicAnd n s a b fits p q = truth_low n _ fits
binary_result_low LogicOr n s a b fits p q = truth_low n _ fits

module _ (scope : Scope) (environment : Environment (List ℕ)) where
  mutual
    unfolding length_of joined_length value joined_value

    pub value_low : (e : ExpressionTree) (n : ℕ) (s : Bool) → length_of scope e ≤ n →
        value scope environment e n s < 2 ^ n
    value_low (literal l p) n s fits = reduced_low n _
    value_low (named m p) n s fits = reduced_low n _
    value_low (bit_of m p i) n s fits =
        one_low n _ fits (bit_or_zero_low (width_of (scope m)) (environment m)
        (at_own (length_of scope i) (signed_of scope i) (value scope environment i)))
    value_low (part_of m p h l) n s fits =
        let more : 2 ^ length_of scope (part_of m p h l) ≤ 2 ^ n = pow_mono fits in
        omega (
          arith,
          more,
          mod_below (environment m / 2 ^ natural (whole_number scope l))
              (2 ^ length_of scope (part_of m p h l)) (pow_pos _),
        )
    value_low (unary op p e) n s fits =
        unary_result_low op (gives_one_bit op) refl (length_of scope e) n (signed_of scope e) s _ _
        fits (λ less. value_low e n s less)
    value_low (binary op p a b) n s fits =
        binary_result_low op n s
        (operand (length_of scope a) (signed_of scope a) (value scope environment a))
        (operand (length_of scope b) (signed_of scope b) (value scope environment b)) fits
        (λ less. value_low a n s less) (λ less. value_low b n s less)
    value_low (choice p c a b) n s fits =
        let left : length_of scope a ≤ n = omega arith in
        let right : length_of scope b ≤ n = omega arith in
        chosen_low (is_true (value scope environment c (length_of scope c) (signed_of scope c))) _
        _ (2 ^ n)
        (value_low a n s left) (value_low b n s right)
    value_low (join p es) n s fits =
        let more : 2 ^ joined_length scope es ≤ 2 ^ n = pow_mono fits in
        omega (arith, more, parts_low es)
    value_low (replication p k es) n s fits =
        let times : ℕ = natural (whole_number scope k) in
        let more : 2 ^ (times * joined_length scope es) ≤ 2 ^ n = pow_mono fits in
        omega (arith, more, repeated_low times (joined_length scope es) _ (parts_low es))

    pub parts_low : (es : ExpressionTrees) →
        joined_value scope environment es < 2 ^ joined_length scope es
    parts_low no_expressions = pow_pos 0
    parts_low (more_expressions e es) =
        joined_low (value scope environment e (length_of scope e) (signed_of scope e))
        (joined_value scope environment es)
        (length_of scope e) (joined_length scope es)
        (value_low e (length_of scope e) (signed_of scope e) (omega arith)) (parts_low es)

-- a constant fits its length
pub constant_fits : (scope : Scope) (e : ExpressionTree) →
    (constant_of scope e).value < 2 ^ (constant_of scope e).width
constant_fits scope e =
    value_low scope nowhere e (length_of scope e) (signed_of scope e) (omega arith)

-- and so does a parameter in its range
pub in_range_fits : (scope : Scope) (signed : Bool) (span : Option SpanTree) (final : Number)
    → final.value < 2 ^ final.width
    → (in_range scope signed span final).value < 2 ^ (in_range scope signed span final).width
in_range_fits scope signed None final fits = fits
in_range_fits scope signed (Some span) final fits =
    reduced_low (in_range scope signed (Some span) final).width
    (as_number final.width final.signed final.value)
