-- Length, signedness and value of source expressions (IEEE 1364-2005, clauses 5.4 and 5.5). A
-- length and a signedness are pushed down to an operand or are its own; a value is a whole number,
-- taken modulo 2^length.
use Rattle.std.specs.Prelude.{ℕ, zero, suc, max, ◌+◌, ◌-◌, ◌*◌, ◌/◌, ◌%◌, ◌^◌, Bool, false, ◌&&◌}
use Rattle.std.specs.Prelude.{nat_lt, if◌then◌else◌, List, ℤ, pos, negsuc}
use Rattle.sv_num.specs.declared.operators.BinOp.{BinOp}
use Rattle.sv_num.specs.declared.operators.OpClass.{OpClass}
use Rattle.sv_num.specs.declared.operators.OpClass.TheVariants.{Context, Compare, Logical, Shift}
use Rattle.sv_num.specs.Vectors.{as_number, reduced, is_true}
use Rattle.sv_num.specs.Parts.{extended, span_of, bits_between, bit_or_zero, repeated}
use Rattle.sv_num.specs.UnaryValues.{gives_one_bit, unary_value}
use Rattle.sv_num.specs.BinaryValues.{class_of, binary_value}
use Rattle.sv_system.specs.System.{Environment}
use Rattle.sv_ast.specs.Scopes.{Scope, Number, width_of, is_signed, value_of}
use Rattle.sv_ast.specs.Tree.{ExpressionTree, ExpressionTrees, literal, named, bit_of, part_of}
use Rattle.sv_ast.specs.Tree.{unary, binary, choice, join, replication, no_expressions}
use Rattle.sv_ast.specs.Tree.{more_expressions}

-- a count or a bound as a natural number; a negative one is refused
abbrev pub natural : ℤ → ℕ
natural (pos n) = n
natural (negsuc n) = 0

-- a value at its own length and signedness, as a whole number
abbrev pub at_own : (length : ℕ) → (signed : Bool) → (value : ℕ → Bool → ℕ) → ℤ
at_own n s v = as_number n s (v n s)

-- likewise as a count or a bound
abbrev pub bound_at_own : (length : ℕ) → (signed : Bool) → (value : ℕ → Bool → ℕ) → ℕ
bound_at_own n s v = natural (at_own n s v)

-- the environment of constants, in which no signal has a value
abbrev pub nowhere : Environment (List ℕ)
nowhere n = 0

-- Operators.

-- the signedness of a binary operator's result, from its operands' (clause 5.5.1)
abbrev pub binary_signed : OpClass → (left right : Bool) → Bool
binary_signed Context left right = left && right
binary_signed Compare left right = false
binary_signed Logical left right = false
binary_signed Shift left right = left

-- the own length of a binary operator's result, from its operands' (clause 5.4.1)
abbrev pub binary_length : OpClass → (left right : ℕ) → ℕ
binary_length Context left right = max left right
binary_length Compare left right = 1
binary_length Logical left right = 1
binary_length Shift left right = left

-- an operand: its own length and signedness, and its value at each length and signedness
pub record Operand : Type 0 where
  pub length : ℕ
  pub signed : Bool
  pub value : ℕ → Bool → ℕ

-- the operand of this length, signedness and value
abbrev pub operand : (length : ℕ) → (signed : Bool) → (value : ℕ → Bool → ℕ) → Operand
operand n s v = record { length = n; signed = s; value = v }

-- an operand's value at its own length and signedness
abbrev pub alone : Operand → ℕ
alone a = a.value a.length a.signed

-- a binary operator's result where a length and a signedness are pushed down to both operands
abbrev pub pushed_result : BinOp → (length : ℕ) → (signed : Bool) → (left right : Operand) → ℕ
pushed_result op n s a b = binary_value op n s (a.value n s) (b.value n s)

-- a binary operator's result at a length and signedness (clauses 5.4.1 and 5.5.2): they are pushed
-- down to both operands, or to the left one of a shift; the operands of a comparison have a type in
-- common, all others their own
abbrev pub binary_result : BinOp → OpClass → (length : ℕ) → (signed : Bool)
    → (left right : Operand) → ℕ
binary_result op Context n s a b = pushed_result op n s a b
binary_result op Compare n s a b =
    pushed_result op (max a.length b.length) (a.signed && b.signed) a b
binary_result op Logical n s a b = binary_value op n s (alone a) (alone b)
binary_result op Shift n s a b = binary_value op n s (a.value n s) (alone b)

-- Expressions.

-- an expression's signedness (clause 5.5.1): signed only if all its pushed operands are; selects,
-- joins and comparisons are not
unfoldable pub signed_of : Scope → ExpressionTree → Bool
signed_of scope (literal l p) = l.signed
signed_of scope (named n p) = is_signed (scope n)
signed_of scope (bit_of n p i) = false
signed_of scope (part_of n p h l) = false
signed_of scope (unary op p e) = if gives_one_bit op then false else signed_of scope e
signed_of scope (binary op p a b) = binary_signed (class_of op) (signed_of scope a)
    (signed_of scope b)
signed_of scope (choice p c a b) = signed_of scope a && signed_of scope b
signed_of scope (join p es) = false
signed_of scope (replication p k es) = false

unfoldable mutual
  -- an expression's own length (clause 5.4.1)
  pub length_of : Scope → ExpressionTree → ℕ
  length_of scope (literal l p) = l.width
  length_of scope (named n p) = width_of (scope n)
  length_of scope (bit_of n p i) = 1
  length_of scope (part_of n p h l) = span_of
      (bound_at_own (length_of scope h) (signed_of scope h) (value scope nowhere h))
      (bound_at_own (length_of scope l) (signed_of scope l) (value scope nowhere l))
  length_of scope (unary op p e) = if gives_one_bit op then 1 else length_of scope e
  length_of scope (binary op p a b) =
      binary_length (class_of op) (length_of scope a) (length_of scope b)
  length_of scope (choice p c a b) = max (length_of scope a) (length_of scope b)
  length_of scope (join p es) = joined_length scope es
  length_of scope (replication p k es) =
      bound_at_own (length_of scope k) (signed_of scope k) (value scope nowhere k)
      * joined_length scope es

  -- the sum of the own lengths
  pub joined_length : Scope → ExpressionTrees → ℕ
  joined_length scope no_expressions = 0
  joined_length scope (more_expressions e es) = length_of scope e + joined_length scope es

  -- the value at a length and signedness, where the signals have the given values
  pub value : Scope → (environment : Environment (List ℕ)) → ExpressionTree
      → (length : ℕ) → (signed : Bool) → ℕ
  value scope environment (literal l p) n s = extended s l.width n l.value
  value scope environment (named m p) n s =
      extended s (width_of (scope m)) n (value_of (scope m) (environment m))
  value scope environment (bit_of m p i) n s = bit_or_zero (width_of (scope m)) (environment m)
      (at_own (length_of scope i) (signed_of scope i) (value scope environment i))
  value scope environment (part_of m p h l) n s = bits_between
      (bound_at_own (length_of scope h) (signed_of scope h) (value scope nowhere h))
      (bound_at_own (length_of scope l) (signed_of scope l) (value scope nowhere l))
      (environment m)
  value scope environment (unary op p e) n s =
      if gives_one_bit op
      then unary_value op (length_of scope e) (signed_of scope e)
      (value scope environment e (length_of scope e) (signed_of scope e))
      else unary_value op n s (value scope environment e n s)
  value scope environment (binary op p a b) n s = binary_result op (class_of op) n s
      (operand (length_of scope a) (signed_of scope a) (value scope environment a))
      (operand (length_of scope b) (signed_of scope b) (value scope environment b))
  value scope environment (choice p c a b) n s =
      if is_true (value scope environment c (length_of scope c) (signed_of scope c))
      then value scope environment a n s
      else value scope environment b n s
  value scope environment (join p es) n s = joined_value scope environment es
  value scope environment (replication p k es) n s = repeated
      (bound_at_own (length_of scope k) (signed_of scope k) (value scope nowhere k))
      (joined_length scope es) (joined_value scope environment es)

  -- the parts at their own lengths one behind the other, the first the highest (clause 5.1.14)
  pub joined_value : Scope → (environment : Environment (List ℕ)) → ExpressionTrees → ℕ
  joined_value scope environment no_expressions = 0
  joined_value scope environment (more_expressions e es) =
      value scope environment e (length_of scope e) (signed_of scope e) * 2 ^ joined_length scope es
      + joined_value scope environment es

-- the value at its own length and signedness
abbrev pub own_value : Scope → (environment : Environment (List ℕ)) → ExpressionTree → ℕ
own_value scope environment e = value scope environment e (length_of scope e) (signed_of scope e)

-- a constant: its value at its own length and signedness, which no signal changes
abbrev pub constant_of : Scope → ExpressionTree → Number
constant_of scope e = record {
  width = length_of scope e;
  signed = signed_of scope e;
  value = own_value scope nowhere e;
}

-- a constant as a whole number, read by its own signedness
abbrev pub whole_number : Scope → ExpressionTree → ℤ
whole_number scope e = at_own (length_of scope e) (signed_of scope e) (value scope nowhere e)

-- a constant as a count or a bound
abbrev pub bound_of : Scope → ExpressionTree → ℕ
bound_of scope e = natural (whole_number scope e)

-- the value of a right side for targets of so many bits in all (clauses 5.4.1 and 5.5.3): taken at
-- the larger of both lengths and with its own signedness, then cut
abbrev pub assigned_value : Scope → (environment : Environment (List ℕ)) → (width : ℕ)
    → ExpressionTree → ℕ
assigned_value scope environment width e =
    value scope environment e (max (length_of scope e) width) (signed_of scope e) % 2 ^ width
