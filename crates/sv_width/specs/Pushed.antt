-- Private: how the code goes. The second walk, over an expression whose own lengths and signedness
-- are known: rule 405, values of constants, and typed forms (IEEE 1364-2005, clauses 5.4 and 5.5);
-- the meaning stands in `divisors` of sv_elab_rules/specs/ExpressionSteps.antt, `typed_of` of
-- TypedExpressions.antt and `value` of sv_ast/specs/Values.antt.
use Rattle.std.specs.Prelude.{ℕ, zero, suc, ◌+◌, ◌*◌, ◌%◌, ◌^◌, Bool, true, false, not, ◌==◌}
use Rattle.std.specs.Prelude.{if◌then◌else◌}
use Rattle.sv_num.specs.declared.operators.BinOp.{BinOp}
use Rattle.sv_num.specs.Vectors.{as_number, reduced, is_true}
use Rattle.sv_num.specs.UnaryValues.{gives_one_bit, unary_value}
use Rattle.sv_num.specs.BinaryValues.{class_of, binary_value, is_division}
use Rattle.sv_flat.specs.Design as flat
use Rattle.sv_flat.specs.Design.{TypedTree, NodeTree, TypedTrees, typed}
use Rattle.sv_elab_rules.specs.Walks.{Steps, done, ask, ◌>>=◌}
use Rattle.sv_elab_rules.specs.Rules.{zero_divisor}
use Rattle.sv_elab_rules.specs.TypedExpressions.{left_length, right_length, left_signed}
use Rattle.sv_elab_rules.specs.TypedExpressions.{right_signed}
use Rattle.sv_width.specs.Measured.{MeasuredTree, MeasuredTrees, value, read, read_bit}
use Rattle.sv_width.specs.Measured.{read_part, unary, binary, choice, join, replication, no_parts}
use Rattle.sv_width.specs.Measured.{more_parts, own_form}

-- the type of a binary operator's left operand
abbrev pub left_at : BinOp → (n : ℕ) → MeasuredTree → MeasuredTree → ℕ
left_at op n a b = left_length (class_of op) n (own_form a).width (own_form b).width

abbrev pub left_as : BinOp → (s : Bool) → MeasuredTree → MeasuredTree → Bool
left_as op s a b = left_signed (class_of op) s (own_form a).signed (own_form b).signed

abbrev pub right_at : BinOp → (n : ℕ) → MeasuredTree → MeasuredTree → ℕ
right_at op n a b = right_length (class_of op) n (own_form a).width (own_form b).width

abbrev pub right_as : BinOp → (s : Bool) → MeasuredTree → MeasuredTree → Bool
right_as op s a b = right_signed (class_of op) s (own_form a).signed (own_form b).signed

-- one value and behind it another one of some bits, modulo 2^n
abbrev pub behind : (n value next_width next : ℕ) → ℕ
behind n v w next = (v * 2 ^ w + next) % 2 ^ n

-- a value of some bits written so many times behind another one, modulo 2^n
abbrev pub behind_times : (n count value_width value : ℕ) → ℕ
behind_times n zero w v = 0
behind_times n (suc k) w v = behind n (behind_times n k w v) w v

abbrev pub joined_width : MeasuredTrees → ℕ
joined_width no_parts = 0
joined_width (more_parts e es) = (own_form e).width + joined_width es

unfoldable mutual
  -- the value at a length and signedness, where each signal is 0
  pub folded_of : MeasuredTree → (n : ℕ) → (s : Bool) → ℕ
  folded_of (value own w v) n s = reduced n (as_number w s v)
  folded_of (read own k p) n s = 0
  folded_of (read_bit own k p i) n s = 0
  folded_of (read_part own k p h l) n s = 0
  folded_of (unary own op e) n s = if gives_one_bit op
      then unary_value op (own_form e).width (own_form e).signed
      (folded_of e (own_form e).width (own_form e).signed)
      else unary_value op n s (folded_of e n s)
  folded_of (binary own op p a b) n s = binary_value op (left_at op n a b) (left_as op s a b)
      (folded_of a (left_at op n a b) (left_as op s a b))
      (folded_of b (right_at op n a b) (right_as op s a b))
  folded_of (choice own p c a b) n s =
      if is_true (folded_of c (own_form c).width (own_form c).signed)
      then folded_of a n s
      else folded_of b n s
  folded_of (join own es) n s = joined_from es n 0
  folded_of (replication own k es) n s = behind_times n k (joined_width es) (joined_from es n 0)

  -- the parts one behind the other, behind a value
  pub joined_from : MeasuredTrees → (n value : ℕ) → ℕ
  joined_from no_parts n v = v
  joined_from (more_parts e es) n v =
      joined_from es n (behind n v (own_form e).width
      (folded_of e (own_form e).width (own_form e).signed))

unfoldable mutual
  -- no divisor is 0
  pub divisors_of : MeasuredTree → (n : ℕ) → (s : Bool) → Steps
  divisors_of (value own w v) n s = done tt
  divisors_of (read own k p) n s = done tt
  divisors_of (read_bit own k p i) n s = divisors_of i (own_form i).width (own_form i).signed
  divisors_of (read_part own k p h l) n s = done tt
  divisors_of (unary own op e) n s = elim (gives_one_bit op) [
    | true ↦ divisors_of e (own_form e).width (own_form e).signed
    | false ↦ divisors_of e n s
  ]
  divisors_of (binary own op p a b) n s = do
    _ ← divisors_of a (left_at op n a b) (left_as op s a b)
    _ ← divisors_of b (right_at op n a b) (right_as op s a b)
    elim (is_division op) [
      | true ↦ ask (not (folded_of b (right_at op n a b) (right_as op s a b) == 0)) (zero_divisor p)
      | false ↦ done tt
    ]
  divisors_of (choice own p c a b) n s = do
    _ ← divisors_of c (own_form c).width (own_form c).signed
    _ ← divisors_of a n s
    divisors_of b n s
  divisors_of (join own es) n s = divisors_in es
  divisors_of (replication own k es) n s = divisors_in es

  pub divisors_in : MeasuredTrees → Steps
  divisors_in no_parts = done tt
  divisors_in (more_parts e es) = do
    _ ← divisors_of e (own_form e).width (own_form e).signed
    divisors_in es

unfoldable mutual
  -- the typed form at a length and signedness
  pub node_of : MeasuredTree → (n : ℕ) → (s : Bool) → NodeTree
  node_of (value own w v) n s = flat.constant (reduced n (as_number w s v))
  node_of (read own k p) n s = flat.read k p
  node_of (read_bit own k p i) n s = flat.read_bit k p
      (typed (own_form i).width (own_form i).signed
      (node_of i (own_form i).width (own_form i).signed))
  node_of (read_part own k p h l) n s = flat.read_part k p h l
  node_of (unary own op e) n s = elim (gives_one_bit op) [
    | true ↦ flat.unary op
        (typed (own_form e).width (own_form e).signed
        (node_of e (own_form e).width (own_form e).signed))
    | false ↦ flat.unary op (typed n s (node_of e n s))
  ]
  node_of (binary own op p a b) n s = elim (is_division op) [
    | true ↦ flat.constant (folded_of (binary own op p a b) n s)
    | false ↦ flat.binary op
        (typed (left_at op n a b) (left_as op s a b)
        (node_of a (left_at op n a b) (left_as op s a b)))
        (typed (right_at op n a b) (right_as op s a b)
        (node_of b (right_at op n a b) (right_as op s a b)))
  ]
  node_of (choice own p c a b) n s = flat.choice p
      (typed (own_form c).width (own_form c).signed
      (node_of c (own_form c).width (own_form c).signed))
      (typed n s (node_of a n s)) (typed n s (node_of b n s))
  node_of (join own es) n s = flat.join (nodes_in es)
  node_of (replication own k es) n s = flat.replication k (nodes_in es)

  pub nodes_in : MeasuredTrees → TypedTrees
  nodes_in no_parts = flat.no_parts
  nodes_in (more_parts e es) = flat.more_parts
      (typed (own_form e).width (own_form e).signed
      (node_of e (own_form e).width (own_form e).signed)) (nodes_in es)
