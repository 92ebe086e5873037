-- The rules that an expression is asked: 401 to 404 and 406 to 408 in a first walk, operands from
-- left to right before their operator, then 405 in a second one at the lengths and signedness that
-- are pushed down (IEEE 1364-2005, clauses 5.1.14, 5.2.1, 5.4 and 5.5; the rules' order is this
-- project's profile). Bounds, constant indices and counts are expressions of their own.
use Rattle.std.specs.Prelude.{ℕ, max, Bool, true, false, not, ◌==◌, ◌||◌, ◌&&◌, nat_lt, nat_le, ℤ}
use Rattle.std.specs.Prelude.{pos, negsuc}
use Rattle.sv_num.specs.UnaryValues.{gives_one_bit}
use Rattle.sv_num.specs.BinaryValues.{class_of, is_division}
use Rattle.sv_ast.specs.Scopes.{Scope, Number, width_of}
use Rattle.sv_ast.specs.Tree.{ExpressionTree, ExpressionTrees, literal, named, bit_of, part_of}
use Rattle.sv_ast.specs.Tree.{unary, binary, choice, join, replication, no_expressions}
use Rattle.sv_ast.specs.Tree.{more_expressions}
use Rattle.sv_ast.specs.Values.{nowhere, length_of, joined_length, signed_of, value, whole_number}
use Rattle.sv_ast.specs.Values.{constant_of}
use Rattle.sv_ast.specs.GrammarModules.{place_of}
use Rattle.sv_flat.specs.Design.{TypedTree}
use Rattle.sv_elab_rules.specs.Walks.{Walk, Steps, done, ask, ◌>>=◌}
use Rattle.sv_elab_rules.specs.Rules.{unknown_name, too_wide, bad_select, not_constant, zero_divisor}
use Rattle.sv_elab_rules.specs.Rules.{division, unsized_part, bad_count}
use Rattle.sv_elab_rules.specs.Names.{Names, is_parameter, in_reach, means_signal}
use Rattle.sv_elab_rules.specs.TypedExpressions.{names_signal, left_length, right_length}
use Rattle.sv_elab_rules.specs.TypedExpressions.{left_signed, right_signed, typed_of}

unfoldable mutual
  -- the second walk, at a length and signedness: no constant divisor is 0
  pub divisors : Scope → ExpressionTree → (length : ℕ) → (signed : Bool) → Steps
  divisors scope (literal l p) n s = done tt
  divisors scope (named m p) n s = done tt
  divisors scope (bit_of m p i) n s = elim (names_signal scope i) [
    | true ↦ divisors scope i (length_of scope i) (signed_of scope i)
    | false ↦ done tt
  ]
  divisors scope (part_of m p h l) n s = done tt
  divisors scope (unary op p e) n s = elim (gives_one_bit op) [
    | true ↦ divisors scope e (length_of scope e) (signed_of scope e)
    | false ↦ divisors scope e n s
  ]
  divisors scope (binary op p a b) n s = do
    _ ← divisors scope a
        (left_length (class_of op) n (length_of scope a) (length_of scope b))
        (left_signed (class_of op) s (signed_of scope a) (signed_of scope b))
    _ ← divisors scope b
        (right_length (class_of op) n (length_of scope a) (length_of scope b))
        (right_signed (class_of op) s (signed_of scope a) (signed_of scope b))
    elim (is_division op) [
      | true ↦ ask (not (value scope nowhere b n s == 0)) (zero_divisor (place_of b))
      | false ↦ done tt
    ]
  divisors scope (choice p c a b) n s = do
    _ ← divisors scope c (length_of scope c) (signed_of scope c)
    _ ← divisors scope a n s
    divisors scope b n s
  divisors scope (join p es) n s = part_divisors scope es
  divisors scope (replication p k es) n s = part_divisors scope es

  pub part_divisors : Scope → ExpressionTrees → Steps
  part_divisors scope no_expressions = done tt
  part_divisors scope (more_expressions e es) = do
    _ ← divisors scope e (length_of scope e) (signed_of scope e)
    part_divisors scope es

-- the second walk of an expression of its own
abbrev pub own_divisors : Scope → ExpressionTree → Steps
own_divisors scope e = divisors scope e (length_of scope e) (signed_of scope e)

-- whether a whole number is a natural one from 0 to below the limit
abbrev pub is_below : (limit : ℕ) → ℤ → Bool
is_below limit (pos n) = nat_lt n limit
is_below limit (negsuc n) = false

-- a replication is written 1 to 64 times
abbrev pub is_count : ℤ → Bool
is_count (pos n) = nat_le 1 n && nat_le n 64
is_count (negsuc n) = false

-- a part lies inside its signal, with its high not below its low
abbrev pub is_part : (width : ℕ) → (high low : ℤ) → Bool
is_part width (pos high) (pos low) = nat_lt high width && nat_le low high
is_part width (pos high) (negsuc low) = false
is_part width (negsuc high) low = false

-- a literal that stands directly in a concatenation has its length written
abbrev pub is_sized : ExpressionTree → Bool
is_sized (literal l p) = l.sized
is_sized _ = true

-- each part of a concatenation is asked that
unfoldable pub sized_parts : ExpressionTrees → Steps
sized_parts no_expressions = done tt
sized_parts (more_expressions e es) = do
  _ ← ask (is_sized e) (unsized_part (place_of e))
  sized_parts es

unfoldable mutual
  -- the first walk, in a constant place or in another one
  pub asked : Names → (constant : Bool) → ExpressionTree → Steps
  asked names constant (literal l p) = done tt
  asked names constant (named n p) = do
    _ ← ask (in_reach names n) (unknown_name p n)
    ask (not constant || is_parameter (names.scope n)) (not_constant p)
  asked names constant (bit_of n p i) = do
    _ ← ask (means_signal names n) (unknown_name p n)
    _ ← ask (not constant) (not_constant p)
    elim (names_signal names.scope i) [
      | true ↦ asked names false i
      | false ↦ do
        _ ← asked names true i
        _ ← own_divisors names.scope i
        ask (is_below (width_of (names.scope n)) (whole_number names.scope i))
            (bad_select (place_of i))
    ]
  asked names constant (part_of n p h l) = do
    _ ← ask (means_signal names n) (unknown_name p n)
    _ ← ask (not constant) (not_constant p)
    _ ← asked names true h
    _ ← own_divisors names.scope h
    _ ← asked names true l
    _ ← own_divisors names.scope l
    ask (is_part (width_of (names.scope n)) (whole_number names.scope h)
        (whole_number names.scope l)) (bad_select p)
  asked names constant (unary op p e) = asked names constant e
  asked names constant (binary op p a b) = do
    _ ← asked names constant a
    _ ← asked names constant b
    elim (is_division op) [
      | true ↦ ask (not (names_signal names.scope a || names_signal names.scope b)) (division p)
      | false ↦ done tt
    ]
  asked names constant (choice p c a b) = do
    _ ← asked names constant c
    _ ← asked names constant a
    asked names constant b
  asked names constant (join p es) = do
    _ ← asked_parts names constant es
    _ ← ask (nat_le (joined_length names.scope es) 64) (too_wide p)
    sized_parts es
  asked names constant (replication p k es) = do
    _ ← asked names true k
    _ ← own_divisors names.scope k
    _ ← asked_parts names constant es
    _ ← ask (nat_le (length_of names.scope (replication p k es)) 64) (too_wide p)
    _ ← sized_parts es
    ask (is_count (whole_number names.scope k)) (bad_count (place_of k))

  pub asked_parts : Names → (constant : Bool) → ExpressionTrees → Steps
  asked_parts names constant no_expressions = done tt
  asked_parts names constant (more_expressions e es) = do
    _ ← asked names constant e
    asked_parts names constant es

-- the typed form at a length and signedness, where the expression breaks no rule
unfoldable pub typed_walk : Names → ExpressionTree → (length : ℕ) → (signed : Bool) → Walk TypedTree
typed_walk names e n s = do
  _ ← asked names false e
  _ ← divisors names.scope e n s
  done (typed_of names e n s)

-- a right side for targets of so many bits in all (clause 5.4.1): its typed form at the larger of
-- both lengths; for no target, at its own
unfoldable pub expression_walk : Names → ExpressionTree → (width : ℕ) → Walk TypedTree
expression_walk names e width =
    typed_walk names e (max (length_of names.scope e) width) (signed_of names.scope e)

-- a constant: its value at its own length and signedness
unfoldable pub constant_walk : Names → ExpressionTree → Walk Number
constant_walk names e = do
  _ ← asked names true e
  _ ← own_divisors names.scope e
  done (constant_of names.scope e)
