-- The typed form of a source expression: a length and a signedness are pushed down to each operand
-- or are its own (IEEE 1364-2005, clauses 5.4 and 5.5). Names of signals are numbers; literals,
-- parameters and divisions stand as their values, other constant expressions as they are written.
use Rattle.std.specs.Prelude.{ℕ, max, Bool, true, false, ◌||◌, ◌&&◌, Option, Some, None}
use Rattle.sv_num.specs.declared.faults.Place.{Place}
use Rattle.sv_num.specs.declared.operators.OpClass.{OpClass}
use Rattle.sv_num.specs.declared.operators.OpClass.TheVariants.{Context, Compare, Logical, Shift}
use Rattle.sv_num.specs.UnaryValues.{gives_one_bit}
use Rattle.sv_num.specs.BinaryValues.{class_of, is_division}
use Rattle.sv_ast.specs.Scopes.{Scope, Binding, parameter, signal}
use Rattle.sv_ast.specs.Tree.{ExpressionTree, ExpressionTrees, literal, named, bit_of, part_of}
use Rattle.sv_ast.specs.Tree.{unary, binary, choice, join, replication, no_expressions}
use Rattle.sv_ast.specs.Tree.{more_expressions}
use Rattle.sv_num.specs.Parts.{extended}
use Rattle.sv_ast.specs.Values.{natural, nowhere, length_of, signed_of, value, whole_number}
use Rattle.sv_flat.specs.Design.{TypedTree, NodeTree, TypedTrees, no_parts, more_parts}
use Rattle.sv_flat.specs.Design.{typed, constant, read, read_bit, read_part, unary as unary_node}
use Rattle.sv_flat.specs.Design.{binary as binary_node, choice as choice_node, join as join_node}
use Rattle.sv_flat.specs.Design.{replication as replication_node}
use Rattle.sv_ast.specs.Instances.{is_signal}
use Rattle.sv_elab_rules.specs.Names.{Names}

unfoldable mutual
  -- whether a signal is named: an expression that names none is constant
  pub names_signal : Scope → ExpressionTree → Bool
  names_signal scope (literal l p) = false
  names_signal scope (named n p) = is_signal (scope n)
  names_signal scope (bit_of n p i) = is_signal (scope n) || names_signal scope i
  names_signal scope (part_of n p h l) =
      is_signal (scope n) || names_signal scope h || names_signal scope l
  names_signal scope (unary op p e) = names_signal scope e
  names_signal scope (binary op p a b) = names_signal scope a || names_signal scope b
  names_signal scope (choice p c a b) =
      names_signal scope c || names_signal scope a || names_signal scope b
  names_signal scope (join p es) = some_names_signal scope es
  names_signal scope (replication p k es) = names_signal scope k || some_names_signal scope es

  pub some_names_signal : Scope → ExpressionTrees → Bool
  some_names_signal scope no_expressions = false
  some_names_signal scope (more_expressions e es) =
      names_signal scope e || some_names_signal scope es

-- the length at which a binary operator's left operand stands, from the pushed length and both own
-- ones
abbrev pub left_length : OpClass → (pushed own_left own_right : ℕ) → ℕ
left_length Context n a b = n
left_length Compare n a b = max a b
left_length Logical n a b = a
left_length Shift n a b = n

abbrev pub right_length : OpClass → (pushed own_left own_right : ℕ) → ℕ
right_length Context n a b = n
right_length Compare n a b = max a b
right_length Logical n a b = b
right_length Shift n a b = b

-- likewise the signedness
abbrev pub left_signed : OpClass → (pushed own_left own_right : Bool) → Bool
left_signed Context s a b = s
left_signed Compare s a b = a && b
left_signed Logical s a b = a
left_signed Shift s a b = s

abbrev pub right_signed : OpClass → (pushed own_left own_right : Bool) → Bool
right_signed Context s a b = s
right_signed Compare s a b = a && b
right_signed Logical s a b = b
right_signed Shift s a b = b

-- the typed form of a name: a parameter stands as its value
abbrev pub named_node : Option Binding → (number : ℕ) → Place → (length : ℕ) → (signed : Bool) →
    NodeTree
named_node (Some (parameter v)) k p n s = constant (extended s v.width n v.value)
named_node (Some (signal width signed)) k p n s = read k p
named_node None k p n s = read k p

unfoldable mutual
  -- the typed form at a length and signedness; a division stands as its value, since its operands
  -- are constants
  pub typed_of : Names → ExpressionTree → (length : ℕ) → (signed : Bool) → TypedTree
  typed_of names (literal l p) n s = typed n s (constant (extended s l.width n l.value))
  typed_of names (named m p) n s = typed n s (named_node (names.scope m) (names.number m) p n s)
  typed_of names (bit_of m p i) n s = typed n s
      (read_bit (names.number m) p
      (typed_of names i (length_of names.scope i) (signed_of names.scope i)))
  typed_of names (part_of m p h l) n s = typed n s
      (read_part (names.number m) p (natural (whole_number names.scope h))
      (natural (whole_number names.scope l)))
  typed_of names (unary op p e) n s = elim (gives_one_bit op) [
    | true ↦ typed n s (unary_node op
        (typed_of names e (length_of names.scope e) (signed_of names.scope e)))
    | false ↦ typed n s (unary_node op (typed_of names e n s))
  ]
  typed_of names (binary op p a b) n s = elim (is_division op) [
    | true ↦ typed n s (constant (value names.scope nowhere (binary op p a b) n s))
    | false ↦ typed n s (binary_node op
        (typed_of names a
        (left_length (class_of op) n (length_of names.scope a) (length_of names.scope b))
        (left_signed (class_of op) s (signed_of names.scope a) (signed_of names.scope b)))
        (typed_of names b
        (right_length (class_of op) n (length_of names.scope a) (length_of names.scope b))
        (right_signed (class_of op) s (signed_of names.scope a) (signed_of names.scope b))))
  ]
  typed_of names (choice p c a b) n s = typed n s (choice_node p
      (typed_of names c (length_of names.scope c) (signed_of names.scope c)) (typed_of names a n s)
      (typed_of names b n s))
  typed_of names (join p es) n s = typed n s (join_node (typed_parts names es))
  typed_of names (replication p k es) n s = typed n s
      (replication_node (natural (whole_number names.scope k)) (typed_parts names es))

  -- each part at its own length and signedness
  pub typed_parts : Names → ExpressionTrees → TypedTrees
  typed_parts names no_expressions = no_parts
  typed_parts names (more_expressions e es) =
      more_parts (typed_of names e (length_of names.scope e) (signed_of names.scope e))
      (typed_parts names es)
