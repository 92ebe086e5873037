-- A source expression after the first walk: each operand with its own length and signedness (IEEE
-- 1364-2005, clauses 5.4 and 5.5), numbers for names of signals, values for parameters, bounds and
-- counts.
use Rattle.std.specs.Prelude.{ℕ, Bool, Option, Some, None}
use Rattle.sv_num.specs.declared.faults.Place.{Place}
use Rattle.sv_num.specs.declared.operators.UnOp.{UnOp}
use Rattle.sv_num.specs.declared.operators.BinOp.{BinOp}
use Rattle.sv_ast.specs.Scopes.{Binding, parameter, signal}
use Rattle.sv_ast.specs.Tree as source
use Rattle.sv_ast.specs.Tree.{ExpressionTree, ExpressionTrees}
use Rattle.sv_ast.specs.Values.{natural, length_of, signed_of, whole_number}
use Rattle.sv_ast.specs.GrammarModules.{place_of}
use Rattle.sv_elab_rules.specs.Names.{Names}
use Rattle.sv_elab_rules.specs.TypedExpressions.{names_signal}

-- an expression's own length and signedness, and whether it names a signal
pub record OwnForm : Type 0 where
  pub width : ℕ
  pub signed : Bool
  pub names_signal : Bool

mutual
  pub data MeasuredTree : Type 0 where
    value : OwnForm → (width value : ℕ) → MeasuredTree
    read : OwnForm → (signal : ℕ) → Place → MeasuredTree
    read_bit : OwnForm → (signal : ℕ) → Place → (index : MeasuredTree) → MeasuredTree
    read_part : OwnForm → (signal : ℕ) → Place → (high low : ℕ) → MeasuredTree
    unary : OwnForm → UnOp → MeasuredTree → MeasuredTree
    -- with the place of the right operand
    binary : OwnForm → BinOp → Place → (left right : MeasuredTree) → MeasuredTree
    choice : OwnForm → Place → (condition first second : MeasuredTree) → MeasuredTree
    join : OwnForm → MeasuredTrees → MeasuredTree
    replication : OwnForm → (count : ℕ) → MeasuredTrees → MeasuredTree

  pub data MeasuredTrees : Type 0 where
    no_parts : MeasuredTrees
    more_parts : MeasuredTree → MeasuredTrees → MeasuredTrees

abbrev pub own_form : MeasuredTree → OwnForm
own_form (value own n v) = own
own_form (read own k p) = own
own_form (read_bit own k p i) = own
own_form (read_part own k p h l) = own
own_form (unary own op e) = own
own_form (binary own op p a b) = own
own_form (choice own p c a b) = own
own_form (join own es) = own
own_form (replication own k es) = own

-- what an expression is by itself
abbrev pub own_of : Names → ExpressionTree → OwnForm
own_of names e = record {
  width = length_of names.scope e;
  signed = signed_of names.scope e;
  names_signal = names_signal names.scope e;
}

abbrev pub measured_name : OwnForm → Option Binding → (number : ℕ) → Place → MeasuredTree
measured_name own (Some (parameter v)) k p = value own v.width v.value
measured_name own (Some (signal width signed)) k p = read own k p
measured_name own None k p = read own k p

unfoldable mutual
  pub measured_of : Names → ExpressionTree → MeasuredTree
  measured_of names (source.literal l p) = value (own_of names (source.literal l p)) l.width l.value
  measured_of names (source.named n p) =
      measured_name (own_of names (source.named n p)) (names.scope n) (names.number n) p
  measured_of names (source.bit_of n p i) =
      read_bit (own_of names (source.bit_of n p i)) (names.number n) p (measured_of names i)
  measured_of names (source.part_of n p h l) =
      read_part (own_of names (source.part_of n p h l)) (names.number n) p
      (natural (whole_number names.scope h)) (natural (whole_number names.scope l))
  measured_of names (source.unary op p e) =
      unary (own_of names (source.unary op p e)) op (measured_of names e)
  measured_of names (source.binary op p a b) =
      binary (own_of names (source.binary op p a b)) op (place_of b) (measured_of names a)
      (measured_of names b)
  measured_of names (source.choice p c a b) = choice (own_of names (source.choice p c a b)) p
      (measured_of names c) (measured_of names a) (measured_of names b)
  measured_of names (source.join p es) =
      join (own_of names (source.join p es)) (measured_parts names es)
  measured_of names (source.replication p k es) =
      replication (own_of names (source.replication p k es))
      (natural (whole_number names.scope k)) (measured_parts names es)

  pub measured_parts : Names → ExpressionTrees → MeasuredTrees
  measured_parts names source.no_expressions = no_parts
  measured_parts names (source.more_expressions e es) =
      more_parts (measured_of names e) (measured_parts names es)
