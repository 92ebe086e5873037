-- Private: how the code goes. What its steps find; the meaning stands in `asked` and `divisors` of
-- sv_elab_rules/specs/ExpressionSteps.antt.
use Rattle.std.specs.Prelude.{◌≡◌, ℕ, Bool, true, false, not, ◌||◌, ◌==◌, List}
use Rattle.std.specs.Prelude.{if◌then◌else◌, ℤ, max, nat_le, ◌&&◌, ◌*◌, Ok}
use Rattle.sv_num.specs.declared.faults.Place.{Place}
use Rattle.sv_num.specs.declared.operators.UnOp.{UnOp}
use Rattle.sv_num.specs.declared.operators.BinOp.{BinOp}
use Rattle.sv_num.specs.declared.vectors.Bits.{Bits}
use Rattle.sv_num.specs.Vectors.{width_of, is_signed, value_of}
use Rattle.sv_num.specs.UnaryValues.{gives_one_bit}
use Rattle.sv_num.specs.BinaryValues.{class_of, is_division}
use Rattle.sv_ast.specs.Tree.{ExpressionTree, ExpressionTrees}
use Rattle.sv_ast.specs.Values.{natural, binary_length, binary_signed, constant_of, whole_number}
use Rattle.sv_ast.specs.GrammarModules.{place_of}
use Rattle.sv_flat.specs.Design.{typed}
use Rattle.sv_flat.specs.declared.expressions.FExpr.{FExpr}
use Rattle.sv_flat.specs.declared.expressions.FNode.{FNode}
use Rattle.sv_flat.specs.Views.{typed_tree, node_tree}
use Rattle.sv_elab_rules.specs.Walks.{Steps, done, ask, ◌>>=◌}
use Rattle.sv_elab_rules.specs.Rules.{bad_select, too_wide, zero_divisor, division, bad_count}
use Rattle.sv_elab_rules.specs.Names.{Names}
use Rattle.sv_elab_rules.specs.TypedExpressions.{names_signal}
use Rattle.sv_elab_rules.specs.ExpressionSteps.{asked, asked_parts, own_divisors, sized_parts, is_below}
use Rattle.sv_elab_rules.specs.ExpressionSteps.{is_count}
use Rattle.sv_width.specs.declared.measured.Measured.{Measured}
use Rattle.sv_width.specs.Scopes.{number_of}
use Rattle.sv_width.specs.Measured.{OwnForm, MeasuredTree, MeasuredTrees, no_parts, more_parts}
use Rattle.sv_width.specs.Measured.{own_form, measured_of, measured_parts}
use Rattle.sv_width.specs.Pushed.{joined_width, folded_of, divisors_of, node_of}
use Rattle.sv_width.specs.Views.{measured_tree, measured_trees, parts_of}

-- an expression that is asked in vain, measured
abbrev pub IsMeasure : Names → (constant : Bool) → ExpressionTree → Measured → Type 0
IsMeasure names c e m = ((asked names c e).end ≡ Ok tt) × (measured_tree m ≡ measured_of names e)

abbrev pub AreMeasures : Names → (constant : Bool) → ExpressionTrees → List Measured → Type 0
AreMeasures names c es ms =
    ((asked_parts names c es).end ≡ Ok tt)
    × (parts_of (measured_trees ms) ≡ measured_parts names es)

-- a value that is worked out at a length and signedness
abbrev pub IsFolded : MeasuredTree → (n : ℕ) → (s : Bool) → Bits → Type 0
IsFolded t n s bits = ((divisors_of t n s).end ≡ Ok tt)
    × (width_of bits ≡ n) × (is_signed bits ≡ s) × (value_of bits ≡ folded_of t n s)

-- a typed form at a length and signedness
abbrev pub IsPushed : MeasuredTree → (n : ℕ) → (s : Bool) → FExpr → Type 0
IsPushed t n s f = ((divisors_of t n s).end ≡ Ok tt) × (typed_tree f ≡ typed n s (node_of t n s))

-- likewise what it is made of
abbrev pub IsNode : MeasuredTree → (n : ℕ) → (s : Bool) → FNode → Type 0
IsNode t n s f = ((divisors_of t n s).end ≡ Ok tt) × (node_tree f ≡ node_of t n s)

-- a constant that breaks no rule, with its value
abbrev pub IsValue : Names → ExpressionTree → Bits → Type 0
IsValue names e bits =
    ((asked names true e).end ≡ Ok tt) × ((own_divisors names.scope e).end ≡ Ok tt)
    × (number_of bits ≡ constant_of names.scope e)

-- what a constant is asked
abbrev pub constant_steps : Names → ExpressionTree → Steps
constant_steps names e = do
  _ ← asked names true e
  own_divisors names.scope e

-- an index of a signal of so many bits
abbrev pub constant_index_steps : Names → (width : ℕ) → ExpressionTree → Steps
constant_index_steps names width i = do
  _ ← asked names true i
  _ ← own_divisors names.scope i
  ask (is_below width (whole_number names.scope i)) (bad_select (place_of i))

abbrev pub index_steps : Names → (width : ℕ) → ExpressionTree → Steps
index_steps names width i = elim (names_signal names.scope i) [
  | true ↦ asked names false i
  | false ↦ constant_index_steps names width i
]

abbrev pub some_named : MeasuredTrees → Bool
some_named no_parts = false
some_named (more_parts e es) = (own_form e).names_signal || some_named es

-- what operators are by themselves, from their operands

abbrev pub unary_own : UnOp → MeasuredTree → OwnForm
unary_own op e = record {
  width = if gives_one_bit op then 1 else (own_form e).width;
  signed = if gives_one_bit op then false else (own_form e).signed;
  names_signal = (own_form e).names_signal;
}

abbrev pub binary_own : BinOp → MeasuredTree → MeasuredTree → OwnForm
binary_own op a b = record {
  width = binary_length (class_of op) (own_form a).width (own_form b).width;
  signed = binary_signed (class_of op) (own_form a).signed (own_form b).signed;
  names_signal = (own_form a).names_signal || (own_form b).names_signal;
}

abbrev pub choice_own : MeasuredTree → MeasuredTree → MeasuredTree → OwnForm
choice_own c a b = record {
  width = max (own_form a).width (own_form b).width;
  signed = (own_form a).signed && (own_form b).signed;
  names_signal =
      (own_form c).names_signal || (own_form a).names_signal || (own_form b).names_signal;
}

abbrev pub join_own : (width : ℕ) → MeasuredTrees → OwnForm
join_own width es = record { width = width; signed = false; names_signal = some_named es }

-- what they are asked

abbrev pub division_steps : BinOp → Place → MeasuredTree → MeasuredTree → Steps
division_steps op place a b = elim (is_division op) [
  | true ↦ ask (not ((own_form a).names_signal || (own_form b).names_signal)) (division place)
  | false ↦ done tt
]

abbrev pub zero_steps : BinOp → Place → (divisor : ℕ) → Steps
zero_steps op place v = elim (is_division op) [
  | true ↦ ask (not (v == 0)) (zero_divisor place)
  | false ↦ done tt
]

abbrev pub join_steps : Place → ExpressionTrees → MeasuredTrees → Steps
join_steps place parts es = do
  _ ← ask (nat_le (joined_width es) 64) (too_wide place)
  sized_parts parts

abbrev pub replication_steps : Place → (at : Place) → (count : ℤ) → ExpressionTrees →
    MeasuredTrees → Steps
replication_steps place at count parts es = do
  _ ← ask (nat_le (natural count * joined_width es) 64) (too_wide place)
  _ ← sized_parts parts
  ask (is_count count) (bad_count at)
