-- A case as a chain of `if`: the first arm with an item equal to the selector is taken (IEEE
-- 1364-2005, clause 9.5). Selector and items stand at one length and signedness.
use Rattle.std.specs.Prelude.{ℕ, max, ◌^◌, Bool, true, false, not, ◌&&◌, ◌||◌, ◌==◌, nat_le, List}
use Rattle.std.specs.Prelude.{[], ◌∷◌, ◌++◌, Option, Some, None, map, if◌then◌else◌}
use Rattle.std.specs.List.{list_all, list_any, range_with_len}
use Rattle.sv_num.specs.declared.faults.Place.{Place}
use Rattle.sv_num.specs.declared.operators.UnOp.TheVariants.{Plus}
use Rattle.sv_num.specs.declared.operators.BinOp.{BinOp}
use Rattle.sv_num.specs.declared.operators.BinOp.TheVariants.{Eq, And, Or, Xor, LogicOr, Shr}
use Rattle.sv_num.specs.declared.operators.BinOp.TheVariants.{SignShr}
use Rattle.sv_num.specs.declared.operators.UnOp.{UnOp}
use Rattle.sv_num.specs.declared.operators.OpClass.{OpClass}
use Rattle.sv_num.specs.declared.operators.OpClass.TheVariants.{Context, Compare, Logical, Shift}
use Rattle.sv_num.specs.UnaryValues.{gives_one_bit}
use Rattle.sv_num.specs.BinaryValues.{class_of}
use Rattle.sv_ast.specs.Scopes.{Scope}
use Rattle.sv_ast.specs.Tree.{ExpressionTree, literal, named, bit_of, part_of, unary, binary}
use Rattle.sv_ast.specs.Tree.{choice, join, replication, ArmTrees, no_arms, more_arms}
use Rattle.sv_ast.specs.Instances.{is_empty}
use Rattle.sv_ast.specs.Runs.{items_length as greatest_of_items, items_signed as all_items_signed}
use Rattle.sv_ast.specs.Runs.{arms_length as greatest_of_arms, arms_signed as all_arms_signed}
use Rattle.sv_num.specs.Parts.{extended}
use Rattle.sv_ast.specs.Values.{nowhere, length_of, signed_of, value}
use Rattle.sv_flat.specs.Design.{TypedTree, typed, binary as binary_node, FlatStatement, nothing}
use Rattle.sv_flat.specs.Design.{branch}
use Rattle.sv_elab_rules.specs.Walks.{value_or, ◌>>=◌, done}
use Rattle.sv_elab_rules.specs.Names.{Names}
use Rattle.sv_elab_rules.specs.ExpressionSteps.{asked}

-- the items of all arms, in textual order
abbrev pub arm_items : ArmTrees → List ExpressionTree
arm_items no_arms = []
arm_items (more_arms p items body arms) = items ++ arm_items arms

-- The common type of a case, worked out before its arms are walked: an item that breaks a rule has
-- no length, and changes no signedness.

unfoldable pub item_length : Names → ExpressionTree → ℕ
item_length names e = value_or ((asked names true e >>= λ _. done (length_of names.scope e)).end) 0

unfoldable pub item_signed : Names → ExpressionTree → Bool
item_signed names e = value_or ((asked names true e >>= λ _. done
    (signed_of names.scope e)).end) true

-- the greatest length of some items
abbrev pub items_length : Names → List ExpressionTree → ℕ
items_length names items = greatest_of_items (item_length names) items

-- signed only if all of them are
abbrev pub items_signed : Names → List ExpressionTree → Bool
items_signed names items = all_items_signed (item_signed names) items

abbrev pub arms_length : Names → ArmTrees → ℕ
arms_length names arms = greatest_of_arms (item_length names) arms

abbrev pub arms_signed : Names → ArmTrees → Bool
arms_signed names arms = all_arms_signed (item_signed names) arms

-- selector and items stand at the greatest of their lengths, and are signed only if all are
abbrev pub common_length : Names → (selector : ExpressionTree) → ArmTrees → ℕ
common_length names e arms = max (length_of names.scope e) (arms_length names arms)

abbrev pub common_signed : Names → (selector : ExpressionTree) → ArmTrees → Bool
common_signed names e arms = signed_of names.scope e && arms_signed names arms

-- an arm with its items and its statement in typed form
pub record FlatArm : Type 0 where
  pub place : Place
  pub items : List TypedTree
  pub body : FlatStatement

-- the selector equals the item
abbrev pub equals : (selector item : TypedTree) → TypedTree
equals s e = typed 1 false (binary_node Eq s e)

-- or one of the next items, from left to right
abbrev pub or_equals : (selector : TypedTree) → (before : TypedTree) → List TypedTree → TypedTree
or_equals s before [] = before
or_equals s before (e ∷ es) =
    or_equals s (typed 1 false (binary_node LogicOr before (equals s e))) es

-- an arm is taken before the rest where the selector equals one of its items
abbrev pub arm_branch : (selector : TypedTree) → Place → List TypedTree
    → (body rest : FlatStatement)
    → FlatStatement
arm_branch s p [] body rest = rest
arm_branch s p (e ∷ es) body rest = branch p (or_equals s (equals s e) es) body rest

-- the arms, and what else is done
abbrev pub chain : (selector : TypedTree) → List FlatArm → (otherwise : FlatStatement) →
    FlatStatement
chain s [] otherwise = otherwise
chain s (arm ∷ arms) otherwise = arm_branch s arm.place arm.items arm.body (chain s arms otherwise)

-- the arms, of which the last is the default
abbrev pub closed_chain : (selector : TypedTree) → List FlatArm → FlatStatement
closed_chain s [] = nothing
closed_chain s (arm ∷ []) = arm.body
closed_chain s (arm ∷ next ∷ arms) =
    arm_branch s arm.place arm.items arm.body (closed_chain s (next ∷ arms))

-- the statement of the default, the arm without items
abbrev pub default_of : List FlatArm → Option FlatStatement
default_of [] = None
default_of (arm ∷ arms) = if is_empty arm.items then Some arm.body else default_of arms

-- the chain of a case, where `complete` says whether its items leave no value of the selector out
abbrev pub case_chain : (selector : TypedTree) → (complete : Bool) → List FlatArm
    → (default : Option FlatStatement) → FlatStatement
case_chain s complete arms (Some otherwise) = chain s arms otherwise
case_chain s true arms None = closed_chain s arms
case_chain s false arms None = chain s arms nothing

-- Complete cases (this project's profile).

-- whether an operator gives no more bits than its operands have, at a greater length too
abbrev pub keeps_bits : BinOp → Bool
keeps_bits And = true
keeps_bits Or = true
keeps_bits Xor = true
keeps_bits _ = false

-- whether a shift moves bits down
abbrev pub moves_down : BinOp → Bool
moves_down Shr = true
moves_down SignShr = true
moves_down _ = false

abbrev pub keeps_operand : UnOp → Bool
keeps_operand Plus = true
keeps_operand _ = false

-- whether an expression has only the values of its own bits, also at a greater length; it does not
-- where a carry can pass them
unfoldable pub keeps_length : (signed : Bool) → ExpressionTree → Bool
keeps_length signed (literal l p) = true
keeps_length signed (named n p) = true
keeps_length signed (bit_of n p i) = true
keeps_length signed (part_of n p h l) = true
keeps_length signed (unary op p e) = gives_one_bit op || keeps_operand op && keeps_length signed e
keeps_length signed (binary op p a b) =
    of_class (class_of op) (keeps_length signed a) (keeps_length signed b)
  where
    of_class : OpClass → (left right : Bool) → Bool
    of_class Context left right = keeps_bits op && left && right
    of_class Compare left right = true
    of_class Logical left right = true
    of_class Shift left right = moves_down op && not signed && left
keeps_length signed (choice p c a b) = keeps_length signed a && keeps_length signed b
keeps_length signed (join p es) = true
keeps_length signed (replication p k es) = true

-- the numbers below a limit, in order
abbrev pub numbers_below : ℕ → List ℕ
numbers_below n = range_with_len 0 n

-- whether the values have each value of so many bits, at a common length and signedness
abbrev pub cover : (own length : ℕ) → (signed : Bool) → (values : List ℕ) → Bool
cover own n s values =
    list_all (λ v. list_any (λ item. item == extended s own n v) values) (numbers_below (2 ^ own))

-- whether a selector has the values of at most 8 bits, also at the common length and signedness
abbrev pub has_few_values : Scope → (selector : ExpressionTree) → (length : ℕ) →
    (signed : Bool) → Bool
has_few_values scope e n s =
    nat_le (length_of scope e) 8 && (nat_le n (length_of scope e) || keeps_length s e)

-- whether the items leave no value of the selector out: it has few, and they hold each of them
unfoldable pub is_complete : Scope → (selector : ExpressionTree) → (items : List ExpressionTree)
    → (length : ℕ) → (signed : Bool) → Bool
is_complete scope e items n s = elim (has_few_values scope e n s) [
  | true ↦ cover (length_of scope e) n s (map (λ item. value scope nowhere item n s) items)
  | false ↦ false
]
