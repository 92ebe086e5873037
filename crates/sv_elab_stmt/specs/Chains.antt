-- Private: how the code goes. The chain of a case as the code builds it, from the last arm to the
-- first (IEEE 1364-2005, clause 9.5).
use Rattle.std.specs.Prelude.{ℕ, Bool, false, not, List, [], ◌∷◌, map, Option, Some, None}
use Rattle.sv_num.specs.declared.operators.BinOp.TheVariants.{LogicOr}
use Rattle.sv_ast.specs.Instances.{is_empty}
use Rattle.sv_ast.specs.Views.{ArmTree}
use Rattle.sv_flat.specs.Design.{TypedTree, typed, binary, FlatStatement, nothing}
use Rattle.sv_flat.specs.Views.{typed_trees, flat_statement}
use Rattle.sv_elab_rules.specs.Walks.{Walk, done, ◌>>=◌}
use Rattle.sv_elab_rules.specs.Names.{Names}
use Rattle.sv_elab_rules.specs.CaseChains as walk
use Rattle.sv_elab_rules.specs.CaseChains.{equals, or_equals}
use Rattle.sv_elab_rules.specs.Statements.{items_walk, statement_walk}
use Rattle.sv_elab_stmt.specs.declared.chains.FlatArm.{FlatArm}

-- the plain form of an arm
abbrev pub flat_arm : FlatArm → walk.FlatArm
flat_arm arm = record {
  place = arm.place;
  items = typed_trees arm.items.items;
  body = flat_statement arm.body;
}

abbrev pub flat_arms : List FlatArm → List walk.FlatArm
flat_arms arms = map flat_arm arms

-- an arm is no default
abbrev pub has_items : walk.FlatArm → Bool
has_items arm = not (is_empty arm.items)

-- one more test beside an earlier one
abbrev pub either : (before : Option TypedTree) → TypedTree → TypedTree
either None e = e
either (Some before) e = typed 1 false (binary LogicOr before e)

-- the selector equals one of the items, if there are any
abbrev pub condition_of : (selector : TypedTree) → List TypedTree → Option TypedTree
condition_of s [] = None
condition_of s (e ∷ es) = Some (or_equals s (equals s e) es)

-- what is done where no other arm is taken
abbrev pub otherwise_of : Option walk.FlatArm → FlatStatement
otherwise_of None = nothing
otherwise_of (Some arm) = arm.body

-- one arm: its items at the common length and signedness, then its statement
unfoldable pub arm_walk : Names → (length : ℕ) → (signed : Bool) → ArmTree → Walk walk.FlatArm
arm_walk names n s arm = do
  items ← items_walk names n s arm.items
  body ← statement_walk names arm.body
  done (record { place = arm.place; items = items; body = body })
