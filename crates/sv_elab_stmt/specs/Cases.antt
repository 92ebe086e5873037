-- Private: how the code goes. What the code holds of the items of a case before their turn comes
-- (IEEE 1364-2005, clause 9.5).
use Rattle.std.specs.Prelude.{◌≡◌, ℕ, ◌^◌, ◌<◌, Bool, ◌==◌, ◌&&◌, true, false, max, List, [], ◌∷◌}
use Rattle.std.specs.Prelude.{map, length, slice_index_or, MatchOption, Result, Ok, Err}
use Rattle.std.specs.Option.{option_map_or}
use Rattle.std.specs.List.{list_any}
use Rattle.sv_ast.specs.Tree.{ExpressionTree}
use Rattle.sv_ast.specs.Values.{nowhere, value}
use Rattle.sv_ast.specs.Views.{expression_tree}
use Rattle.sv_num.specs.Parts.{extended}
use Rattle.sv_elab_rules.specs.Walks.{WalkStep, Steps, ◌>>=◌}
use Rattle.sv_flat.specs.Design.{TypedTree}
use Rattle.sv_elab_rules.specs.Names.{Names}
use Rattle.sv_elab_rules.specs.TypedExpressions.{typed_of}
use Rattle.sv_elab_rules.specs.ExpressionSteps.{asked, divisors}
use Rattle.sv_width.specs.Operands.{IsOperandOf, own_width, own_signed}
use Rattle.sv_elab_stmt.specs.declared.cases.CaseItem.{CaseItem}

-- the expression that an item is
abbrev pub item_tree : CaseItem → ExpressionTree
item_tree i = expression_tree i.expr.now

abbrev pub item_trees : List CaseItem → List ExpressionTree
item_trees items = map item_tree items

-- a walk is broken
abbrev pub IsBroken : {X : Type 0} → Result X WalkStep → Type 0
IsBroken end = (s : WalkStep) × (end ≡ Err s)

-- an item has an operand just where it breaks no rule of the first walk
abbrev pub IsItem : Names → CaseItem → Type 0
IsItem names i =
    MatchOption i.operand (IsBroken (asked names true (item_tree i)).end)
    (IsOperandOf names true (item_tree i))

abbrev pub AreItems : Names → List CaseItem → Type 0
AreItems names [] = Unit {0}
AreItems names (i ∷ items) = IsItem names i × AreItems names items

-- what an item is asked at the type of its case
abbrev pub item_steps : Names → (length : ℕ) → (signed : Bool) → ExpressionTree → Steps
item_steps names n s e = do
  _ ← asked names true e
  divisors names.scope e n s

-- an item breaks no rule at the type of its case
abbrev pub IsPassed : Names → (length : ℕ) → (signed : Bool) → ExpressionTree → Type 0
IsPassed names n s e =
    ((asked names true e).end ≡ Ok tt) × ((divisors names.scope e n s).end ≡ Ok tt)

-- the typed form of such an item
abbrev pub IsTypedItem : Names → (length : ℕ) → (signed : Bool) → ExpressionTree →
    TypedTree → Type 0
IsTypedItem names n s e f = IsPassed names n s e × (f ≡ typed_of names e n s)

abbrev pub ArePassed : Names → (length : ℕ) → (signed : Bool) → List ExpressionTree → Type 0
ArePassed names n s [] = Unit {0}
ArePassed names n s (e ∷ es) = IsPassed names n s e × ArePassed names n s es

-- the values of items at the type of their case
abbrev pub values_of : Names → (length : ℕ) → (signed : Bool) → List ExpressionTree → List ℕ
values_of names n s es = map (λ e. value names.scope nowhere e n s) es

-- whether one of some values is that of so many bits at a common length and signedness
abbrev pub is_held : (own length : ℕ) → (signed : Bool) → (values : List ℕ) → ℕ → Bool
is_held own n s values v = list_any (λ item. item == extended s own n v) values

-- an item's own length; one that breaks a rule has none
abbrev pub own_length : CaseItem → ℕ
own_length i = option_map_or own_width i.operand 0

-- whether it is signed by itself; one that breaks a rule changes no signedness
abbrev pub is_signed : CaseItem → Bool
is_signed i = option_map_or own_signed i.operand true

-- the greatest of the own lengths
abbrev pub greatest : List CaseItem → ℕ
greatest [] = 0
greatest (i ∷ items) = max (own_length i) (greatest items)

abbrev pub all_signed : List CaseItem → Bool
all_signed [] = true
all_signed (i ∷ items) = is_signed i && all_signed items

-- for each value of so many bits, in order, whether some values hold it
abbrev pub AreHeld : (own length : ℕ) → (signed : Bool) → (values : List ℕ) → List Bool → Type 0
AreHeld own n s values held = (length held ≡ 2 ^ own)
    × ((v : ℕ) → v < 2 ^ own → slice_index_or held v false ≡ is_held own n s values v)
