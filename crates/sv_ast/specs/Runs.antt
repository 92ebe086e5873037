-- What a run of a statement does to the signals of its instance (IEEE 1364-2005, clauses 6 and 9).
-- The signals have their values by name.
use Rattle.std.specs.Prelude.{ℕ, max, ◌+◌, ◌*◌, ◌/◌, ◌%◌, ◌^◌, Bool, true, false, ◌==◌, ◌&&◌}
use Rattle.std.specs.Prelude.{if◌then◌else◌, List, [], ◌∷◌, ◌++◌, map, fold}
use Rattle.std.specs.List.{list_any}
use Rattle.std.specs.Str.{bytes_eq}
use Rattle.sv_num.specs.declared.faults.Place.{Place}
use Rattle.sv_num.specs.Vectors.{is_true}
use Rattle.sv_system.specs.System.{Environment, put, last_update}
use Rattle.sv_ast.specs.Scopes.{Scope}
use Rattle.sv_ast.specs.Tree.{ExpressionTree, named, bit_of, part_of, Selection, whole, bit_at}
use Rattle.sv_ast.specs.Tree.{part_from, TargetTree, StatementTree, null, assignment, block}
use Rattle.sv_ast.specs.Tree.{if_only, if_else, case_of, StatementTrees, no_statements}
use Rattle.sv_ast.specs.Tree.{more_statements, ArmTrees, no_arms, more_arms}
use Rattle.sv_ast.specs.Values.{length_of, signed_of, value, own_value, bound_of, assigned_value}

-- the values of an instance's signals, and the updates that are pending, the oldest first
pub record Running : Type 0 where
  pub environment : Environment (List ℕ)
  pub updates : List (List ℕ × ℕ)

-- the value that a name will have after the updates so far
abbrev pub pending : Running → List ℕ → ℕ
pending r n = last_update bytes_eq n (r.environment n) r.updates

-- Targets and their pieces (clauses 6.1.2 and 9.2).

-- the selected bits of a signal, as an expression
abbrev pub selected : List ℕ → Place → Selection → ExpressionTree
selected n p whole = named n p
selected n p (bit_at i) = bit_of n p i
selected n p (part_from h l) = part_of n p h l

-- how many bits a target has: the length of the expression that it is
abbrev pub target_width : Scope → TargetTree → ℕ
target_width scope t = length_of scope (selected t.name t.place t.selection)

-- the bits of all targets together
abbrev pub targets_width : Scope → List TargetTree → ℕ
targets_width scope [] = 0
targets_width scope (t ∷ ts) = target_width scope t + targets_width scope ts

-- each target with its piece of a value: the last target has the lowest bits
abbrev pub pieces : Scope → List TargetTree → (value : ℕ) → List (TargetTree × ℕ)
pieces scope [] v = []
pieces scope (t ∷ ts) v =
    (t, v / 2 ^ targets_width scope ts % 2 ^ target_width scope t) ∷ pieces scope ts v

-- a value with so many bits from `low` up replaced by a piece
abbrev pub with_bits : (low count old piece : ℕ) → ℕ
with_bits low count old piece =
    old % 2 ^ low + piece * 2 ^ low + old / 2 ^ (low + count) * 2 ^ (low + count)

-- a signal's old value with the selected bits, so many, replaced by a piece
abbrev pub replaced : Scope → (count : ℕ) → Selection → (old piece : ℕ) → ℕ
replaced scope count whole old piece = piece
replaced scope count (bit_at i) old piece = with_bits (bound_of scope i) count old piece
replaced scope count (part_from h l) old piece = with_bits (bound_of scope l) count old piece

-- a signal's old value with a target's bits replaced by a piece
abbrev pub with_piece : Scope → TargetTree → (old piece : ℕ) → ℕ
with_piece scope t old piece = replaced scope (target_width scope t) t.selection old piece

-- A blocking assignment puts a piece into its target's bits. A nonblocking one appends an update of
-- the signal: its last pending value, or else its present one, with the target's bits replaced.
abbrev pub assign_piece : Scope → (blocking : Bool) → Running → TargetTree × ℕ → Running
assign_piece scope true r (t, piece) = record {
  environment = put bytes_eq t.name (with_piece scope t (r.environment t.name) piece) r.environment;
  updates = r.updates;
}
assign_piece scope false r (t, piece) = record {
  environment = r.environment;
  updates = r.updates ++ (t.name, with_piece scope t (pending r t.name) piece) ∷ [];
}

-- an assignment: the value of its right side in pieces, put one after the other in textual order
abbrev pub assign : Scope → (blocking : Bool) → List TargetTree → ExpressionTree → Running → Running
assign scope blocking ts e r = fold (assign_piece scope blocking) r
    (pieces scope ts (assigned_value scope r.environment (targets_width scope ts) e))

-- The common type of a case: selector and items are sized to the longest, and signed only if all
-- are (clause 9.5).

-- the greatest length of some items, from what each has by itself
abbrev pub items_length : (own : ExpressionTree → ℕ) → List ExpressionTree → ℕ
items_length own [] = 0
items_length own (e ∷ es) = max (own e) (items_length own es)

-- whether all items are signed
abbrev pub items_signed : (own : ExpressionTree → Bool) → List ExpressionTree → Bool
items_signed own [] = true
items_signed own (e ∷ es) = own e && items_signed own es

-- the greatest length of the items of all arms
abbrev pub arms_length : (own : ExpressionTree → ℕ) → ArmTrees → ℕ
arms_length own no_arms = 0
arms_length own (more_arms p items body arms) = max (items_length own items) (arms_length own arms)

-- whether all items of all arms are signed
abbrev pub arms_signed : (own : ExpressionTree → Bool) → ArmTrees → Bool
arms_signed own no_arms = true
arms_signed own (more_arms p items body arms) = items_signed own items && arms_signed own arms

-- the common length
abbrev pub case_length : Scope → (selector : ExpressionTree) → ArmTrees → ℕ
case_length scope e arms = max (length_of scope e) (arms_length (length_of scope) arms)

-- the common signedness
abbrev pub case_signed : Scope → (selector : ExpressionTree) → ArmTrees → Bool
case_signed scope e arms = signed_of scope e && arms_signed (signed_of scope) arms

-- whether an item has the selector's value at the common length and signedness
abbrev pub has_item : Scope → (environment : Environment (List ℕ)) → (length : ℕ) → (signed : Bool)
    → (selector : ℕ) → List ExpressionTree → Bool
has_item scope environment n s v items =
    list_any (λ (item : ExpressionTree). value scope environment item n s == v) items

-- Runs of statements (clauses 9.2, 9.4, 9.5 and 9.8.1).
unfoldable mutual
  pub run : Scope → StatementTree → Running → Running
  run scope null r = r
  run scope (assignment ts p blocking e) r = assign scope blocking ts e r
  run scope (block ss) r = run_each scope ss r
  run scope (if_only p c first) r =
      if is_true (own_value scope r.environment c) then run scope first r else r
  run scope (if_else p c first second) r =
      if is_true (own_value scope r.environment c) then run scope first r else run scope second r
  run scope (case_of p e arms) r = run_arms scope
      (case_length scope e arms) (case_signed scope e arms)
      (value scope r.environment e (case_length scope e arms) (case_signed scope e arms))
      arms (run_default scope arms r) r

  -- one after the other
  pub run_each : Scope → StatementTrees → Running → Running
  run_each scope no_statements r = r
  run_each scope (more_statements s ss) r = run_each scope ss (run scope s r)

  -- the first arm in textual order with an item of the selector's value, or else what is given
  pub run_arms : Scope → (length : ℕ) → (signed : Bool) → (selector : ℕ) → ArmTrees
      → (otherwise : Running) → Running → Running
  run_arms scope n s v no_arms otherwise r = otherwise
  run_arms scope n s v (more_arms p items body arms) otherwise r =
      if has_item scope r.environment n s v items
      then run scope body r
      else run_arms scope n s v arms otherwise r

  -- the default, or else nothing
  pub run_default : Scope → ArmTrees → Running → Running
  run_default scope no_arms r = r
  run_default scope (more_arms p [] body arms) r = run scope body r
  run_default scope (more_arms p (item ∷ items) body arms) r = run_default scope arms r

-- The names that a statement assigns, in textual order.
abbrev mutual
  pub assigned : StatementTree → List (List ℕ)
  assigned null = []
  assigned (assignment ts p blocking e) = map (λ (t : TargetTree). t.name) ts
  assigned (block ss) = assigned_in ss
  assigned (if_only p c first) = assigned first
  assigned (if_else p c first second) = assigned first ++ assigned second
  assigned (case_of p e arms) = assigned_by arms

  pub assigned_in : StatementTrees → List (List ℕ)
  assigned_in no_statements = []
  assigned_in (more_statements s ss) = assigned s ++ assigned_in ss

  pub assigned_by : ArmTrees → List (List ℕ)
  assigned_by no_arms = []
  assigned_by (more_arms p items body arms) = assigned body ++ assigned_by arms
