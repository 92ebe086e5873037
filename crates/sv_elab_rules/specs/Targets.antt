-- What an assignment changes: its targets from left to right, and the bits of the right side that
-- each of them gets (IEEE 1364-2005, clauses 6.1 and 9.2; targets are constant bits and parts in
-- this project's profile).
use Rattle.std.specs.Prelude.{ℕ, ◌-◌, Bool, List, [], ◌∷◌, nat_le}
use Rattle.sv_num.specs.declared.faults.Place.{Place}
use Rattle.sv_ast.specs.Scopes.{Scope, width_of}
use Rattle.sv_ast.specs.Tree.{ExpressionTree, Selection, whole, bit_at, part_from, TargetTree}
use Rattle.sv_ast.specs.Values.{natural, whole_number}
use Rattle.sv_ast.specs.Runs.{targets_width}
use Rattle.sv_flat.specs.Design.{PieceForm, FlatStatement, assign}
use Rattle.sv_ast.specs.Instances.{is_signal}
use Rattle.sv_ast.specs.GrammarModules.{place_of}
use Rattle.sv_elab_rules.specs.Walks.{Walk, Steps, done, ask, each, ◌>>=◌}
use Rattle.sv_elab_rules.specs.Rules.{unknown_name, too_wide, bad_select}
use Rattle.sv_elab_rules.specs.Names.{Names}
use Rattle.sv_elab_rules.specs.ExpressionSteps.{is_below, is_part, constant_walk, expression_walk}

-- the highest and the lowest bit that a selection takes from a signal of some bits
abbrev pub highest : Scope → (width : ℕ) → Selection → ℕ
highest scope width whole = width - 1
highest scope width (bit_at i) = natural (whole_number scope i)
highest scope width (part_from h l) = natural (whole_number scope h)

abbrev pub lowest : Scope → Selection → ℕ
lowest scope whole = 0
lowest scope (bit_at i) = natural (whole_number scope i)
lowest scope (part_from h l) = natural (whole_number scope l)

-- an index is a constant inside the signal, and so is each bound of a part
unfoldable pub selection_steps : Names → (name : List ℕ) → Place → Selection → Steps
selection_steps names n p whole = done tt
selection_steps names n p (bit_at i) = do
  _ ← constant_walk names i
  ask (is_below (width_of (names.scope n)) (whole_number names.scope i)) (bad_select (place_of i))
selection_steps names n p (part_from h l) = do
  _ ← constant_walk names h
  _ ← constant_walk names l
  ask (is_part (width_of (names.scope n)) (whole_number names.scope h) (whole_number names.scope l))
      (bad_select p)

-- a target is a signal
unfoldable pub target_steps : Names → TargetTree → Steps
target_steps names t = do
  _ ← ask (is_signal (names.scope t.name)) (unknown_name t.place t.name)
  selection_steps names t.name t.place t.selection

-- all targets, then the sum of their lengths; `place` is that of the first
unfoldable pub targets_steps : Names → List TargetTree → (place : Place) → Steps
targets_steps names ts place = do
  _ ← each (target_steps names) ts
  ask (nat_le (targets_width names.scope ts) 64) (too_wide place)

-- the last target gets the lowest bits
abbrev pub pieces_of : Names → List TargetTree → List PieceForm
pieces_of names [] = []
pieces_of names (t ∷ ts) = (record {
  signal = names.number t.name;
  place = t.place;
  high = highest names.scope (width_of (names.scope t.name)) t.selection;
  low = lowest names.scope t.selection;
  from = targets_width names.scope ts;
}) ∷ pieces_of names ts

-- an assignment: its targets, then its right side
unfoldable pub assignment_walk : Names → List TargetTree → Place → (blocking : Bool)
    → ExpressionTree
    → Walk FlatStatement
assignment_walk names ts place blocking e = do
  _ ← targets_steps names ts place
  value ← expression_walk names e (targets_width names.scope ts)
  done (assign (pieces_of names ts) place blocking value)
