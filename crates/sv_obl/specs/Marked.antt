-- Private: how the code goes. Statements in which earlier reads are wanted, as they are made part
-- by part.
use Rattle.std.specs.Prelude.{◌≡◌, ℕ, Bool, true, false, ◌||◌, nat_le, List, [], ◌∷◌, map}
use Rattle.std.specs.List.{list_any}
use Rattle.sv_num.specs.declared.faults.Place.{Place}
use Rattle.sv_flat.specs.Assigned.{can_assign}
use Rattle.sv_flat.specs.Design.{SignalForm, TypedTree, PieceForm, FlatStatement, nothing, after}
use Rattle.sv_flat.specs.Design.{assign, branch}
use Rattle.sv_flat.specs.Readings.{BitSet}
use Rattle.sv_graph.specs.declared.bit_sets.BitSet.{BitSet as Bits}
use Rattle.sv_graph.specs.BitSets.{in_bits}
use Rattle.sv_rules.specs.Phases.{SameBits}
use Rattle.sv_obl.specs.declared.marked.Marked.{Marked}
use Rattle.sv_obl.specs.declared.marked.Marked as marked
use Rattle.sv_obl.specs.BodySlices.{SameParts}
use Rattle.sv_obl.specs.MarkedBodies.{marked_statement, TellsTargets, IsMarkedOf}
use Rattle.sv_obl.specs.Routes.{names_in}
use Rattle.sv_obl.specs.Views.{piece_forms}
use Rattle.sv_obl.specs.Wanted.{marked as marked_as}

-- what it tells that it assigns
abbrev pub targets_in : Marked → List ℕ
targets_in marked.Nothing = []
targets_in (marked.Assign pieces place blocking right) =
    map (λ (piece : PieceForm). piece.signal) (piece_forms pieces.now)
targets_in (marked.Chain' targets p first q second) = targets.keys
targets_in (marked.Branch' targets place cond p first q second) = targets.keys

-- one is two others, one after the other
pub record IsChain (first second whole : Marked) : Type 0 where
  pub statement_is :
      marked_statement whole ≡ after (marked_statement first) (marked_statement second)
  pub tells : TellsTargets first → TellsTargets second → TellsTargets whole

-- one is the branch of two others
pub record IsBranch (place : Place) (condition : TypedTree) (yes no whole : Marked) : Type 0 where
  pub statement_is :
      marked_statement whole ≡ branch place condition (marked_statement yes) (marked_statement no)
  pub tells : TellsTargets yes → TellsTargets no → TellsTargets whole

-- ---- copies

-- a name in the expression is that of a copy, where there are so many signals
abbrev pub names_copy : (count : ℕ) → TypedTree → Bool
names_copy count e = list_any (nat_le count) (names_in [] e)

-- a name in the statement is
abbrev pub has_copy : (count : ℕ) → FlatStatement → Bool
has_copy count nothing = false
has_copy count (after first second) = has_copy count first || has_copy count second
has_copy count (assign pieces place blocking right) = names_copy count right
has_copy count (branch place condition first second) =
    names_copy count condition || has_copy count first || has_copy count second

-- the statement as it is marked where some bits can be assigned later, with those that it can
-- assign itself
pub record IsMarking (signals : List SignalForm) (later : BitSet) (statement : FlatStatement)
    (x : Marked) (set : Bits) : Type 0 where
  pub is_marked : IsMarkedOf (marked_as signals true statement later) x
  pub has_bits : SameBits (in_bits set) (can_assign statement)

-- ---- blocks

-- some one after the other, of which the last in the list comes first in the text
abbrev pub stacked : List Marked → FlatStatement
stacked [] = nothing
stacked (x ∷ xs) = after (stacked xs) (marked_statement x)

abbrev pub AllTell : List Marked → Type 0
AllTell [] = Unit {0}
AllTell (x ∷ xs) = TellsTargets x × AllTell xs

-- some have the parts of others and, before those, of one more
pub record EndsIn (all front : List Marked) (last : Marked) : Type 0 where
  pub parts : SameParts (stacked all) (after (marked_statement last) (stacked front))
  pub tells : AllTell all → AllTell front × TellsTargets last
