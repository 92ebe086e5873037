-- Private: how the code goes. How indexed statements are made: a block tells for each target which
-- of its parts assign it, and a branch what it assigns.
use Rattle.std.specs.Prelude.{◌≡◌, ℕ, ◌==◌, ◌-◌, ◌&&◌, ◌||◌, not, if◌then◌else◌, IsTrue, Bool}
use Rattle.std.specs.Prelude.{List, [], ◌∷◌, ◌++◌, map, length, slice_index, All, Contains}
use Rattle.std.specs.BTreeMap.{BTreeMap, keys}
use Rattle.std.specs.Global.{Vec}
use Rattle.std.specs.List.{list_any}
use Rattle.sv_flat.specs.Design.{PieceForm, FlatStatement, after}
use Rattle.sv_flat.specs.Design.{assign, branch}
use Rattle.sv_flat.specs.Views.{typed_tree, chain_of}
use Rattle.sv_flat.specs.Assigned.{assigns}
use Rattle.sv_obl.specs.declared.indexed.Indexed.{Indexed, Row_of-Indexed, end_of-Indexed}
use Rattle.sv_obl.specs.declared.indexed.Indexed.{more_of-Indexed}
use Rattle.sv_obl.specs.declared.indexed.Indexed as indexed
use Rattle.sv_obl.specs.BodySlices.{sliced, in_sequence}
use Rattle.sv_obl.specs.IndexedBodies.{numbers_at, chosen}
use Rattle.sv_obl.specs.Views.{piece_forms}

abbrev mutual
  pub statement_of : Indexed → FlatStatement
  statement_of (indexed.Assign pieces place blocking value) =
      assign (piece_forms pieces.now) place blocking (typed_tree value.now)
  statement_of (indexed.Block' shape row numbers) = chain_of (row_statements row)
  statement_of (indexed.Branch' targets place cond p first q second) =
      branch place (typed_tree cond.now) (statement_of first) (statement_of second)

  -- those of the parts of a block, which stand in it as a row
  pub row_statements : {n : _} → Row_of-Indexed n → List FlatStatement
  row_statements end_of-Indexed = []
  row_statements (more_of-Indexed x row) = statement_of x ∷ row_statements row

-- what an indexed statement tells that it assigns
abbrev pub targets_in : Indexed → List ℕ
targets_in (indexed.Assign pieces place blocking value) =
    map (λ (piece : PieceForm). piece.signal) (piece_forms pieces.now)
targets_in (indexed.Block' shape row numbers) = keys numbers
targets_in (indexed.Branch' targets place cond p first q second) = targets.keys

-- ---- the numbers of parts

-- the number is the last
abbrev pub ends_in : List ℕ → ℕ → Bool
ends_in numbers k =
    not (length numbers == 0) && (slice_index numbers (length numbers - 1) == k)

-- one more at the end, where it is not there yet
abbrev pub with_number : ℕ → List ℕ → List ℕ
with_number k numbers = if ends_in numbers k then numbers else numbers ++ k ∷ []

-- those of a target once a part with some targets is added
abbrev pub numbered : (targets : List ℕ) → (number : ℕ) → (ℕ → List ℕ) → (target : ℕ) → List ℕ
numbered targets k numbers s =
    if list_any (λ t. t == s) targets then with_number k (numbers s) else numbers s

-- two statements assign the target or not alike, and have the same slice for it
pub record GoesFor (s : ℕ) (one other : FlatStatement) : Type 0 where
  pub assigned : assigns one s ≡ assigns other s
  pub parts : (rest : FlatStatement) →
      in_sequence (sliced s one) rest ≡ in_sequence (sliced s other) rest

-- for each target the parts with its numbers go as all
abbrev pub Tells : List FlatStatement → BTreeMap ℕ (Vec ℕ) → Type 0
Tells parts numbers =
    (s : ℕ) → GoesFor s (chain_of parts) (chosen parts (numbers_at numbers s))

-- ---- what is marked

-- all that one of two statements assigns is among some numbers
abbrev pub Covers : List ℕ → (first second : FlatStatement) → Type 0
Covers targets first second =
    (s : ℕ) → IsTrue (assigns first s || assigns second s) → Contains targets s

-- each part tells all that it assigns
abbrev mutual
  pub IsMarked : Indexed → Type 0
  IsMarked (indexed.Assign pieces place blocking value) = Unit {0}
  IsMarked (indexed.Block' shape row numbers) =
      Tells (row_statements row) numbers × AreMarked row
  IsMarked (indexed.Branch' targets place cond p first q second) =
      Covers targets.keys (statement_of first) (statement_of second)
      × IsMarked first × IsMarked second

  pub AreMarked : {n : _} → Row_of-Indexed n → Type 0
  AreMarked end_of-Indexed = Unit {0}
  AreMarked (more_of-Indexed x row) = IsMarked x × AreMarked row

-- two statements assign the same, and have the same slice for every target
pub record Same (one other : FlatStatement) : Type 0 where
  pub assigned : (s : ℕ) → assigns one s ≡ assigns other s
  pub parts : (s : ℕ) (rest : FlatStatement) →
      in_sequence (sliced s one) rest ≡ in_sequence (sliced s other) rest

-- the indexed statement as it is made of a statement
pub record IsMadeOf (statement : FlatStatement) (x : Indexed) : Type 0 where
  pub same : Same statement (statement_of x)
  pub marked : IsMarked x

abbrev pub whole_of : List Indexed → FlatStatement
whole_of xs = chain_of (map statement_of xs)

-- those so far, and then the rest, go as the whole
pub record SoFar (whole rest : FlatStatement) (xs : List Indexed) : Type 0 where
  pub same : Same whole (after (whole_of xs) rest)
  pub marked : All IsMarked xs
