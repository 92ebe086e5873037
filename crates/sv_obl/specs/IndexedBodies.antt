-- Bodies in which each part tells what it assigns, so that what does not assign a target is passed
-- over at once: what is looked up in one for a target, and of which body it is.
use Rattle.std.specs.Prelude.{ℕ, if◌then◌else◌, List, [], ◌∷◌, map, get_or, Option, Some, None}
use Rattle.std.specs.BTreeMap.{BTreeMap, get}
use Rattle.std.specs.BTreeSet.{contains}
use Rattle.std.specs.Global.{Vec}
use Rattle.std.specs.List.{AllZip}
use Rattle.std.specs.Ordering.{nat_cmp}
use Rattle.sv_flat.specs.Design.{ProcessForm, FlatStatement, nothing, assign, branch}
use Rattle.sv_flat.specs.Views.{typed_tree, piece_form, chain_of}
use Rattle.sv_obl.specs.declared.indexed.Indexed.{Indexed, Row_of-Indexed, end_of-Indexed}
use Rattle.sv_obl.specs.declared.indexed.Indexed.{more_of-Indexed}
use Rattle.sv_obl.specs.declared.indexed.Indexed as indexed
use Rattle.sv_obl.specs.BodySlices.{sliced, SameParts}

-- the numbers that were found for a target, in order
abbrev pub numbers_found : Option (Vec ℕ) → List ℕ
numbers_found (Some those) = those.items
numbers_found None = []

-- the numbers of the parts of a block that assign a target
abbrev pub numbers_at : BTreeMap ℕ (Vec ℕ) → (target : ℕ) → List ℕ
numbers_at numbers s = numbers_found (get nat_cmp numbers s)

-- the parts with some numbers, one after the other
abbrev pub chosen : List FlatStatement → List ℕ → FlatStatement
chosen parts numbers = chain_of (map (λ k. get_or parts k nothing) numbers)

-- what is looked up for a target: of a block only the parts whose numbers stand there for it, and
-- of a branch nothing where the target is not among its targets
abbrev mutual
  pub looked_up : (target : ℕ) → Indexed → FlatStatement
  looked_up s (indexed.Assign pieces place blocking value) =
      assign (map piece_form pieces.now) place blocking (typed_tree value.now)
  looked_up s (indexed.Block' shape row numbers) =
      chosen (parts_looked_up s row) (numbers_at numbers s)
  looked_up s (indexed.Branch' targets place cond p first q second) =
      if contains nat_cmp targets s
      then branch place (typed_tree cond.now) (looked_up s first) (looked_up s second)
      else nothing

  -- the same of each part of a block
  pub parts_looked_up : {n : _} → (target : ℕ) → Row_of-Indexed n → List FlatStatement
  parts_looked_up s end_of-Indexed = []
  parts_looked_up s (more_of-Indexed x row) = looked_up s x ∷ parts_looked_up s row

-- the indexed statement of a statement: the slice of what is looked up for a target has the parts
-- of the target's slice
abbrev pub IsIndexed : FlatStatement → Indexed → Type 0
IsIndexed statement x = (s : ℕ) → SameParts (sliced s (looked_up s x)) (sliced s statement)

-- the indexed bodies of some processes, in order
abbrev pub AreIndexed : List ProcessForm → List Indexed → Type 0
AreIndexed processes bodies =
    AllZip (λ (process : ProcessForm). IsIndexed process.body) processes bodies
