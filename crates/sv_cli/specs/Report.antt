-- Private: how the code goes. What a fault of reading a text has to be.
use Rattle.std.specs.Prelude.{◌≡◌, ◌⊎◌, ℕ, IsTrue, IsFalse, List, Option, Some}
use Rattle.sv_num.specs.declared.faults.Place.{Place}
use Rattle.sv_num.specs.declared.faults.Fault.{Fault}
use Rattle.sv_num.specs.declared.faults.Fault.TheVariants.{Rule, OutOfMemory}
use Rattle.sv_ast.specs.Tree.{TextTree}
use Rattle.sv_flat.specs.Design.{FlatDesign}
use Rattle.sv_elab_rules.specs.Texts.{flat_of, BreaksRule}
use Rattle.sv_cli.specs.Texts.{has_unbuilt_item, IsNotBuilt}

-- the fault is want of memory, or tells of a rule of which this holds
abbrev pub IsFaultBy : (ℕ → Place → List (List ℕ) → Type 0) → Fault → Type 0
IsFaultBy Holds (Rule r) = Holds r.number r.place r.names.items
IsFaultBy Holds OutOfMemory = Unit {0}

-- The tree has an item that is not built, or this is the rule that its walk breaks first.
abbrev pub BreaksAsTree : (top : Option (List ℕ)) → TextTree → (number : ℕ) → Place →
    (names : List (List ℕ)) → Type 0
BreaksAsTree top tree number place names =
    (IsTrue (has_unbuilt_item tree) × IsNotBuilt number place names)
    ⊎ (IsFalse (has_unbuilt_item tree) × BreaksRule number place names tree top)

-- The tree has no item that is not built, and its walk ends in the flat design.
abbrev pub IsFlatOf : (top : Option (List ℕ)) → TextTree → FlatDesign → Type 0
IsFlatOf top tree design = IsFalse (has_unbuilt_item tree) × (flat_of tree top ≡ Some design)
