-- Which texts the laws of flattening speak of.
use Rattle.std.specs.Prelude.{IsTrue, Contains}
use Rattle.sv_ast.specs.Tree.{ItemTree, released, always_item, ModuleTree, TextTree}
use Rattle.sv_ast.specs.Shape.{is_shaped}
use Rattle.sv_elab_laws.specs.Numbers.{SelectorsFit}
use Rattle.sv_width.specs.WrittenLengths.{TextHasLengths}

-- the item releases no value: such texts are refused before the walk
abbrev pub ReleasesNothing : ItemTree → Type 0
ReleasesNothing (released target e to) = ⊥
ReleasesNothing _ = Unit {0}

-- the selectors of cases in an `always` write numbers that fit their lengths
abbrev pub ItemNumbersFit : ItemTree → Type 0
ItemNumbersFit (always_item p clock s) = SelectorsFit s
ItemNumbersFit _ = Unit {0}

-- each item of each module has the property
abbrev pub EachItem : (ItemTree → Type 0) → TextTree → Type 0
EachItem P text = (m : ModuleTree) → Contains text.modules m
    → (item : ItemTree) → Contains m.items item → P item

-- A text whose meaning under each top is that of the flat design that the walk makes of it.
pub record CanBeFlattened (text : TextTree) : Type 0 where
  pub shaped : IsTrue (is_shaped text)
  pub releases : EachItem ReleasesNothing text
  pub numbers : EachItem ItemNumbersFit text
  pub lengths : TextHasLengths text
