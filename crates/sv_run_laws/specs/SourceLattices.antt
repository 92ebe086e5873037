-- What the lattice of a text is where it breaks none of the rules on it, in the source's own words
-- (SecVerilog, ASPLOS 2015).
use Rattle.std.specs.Prelude.{◌≡◌, ℕ, ◌↔◌, IsTrue, List, Contains, Some, Ok}
use Rattle.std.specs.List.{slice_get}
use Rattle.sv_lattice.specs.Tables.{flow_test}
use Rattle.sv_ast.specs.SourceLabels.{points, Flows, flows, least, PointsAreLattice}
use Rattle.sv_ast.specs.Tree.{TextTree}
use Rattle.sv_flat.specs.Design.{FlatDesign}
use Rattle.sv_elab_rules.specs.Lattices.{PointOrder, lattice_walk}

-- the text breaks none of the rules on its lattice, 301 to 305
abbrev pub PassesLattice : TextTree → Type 0
PassesLattice text = (order : PointOrder) × ((lattice_walk text.lattice).end ≡ Ok order)

-- the test of flows means that declared pairs lead from the one point to the other
abbrev pub FlowsAreByPairs : TextTree → Type 0
FlowsAreByPairs text = (a b : List ℕ) → IsTrue (flows text a b) ↔ Flows text a b

-- the point flows to all
pub record IsLeast (text : TextTree) (a : List ℕ) : Type 0 where
  pub is_point : Contains (points text) a
  pub to_all : (b : List ℕ) → Contains (points text) b → Flows text a b

-- what holds of a lattice that passes
pub record IsSourceLattice (text : TextTree) : Type 0 where
  pub by_pairs : FlowsAreByPairs text
  pub lattice : PointsAreLattice text
  pub least_is : IsLeast text (least text)

-- the table of a flat design says of the numbers of two points what the text says of the points
abbrev pub FlowsAreOfText : TextTree → FlatDesign → Type 0
FlowsAreOfText text design = (i j : ℕ) (a b : List ℕ)
    → slice_get (points text) i ≡ Some a → slice_get (points text) j ≡ Some b
    → flow_test design.lattice i j ≡ flows text a b
