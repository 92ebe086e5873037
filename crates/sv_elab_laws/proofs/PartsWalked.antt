-- What the walk of a text that stands for a flat design has gone through: its lattice, its label
-- maps, and its top with all that is inside it.
use Rattle.std.proofs.Common.{◌≡◌, ℕ, List, [], Option, Some, ap}
use Rattle.std.specs.Prelude.{Result, Ok, Err}
use Rattle.sv_lattice.specs.Maps.{MapRows}
use Rattle.sv_ast.specs.Tree.{ModuleTree, TextTree}
use Rattle.sv_ast.specs.Instances.{top_module}
use Rattle.sv_flat.specs.Design.{FlatDesign}
use Rattle.sv_elab_rules.specs.Walks.{WalkStep, found}
use Rattle.sv_elab_rules.specs.Rules.{no_top}
use Rattle.sv_elab_rules.specs.Lattices.{PointOrder, lattice_walk}
use Rattle.sv_elab_rules.specs.LabelMaps.{maps_walk}
use Rattle.sv_elab_rules.specs.InstanceSteps.{Built}
use Rattle.sv_elab_rules.specs.Texts.{module_names, top_walk, tables_of, design_of, walk_of}
use Rattle.sv_elab_rules.specs.Texts.{value_in, flat_of}
use Rattle.sv_elab_rules.proofs.WalkLemmas.{parts_done, found_some}
use Rattle.sv_elab_laws.proofs.PartsDeclared.{same_ok}

value_is : {X : Type 0} (r : Result X WalkStep) (x : X) → value_in r ≡ Some x → r ≡ Ok x
value_is (Ok y) x h = ap Ok (let e : y ≡ x = cc h in e)
value_is (Err s) x h = absurd (cc h)

pub record Walked (text : TextTree) (top : Option (List ℕ)) (design : FlatDesign) : Type 0 where
  pub order : PointOrder
  pub lattice : (lattice_walk text.lattice).end ≡ Ok order
  pub maps : List (List ℕ × MapRows)
  pub maps_walked : (maps_walk order.points [] text.maps).end ≡ Ok maps
  pub master : ModuleTree
  pub is_top : top_module text.modules top ≡ Some master
  pub built : Built
  pub top_walked : (top_walk (tables_of text.modules order maps) master).end ≡ Ok built
  pub is : design_of order (tables_of text.modules order maps) built ≡ design

pub walked_text : (text : TextTree) (top : Option (List ℕ)) (design : FlatDesign)
    → flat_of text top ≡ Some design → Walked text top design
unfolding walk_of
walked_text text top design h =
    let walk = value_is (walk_of text top).end design h in
    let lattice = parts_done (lattice_walk text.lattice) _ design walk in
    let order = lattice.0 in
    let mapped = parts_done (maps_walk order.points [] text.maps) _ design lattice.2 in
    let named = parts_done (module_names [] text.modules) _ design mapped.2 in
    let topped = parts_done (found (top_module text.modules top) no_top) _ design named.2 in
    let tables = tables_of text.modules order mapped.0 in
    let built = parts_done (top_walk tables topped.0) _ design topped.2 in
    record {
      order = order;
      lattice = lattice.1;
      maps = mapped.0;
      maps_walked = mapped.1;
      master = topped.0;
      is_top = found_some (top_module text.modules top) no_top topped.0 topped.1;
      built = built.0;
      top_walked = built.1;
      is = same_ok (design_of order tables built.0) design built.2;
    }
