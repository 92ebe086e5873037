-- What the shape of a text says of its modules and their items.
use Rattle.std.specs.Prelude.{◌&&◌, Contains, IsTrue}
use Rattle.std.specs.List.{list_all}
use Rattle.std.proofs.lemmas.Bool.{and_parts}
use Rattle.sv_ast.specs.Tree.{ItemTree, ModuleTree, TextTree}
use Rattle.sv_ast.specs.Shape.{is_shaped, is_shaped_map, is_shaped_module, is_shaped_parameter}
use Rattle.sv_ast.specs.Shape.{is_shaped_declaration, is_shaped_item, are_header_parameters}
use Rattle.sv_ast.specs.Shape.{are_ports}
use Rattle.sv_flat.proofs.Depths.{from_all}
use Rattle.sv_elab_laws.specs.FlattenedTexts.{ItemNumbersFit, EachItem}
use Rattle.sv_elab_laws.specs.FlattenedTexts.{CanBeFlattened}

abbrev pub IsFlattenedItem : ItemTree → Type 0
IsFlattenedItem item = IsTrue (is_shaped_item item) × ItemNumbersFit item

pub record IsFlattenedModule (m : ModuleTree) : Type 0 where
  pub header : IsTrue (are_header_parameters m.parameters)
  pub items : (item : ItemTree) → Contains m.items item → IsFlattenedItem item

abbrev pub IsFlattened : TextTree → Type 0
IsFlattened text = (m : ModuleTree) → Contains text.modules m → IsFlattenedModule m

pub all_flattened : (text : TextTree) → IsTrue (is_shaped text) → EachItem ItemNumbersFit text →
    IsFlattened text
all_flattened text shaped numbers m at =
    let modules = (and_parts (list_all is_shaped_map text.maps)
    (list_all is_shaped_module text.modules) shaped).1 in
    let shape = from_all is_shaped_module text.modules m modules at in
    let header = are_header_parameters m.parameters in
    let parameters = list_all is_shaped_parameter m.parameters in
    let ports = are_ports m.ports in
    let declared = list_all is_shaped_declaration m.ports in
    let items = and_parts (header && parameters && ports && declared)
    (list_all is_shaped_item m.items) shape in
    let three = and_parts (header && parameters && ports) declared items.0 in
    let two = and_parts (header && parameters) ports three.0 in
    record {
      header = (and_parts header parameters two.0).0;
      items = λ item inside. (
        from_all is_shaped_item m.items item items.1 inside,
        numbers m at item inside,
      );
    }

pub flattened : (text : TextTree) → CanBeFlattened text →
    IsFlattened text
flattened text can = all_flattened text can.shaped can.numbers
