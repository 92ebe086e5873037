use Rattle.std.proofs.Common.{◌≡◌, true, [], drop, map}
use Rattle.std.specs.List.{list_all}
use Rattle.sv_ast.specs.Shape.{is_shaped_map}
use Rattle.sv_ast.specs.Views.{map_tree}
use Rattle.sv_elab_rules.specs.LabelMaps.{maps_walk}
use Rattle.sv_elab.proofs.maps.label_maps.Given as goal

-- the walk over what is left ends as that over all
abbrev pub invariant-loop-text : goal.invariant-loop-text
invariant-loop-text l = record {
  walk : (maps_walk l.points.points l.maps.entries (map map_tree (drop l.text-index l.texts))).end
      ≡ (maps_walk l.points.points [] (map map_tree l.texts)).end;
  shaped : list_all is_shaped_map (map map_tree (drop l.text-index l.texts)) ≡ true;
}
