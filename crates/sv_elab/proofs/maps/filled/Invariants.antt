use Rattle.std.proofs.Common.{◌≡◌, ℕ, List, [], drop, map}
use Rattle.sv_ast.specs.Views.{map_tree, row_tree}
use Rattle.sv_elab_rules.specs.LabelMaps.{rows_walk}
use Rattle.sv_elab.specs.MapParts.{bits_in, IsTable}
use Rattle.sv_elab.proofs.maps.filled.Given as goal

-- the table has the points of the rows so far, and the walk over what is left ends as that over all
abbrev pub invariant-loop-row : goal.invariant-loop-row
invariant-loop-row l =
    (rows : List (ℕ × ℕ)) × IsTable (bits_in l.ranges.first l.ranges.second) rows l.table.items
    × ((rows_walk l.points.points (map_tree l.text) l.ranges.first l.ranges.second rows
    (map row_tree (drop l.row-index l.text.rows.items))).end
    ≡ (rows_walk l.points.points (map_tree l.text) l.ranges.first l.ranges.second []
    (map row_tree l.text.rows.items)).end)
