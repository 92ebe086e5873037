use Rattle.std.proofs.Common.{◌≡◌, ◌++◌, map, drop}
use Rattle.sv_ast.specs.Views.{row_tree}
use Rattle.sv_ast.proofs.modules.rows_copy.Given as goal

-- the copies so far and the rows that are left have the plain forms of all
abbrev pub invariant-loop-row : goal.invariant-loop-row
invariant-loop-row l =
    map row_tree l.copies.items ++ map row_tree (drop l.row-index l.rows) ≡ map row_tree l.rows
