use Rattle.std.proofs.Common.{length, map}
use Rattle.sv_ast.specs.Tree.{RowTree}
use Rattle.sv_ast.specs.Views.{row_tree}
use Rattle.sv_ast.specs.GrammarModules.{IsRow}
use Rattle.sv_parse_machine.specs.Symbols.{rows}
use Rattle.sv_parse.proofs.ReadingItems.{HasRead, AreOpenEach}
use Rattle.sv_parse.proofs.label_maps.read_rows.Given as goal

abbrev pub invariant-loop-alloc : goal.invariant-loop-alloc
invariant-loop-alloc l =
    HasRead (AreOpenEach RowTree IsRow (map row_tree l.rows.items)) rows l.input l.rest

abbrev pub decreases-loop-alloc : goal.decreases-loop-alloc
decreases-loop-alloc l = length l.rest
