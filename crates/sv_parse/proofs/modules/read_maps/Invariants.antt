use Rattle.std.proofs.Common.{length, map}
use Rattle.sv_ast.specs.Tree.{MapTree}
use Rattle.sv_ast.specs.Views.{map_tree}
use Rattle.sv_ast.specs.GrammarModules.{IsMap}
use Rattle.sv_parse_machine.specs.Symbols.{perhaps_maps}
use Rattle.sv_parse.proofs.ReadingItems.{HasRead, AreOpenEach}
use Rattle.sv_parse.proofs.modules.read_maps.Given as goal

abbrev pub invariant-loop-maps : goal.invariant-loop-maps
invariant-loop-maps l =
    HasRead (AreOpenEach MapTree IsMap (map map_tree l.maps.items)) perhaps_maps l.input l.rest

abbrev pub decreases-loop-maps : goal.decreases-loop-maps
decreases-loop-maps l = length l.rest
