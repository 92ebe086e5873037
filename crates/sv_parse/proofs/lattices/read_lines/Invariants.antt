use Rattle.std.proofs.Common.{length, map}
use Rattle.sv_ast.specs.Views.{placed_name, pair_tree}
use Rattle.sv_parse_machine.specs.Symbols.{lattice_lines}
use Rattle.sv_parse.proofs.ReadingItems.{HasRead, AreOpenLines}
use Rattle.sv_parse.proofs.lattices.read_lines.Given as goal

abbrev pub invariant-loop-after : goal.invariant-loop-after
invariant-loop-after l =
    HasRead
    (AreOpenLines (map placed_name l.lines.points.items) (map pair_tree l.lines.pairs.items))
    lattice_lines l.input l.rest

abbrev pub decreases-loop-after : goal.decreases-loop-after
decreases-loop-after l = length l.rest
