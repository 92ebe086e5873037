use Rattle.std.proofs.Common.{length, map}
use Rattle.sv_ast.specs.Views.{item_tree}
use Rattle.sv_parse_machine.specs.Symbols.{items}
use Rattle.sv_parse.proofs.ReadingItems.{HasRead, AreOpenItems}
use Rattle.sv_parse.proofs.modules.read_items.Given as goal

abbrev pub invariant-loop-after : goal.invariant-loop-after
invariant-loop-after l = HasRead (AreOpenItems (map item_tree l.items.items)) items l.input l.rest

abbrev pub decreases-loop-after : goal.decreases-loop-after
decreases-loop-after l = length l.rest
