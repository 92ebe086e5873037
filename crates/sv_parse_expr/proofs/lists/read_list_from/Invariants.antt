use Rattle.std.proofs.Common.{◌≤◌, length, map}
use Rattle.sv_token.specs.Lexemes.{placed_tokens}
use Rattle.sv_parse_expr.specs.Parses.{placed}
use Rattle.sv_parse_machine.specs.Symbols.{State}
use Rattle.sv_parse_machine.specs.Reads.{Reads, GoesOn}
use Rattle.sv_parse_expr.proofs.ReadingLists.{AreOpen}
use Rattle.sv_parse_expr.proofs.lists.read_list_from.Given as goal

abbrev pub decreases-loop-after : goal.decreases-loop-after
decreases-loop-after g l = length l.rest

abbrev pub invariant-loop-after : goal.invariant-loop-after
invariant-loop-after g l = record {
  are : AreOpen g.M.Listed.Tree (g.M.Listed.Later l.levels) (g.M.Listed.tree l.fn.first)
      (map g.M.Listed.tree l.items.items) (g.M.Listed.tree l.before)
      (placed l.input) (placed_tokens l.input.bytes.now l.rest);
  shorter : length l.rest ≤ length l.input.rest.now;
  reads : (more : State) → GoesOn more (g.M.Listed.next l.levels) →
      Reads more more (placed l.input) (placed_tokens l.input.bytes.now l.rest);
}
