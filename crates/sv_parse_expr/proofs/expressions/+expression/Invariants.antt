use Rattle.std.proofs.Common.{◌≡◌, ℕ, ◌+◌, ◌-◌, [], ◌∷◌, ◌*◌, ◌<◌, ◌≤◌, length}
use Rattle.sv_token.specs.Lexemes.{placed_tokens}
use Rattle.sv_parse_expr.specs.Parses.{placed}
use Rattle.sv_ast.specs.Views.{expression_tree, expression_trees}
use Rattle.sv_parse_expr.specs.Reading.{IsChain}
use Rattle.sv_parse_machine.specs.Symbols.{inner, operand, tail, members}
use Rattle.sv_parse_machine.specs.Reads.{Reads, NextIsLooser}
use Rattle.sv_parse_expr.proofs.ReadingExpressions.{AreOpenParts}
use Rattle.sv_parse_expr.proofs.expressions.+expression.Given as goal

-- the tokens that are left, and then how far the call is from an operand

abbrev pub decreases-read_inner : goal.decreases-read_inner
decreases-read_inner l = 32 * length l.input.rest.now + 20

abbrev pub decreases-read_chain : goal.decreases-read_chain
decreases-read_chain l = 32 * length l.input.rest.now + l.precedence + 2

abbrev pub decreases-read_operand : goal.decreases-read_operand
decreases-read_operand l = 32 * length l.input.rest.now + 1

abbrev pub decreases-read_group : goal.decreases-read_group
decreases-read_group l = 32 * length l.input.rest.now

abbrev pub decreases-read_prefixed : goal.decreases-read_prefixed
decreases-read_prefixed l = 32 * length l.input.rest.now

abbrev pub decreases-read_named : goal.decreases-read_named
decreases-read_named l = 32 * length l.input.rest.now

abbrev pub decreases-read_bounds : goal.decreases-read_bounds
decreases-read_bounds l = 32 * length l.input.rest.now + 21

abbrev pub decreases-read_braces : goal.decreases-read_braces
decreases-read_braces l = 32 * length l.input.rest.now

abbrev pub decreases-read_repeated : goal.decreases-read_repeated
decreases-read_repeated l = 32 * length l.input.rest.now + 21

abbrev pub decreases-read_later_parts : goal.decreases-read_later_parts
decreases-read_later_parts l = 32 * length l.input.rest.now

abbrev pub decreases-read_chain-loop-op : goal.decreases-read_chain-loop-op
decreases-read_chain-loop-op l = length l.rest

abbrev pub invariant-read_chain-loop-op : goal.invariant-read_chain-loop-op
invariant-read_chain-loop-op l = record {
  is : IsChain l.room.levels l.precedence (expression_tree l.left) (placed l.input)
      (placed_tokens l.input.bytes.now l.rest);
  shorter : length l.rest < length l.input.rest.now;
  counted : l.room.beyond ≤ length l.rest;
  reads : (start : ℕ) → l.room.beyond ≡ start - 1024 →
      Reads (inner start (operand l.room.levels) ∷ inner start (tail l.room.levels) ∷ [])
      (inner start (tail l.room.levels) ∷ []) (placed l.input)
      (placed_tokens l.input.bytes.now l.rest);
  looser : NextIsLooser (l.precedence - 1) (placed_tokens l.input.bytes.now l.rest);
}

abbrev pub decreases-read_later_parts-loop-after : goal.decreases-read_later_parts-loop-after
decreases-read_later_parts-loop-after l = length l.rest

abbrev pub invariant-read_later_parts-loop-after : goal.invariant-read_later_parts-loop-after
invariant-read_later_parts-loop-after l = record {
  are : AreOpenParts l.room.levels (expression_tree l.fn.first) (expression_trees l.parts.items)
      (placed l.input) (placed_tokens l.input.bytes.now l.rest);
  shorter : length l.rest ≤ length l.input.rest.now;
  reads : (start : ℕ) → l.room.beyond ≡ start - 1024 →
      Reads (inner start (members l.room.levels) ∷ []) (inner start (members l.room.levels) ∷ [])
      (placed l.input) (placed_tokens l.input.bytes.now l.rest);
}
