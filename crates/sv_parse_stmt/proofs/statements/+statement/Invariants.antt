use Rattle.std.proofs.Common.{◌+◌, ◌*◌, ◌≤◌, false, [], ◌∷◌, length}
use Rattle.sv_token.specs.Lexemes.{placed_tokens}
use Rattle.sv_parse_expr.specs.Parses.{placed}
use Rattle.sv_ast.specs.Views.{statement_trees, arm_trees}
use Rattle.sv_parse_machine.specs.Symbols.{outer, statements, arms}
use Rattle.sv_parse_machine.specs.Reads.{Reads}
use Rattle.sv_parse_stmt.proofs.ReadingStatements.{AreOpenStatements, AreOpenArms}
use Rattle.sv_parse_stmt.proofs.statements.+statement.Given as goal

-- the tokens that are left, and then how far the call is from a statement

abbrev pub decreases-read_statement : goal.decreases-read_statement
decreases-read_statement l = 8 * length l.input.rest.now + 1

abbrev pub decreases-read_block : goal.decreases-read_block
decreases-read_block l = 8 * length l.input.rest.now

abbrev pub decreases-read_statements : goal.decreases-read_statements
decreases-read_statements l = 8 * length l.input.rest.now + 2

abbrev pub decreases-read_conditional : goal.decreases-read_conditional
decreases-read_conditional l = 8 * length l.input.rest.now

abbrev pub decreases-read_case : goal.decreases-read_case
decreases-read_case l = 8 * length l.input.rest.now

abbrev pub decreases-read_arms : goal.decreases-read_arms
decreases-read_arms l = 8 * length l.input.rest.now + 4

abbrev pub decreases-read_arm : goal.decreases-read_arm
decreases-read_arm l = 8 * length l.input.rest.now + 3

abbrev pub decreases-read_statements-loop-after : goal.decreases-read_statements-loop-after
decreases-read_statements-loop-after l = length l.rest

abbrev pub invariant-read_statements-loop-after : goal.invariant-read_statements-loop-after
invariant-read_statements-loop-after l = record {
  are : AreOpenStatements l.levels (statement_trees l.stmts.items) (placed l.input)
      (placed_tokens l.input.bytes.now l.rest);
  shorter : length l.rest ≤ length l.input.rest.now;
  reads : Reads (outer (statements l.levels) ∷ []) (outer (statements l.levels) ∷ [])
      (placed l.input) (placed_tokens l.input.bytes.now l.rest);
}

abbrev pub decreases-read_arms-loop-after : goal.decreases-read_arms-loop-after
decreases-read_arms-loop-after l = length l.rest

abbrev pub invariant-read_arms-loop-after : goal.invariant-read_arms-loop-after
invariant-read_arms-loop-after l = record {
  are : AreOpenArms l.levels (arm_trees l.arms.items) l.has_default (placed l.input)
      (placed_tokens l.input.bytes.now l.rest);
  shorter : length l.rest ≤ length l.input.rest.now;
  reads : Reads (outer (arms l.levels 0 false) ∷ [])
      (outer (arms l.levels (length l.arms.items) l.has_default) ∷ [])
      (placed l.input) (placed_tokens l.input.bytes.now l.rest);
}
