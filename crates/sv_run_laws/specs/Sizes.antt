-- How large expressions are in the source: operands and operators (IEEE 1364-2005, annex A.8).
use Rattle.std.specs.Prelude.{ℕ, ◌+◌}
use Rattle.sv_ast.specs.Tree.{ExpressionTree, literal, named, bit_of, part_of, unary, binary}
use Rattle.sv_ast.specs.Tree.{choice, join, replication}
use Rattle.sv_ast.specs.Tree.{ExpressionTrees, no_expressions, more_expressions}

unfoldable mutual
  -- one for the expression, and those of each expression in it
  pub source_nodes : ExpressionTree → ℕ
  source_nodes (literal l p) = 1
  source_nodes (named n p) = 1
  source_nodes (bit_of n p i) = 1 + source_nodes i
  source_nodes (part_of n p h l) = 1 + source_nodes h + source_nodes l
  source_nodes (unary op p e) = 1 + source_nodes e
  source_nodes (binary op p a b) = 1 + source_nodes a + source_nodes b
  source_nodes (choice p c a b) = 1 + source_nodes c + source_nodes a + source_nodes b
  source_nodes (join p es) = 1 + all_source_nodes es
  source_nodes (replication p k es) = 1 + source_nodes k + all_source_nodes es

  pub all_source_nodes : ExpressionTrees → ℕ
  all_source_nodes no_expressions = 0
  all_source_nodes (more_expressions e es) = source_nodes e + all_source_nodes es
