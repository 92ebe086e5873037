-- Numbers that fit their lengths, as those that are read do (IEEE 1364-2005, clause 3.5.1). Of the
-- selectors of cases this counts: a case is complete where its items are all values of so many bits
-- (this project's profile).
use Rattle.std.specs.Prelude.{◌^◌, ◌<◌}
use Rattle.sv_ast.specs.Tree.{ExpressionTree, literal, named, bit_of, part_of, unary, binary}
use Rattle.sv_ast.specs.Tree.{choice, join, replication}
use Rattle.sv_ast.specs.Tree.{ExpressionTrees, no_expressions, more_expressions}
use Rattle.sv_ast.specs.Tree.{StatementTree, null, assignment, block, if_only, if_else, case_of}
use Rattle.sv_ast.specs.Tree.{StatementTrees, no_statements, more_statements}
use Rattle.sv_ast.specs.Tree.{ArmTrees, no_arms, more_arms}

abbrev mutual
  -- each number in the expression is below 2 to its length
  pub NumbersFit : ExpressionTree → Type 0
  NumbersFit (literal l p) = l.value < 2 ^ l.width
  NumbersFit (named n p) = Unit {0}
  NumbersFit (bit_of n p i) = NumbersFit i
  NumbersFit (part_of n p h l) = NumbersFit h × NumbersFit l
  NumbersFit (unary op p e) = NumbersFit e
  NumbersFit (binary op p a b) = NumbersFit a × NumbersFit b
  NumbersFit (choice p c a b) = NumbersFit c × NumbersFit a × NumbersFit b
  NumbersFit (join p es) = PartNumbersFit es
  NumbersFit (replication p k es) = NumbersFit k × PartNumbersFit es

  pub PartNumbersFit : ExpressionTrees → Type 0
  PartNumbersFit no_expressions = Unit {0}
  PartNumbersFit (more_expressions e es) = NumbersFit e × PartNumbersFit es

abbrev mutual
  -- each number in a selector of a case is
  pub SelectorsFit : StatementTree → Type 0
  SelectorsFit null = Unit {0}
  SelectorsFit (assignment ts p blocking e) = Unit {0}
  SelectorsFit (block ss) = SelectorsFitIn ss
  SelectorsFit (if_only p c a) = SelectorsFit a
  SelectorsFit (if_else p c a b) = SelectorsFit a × SelectorsFit b
  SelectorsFit (case_of p e arms) = NumbersFit e × SelectorsFitBy arms

  pub SelectorsFitIn : StatementTrees → Type 0
  SelectorsFitIn no_statements = Unit {0}
  SelectorsFitIn (more_statements s ss) = SelectorsFit s × SelectorsFitIn ss

  pub SelectorsFitBy : ArmTrees → Type 0
  SelectorsFitBy no_arms = Unit {0}
  SelectorsFitBy (more_arms p items body arms) = SelectorsFit body × SelectorsFitBy arms
