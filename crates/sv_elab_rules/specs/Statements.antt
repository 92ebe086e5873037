-- The walk of statements (IEEE 1364-2005, clause 9), in textual order, and the flat statement at
-- its end.
use Rattle.std.specs.Prelude.{ℕ, Bool, true, List, [], ◌∷◌, filter, not}
use Rattle.sv_ast.specs.Tree.{ExpressionTree, StatementTree, null, assignment, block, if_only}
use Rattle.sv_ast.specs.Tree.{if_else, case_of, StatementTrees, no_statements, more_statements}
use Rattle.sv_ast.specs.Tree.{ArmTrees, no_arms, more_arms}
use Rattle.sv_ast.specs.Instances.{is_empty}
use Rattle.sv_flat.specs.Design.{TypedTree, FlatStatement, nothing, after, branch}
use Rattle.sv_elab_rules.specs.Walks.{Walk, done, ◌>>=◌}
use Rattle.sv_elab_rules.specs.Names.{Names}
use Rattle.sv_elab_rules.specs.TypedExpressions.{typed_of}
use Rattle.sv_elab_rules.specs.ExpressionSteps.{asked, divisors, typed_walk, expression_walk}
use Rattle.sv_elab_rules.specs.Targets.{assignment_walk}
use Rattle.sv_elab_rules.specs.CaseChains.{FlatArm, arm_items, common_length, common_signed, case_chain}
use Rattle.sv_elab_rules.specs.CaseChains.{default_of, is_complete}

-- the items of an arm, each a constant at the common length and signedness
unfoldable pub items_walk : Names → (length : ℕ) → (signed : Bool) → List ExpressionTree
    → Walk (List TypedTree)
items_walk names n s [] = done []
items_walk names n s (e ∷ es) = do
  _ ← asked names true e
  _ ← divisors names.scope e n s
  rest ← items_walk names n s es
  done (typed_of names e n s ∷ rest)

unfoldable mutual
  pub statement_walk : Names → StatementTree → Walk FlatStatement
  statement_walk names null = done nothing
  statement_walk names (assignment ts p blocking e) = assignment_walk names ts p blocking e
  statement_walk names (block ss) = statements_walk names ss
  statement_walk names (if_only p c a) = do
    condition ← expression_walk names c 0
    first ← statement_walk names a
    done (branch p condition first nothing)
  statement_walk names (if_else p c a b) = do
    condition ← expression_walk names c 0
    first ← statement_walk names a
    second ← statement_walk names b
    done (branch p condition first second)
  statement_walk names (case_of p selector arms) = do
    let n = common_length names selector arms
    let s = common_signed names selector arms
    typed_selector ← typed_walk names selector n s
    flat ← arms_walk names n s arms
    done (case_chain typed_selector (is_complete names.scope selector (arm_items arms) n s)
        (filter (λ (arm : FlatArm). not (is_empty arm.items)) flat) (default_of flat))

  pub statements_walk : Names → StatementTrees → Walk FlatStatement
  statements_walk names no_statements = done nothing
  statements_walk names (more_statements statement ss) = do
    first ← statement_walk names statement
    rest ← statements_walk names ss
    done (after first rest)

  -- at the common length and signedness of the case
  pub arms_walk : Names → (length : ℕ) → (signed : Bool) → ArmTrees → Walk (List FlatArm)
  arms_walk names n s no_arms = done []
  arms_walk names n s (more_arms p items body arms) = do
    typed_items ← items_walk names n s items
    flat ← statement_walk names body
    rest ← arms_walk names n s arms
    done ((record { place = p; items = typed_items; body = flat }) ∷ rest)
