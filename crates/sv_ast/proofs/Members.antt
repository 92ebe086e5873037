-- Tests of shape, over lists of members.
use Rattle.std.proofs.Common.{◌≡◌, ℕ, Bool, false, true, ◌&&◌, ◌==◌, nat_le, List, [], ◌∷◌, length}
use Rattle.std.proofs.Common.{map, refl, ap}
use Rattle.std.specs.List.{list_all}
use Rattle.sv_num.specs.declared.faults.Place.{Place}
use Rattle.sv_ast.specs.declared.expressions.Expr.{Expr}
use Rattle.sv_ast.specs.declared.statements.Arm.{Arm}
use Rattle.sv_ast.specs.declared.statements.Target.{Target}
use Rattle.sv_ast.specs.Shape.{is_shaped_expression, has_part, are_shaped_parts, has_target}
use Rattle.sv_ast.specs.Shape.{is_shaped_statement, has_arm, default_count, are_shaped_arms}
use Rattle.sv_ast.specs.Tree.{ExpressionTree, ExpressionTrees, replication, TargetTree, ArmTrees}
use Rattle.sv_ast.specs.Tree.{case_of}
use Rattle.sv_ast.specs.Views.{expression_trees, parts_of, target_tree, arm_trees, arms_of}

-- Expressions

-- what a join or replication asks of its parts
abbrev pub are_members : ExpressionTrees → Bool
are_members es = has_part es && are_shaped_parts es

each_part : (es : List ExpressionTree) →
    list_all is_shaped_expression es ≡ are_shaped_parts (parts_of es)
each_part [] = refl
each_part (e ∷ es) = ap (λ rest. is_shaped_expression e && rest) (each_part es)

-- of parts that are there it asks that each is shaped
pub some_parts :
    (es : List Expr) → false ≡ (length es == 0) →
    list_all is_shaped_expression (expression_trees es) ≡
    are_members (parts_of (expression_trees es))
some_parts [] some = cc
some_parts (e ∷ es) some = each_part (expression_trees (e ∷ es))

-- a replication with a shaped count is shaped where its parts are
pub shaped_count :
    (place : Place) (count : ExpressionTree) (es : ExpressionTrees) →
    true ≡ is_shaped_expression count →
    are_members es ≡ is_shaped_expression (replication place count es)
shaped_count place count es shaped = ap (λ b. b && has_part es && are_shaped_parts es) shaped

-- Targets

-- where targets are there, it is only left to ask each
pub some_targets :
    (test : TargetTree → Bool) (targets : List Target) (n : ℕ) → n ≡ length targets →
    false ≡ (n == 0) →
    list_all test (map target_tree targets) ≡
    (has_target (map target_tree targets) && list_all test (map target_tree targets))
some_targets test [] n e some = let none : (n == 0) ≡ (0 == 0) = ap (λ k. k == 0) e in cc
some_targets test (t ∷ targets) n e some = refl

-- Arms

-- what a case asks of its arms
abbrev pub are_cased : ArmTrees → Bool
are_cased arms = has_arm arms && nat_le (default_count arms) 1 && are_shaped_arms arms

-- of arms that are there, with at most one default, it asks that each is shaped
pub some_arms :
    (arms : List Arm) → false ≡ (length arms == 0) →
    let trees = arms_of (arm_trees arms) in
    true ≡ nat_le (default_count trees) 1 → are_shaped_arms trees ≡ are_cased trees
some_arms [] some one = cc
some_arms (a ∷ arms) some one = ap (λ b. b && are_shaped_arms (arms_of (arm_trees (a ∷ arms)))) one

-- a case with a shaped selector is shaped where its arms are
pub shaped_selector :
    (place : Place) (selector : ExpressionTree) (arms : ArmTrees) →
    true ≡ is_shaped_expression selector →
    are_cased arms ≡ is_shaped_statement (case_of place selector arms)
shaped_selector place selector arms shaped =
    ap (λ b. b && has_arm arms && nat_le (default_count arms) 1 && are_shaped_arms arms) shaped
