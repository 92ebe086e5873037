-- What the tokens of expressions and statements mean, by examples: each tree is the one that the
-- reader finds, and its type says that the relation holds of what it finds.
use Rattle.std.proofs.Common.{◌≡◌, ℕ, true, false, List, [], ◌∷◌, ◌++◌, map, Option, Some, refl}
use Rattle.std.specs.Prelude.{codes, option_map, flat_map, replicate, is_some}
use Rattle.sv_num.specs.declared.faults.Place.{Place}
use Rattle.sv_num.specs.declared.operators.UnOp.TheVariants as unop
use Rattle.sv_num.specs.declared.operators.BinOp.TheVariants as binop
use Rattle.sv_token.specs.Lexemes.{Literal}
use Rattle.sv_token.specs.Lexed.{lexed}
use Rattle.sv_ast.specs.Tree.{ExpressionTree, literal, named, bit_of, part_of, unary, binary}
use Rattle.sv_ast.specs.Tree.{choice, join, replication, no_expressions, more_expressions}
use Rattle.sv_ast.specs.Tree.{Selection, whole, bit_at, part_from, TargetTree, StatementTree, null}
use Rattle.sv_ast.specs.Tree.{assignment, block, if_only, if_else, case_of, no_statements}
use Rattle.sv_ast.specs.Tree.{more_statements, no_arms, more_arms}
use Rattle.sv_ast.specs.GrammarRules.{all_limits}
use Rattle.sv_ast.proofs.GrammarComputed.{read, in_tokens}
use Rattle.sv_ast.proofs.GrammarReadsExpressions.{steps_for, read_expression}
use Rattle.sv_ast.proofs.GrammarReadsStatements.{read_statement}

abbrev pub expression_of : List ℕ → Option ExpressionTree
expression_of text =
    in_tokens (λ ts. option_map (λ r. r.0) (read_expression all_limits 0 ts)) (lexed text)

abbrev pub statement_of : List ℕ → Option StatementTree
statement_of text =
    in_tokens (λ ts. option_map (λ r. r.0) (read_statement (steps_for ts) all_limits 0 ts))
    (lexed text)

abbrev pub at : ℕ → Place
at n = record { line = 1; column = n }

-- a name of one letter at the column
abbrev pub name : List ℕ → ℕ → ExpressionTree
name x n = named x (at n)

-- a number without a size
abbrev pub plain : ℕ → Literal
plain n = record { width = 32; signed = true; value = n; sized = false }

abbrev pub number : ℕ → ℕ → ExpressionTree
number v n = literal (plain v) (at n)

abbrev pub a : ℕ → ExpressionTree
a n = name (codes "a") n

abbrev pub b : ℕ → ExpressionTree
b n = name (codes "b") n

abbrev pub c : ℕ → ExpressionTree
c n = name (codes "c") n

abbrev pub d : ℕ → ExpressionTree
d n = name (codes "d") n

abbrev pub e : ℕ → ExpressionTree
e n = name (codes "e") n

-- ---- operators

pub left_nested : expression_of (codes "7 - 2 - 1")
    ≡ Some (binary binop.Sub (at 7) (binary binop.Sub (at 3) (number 7 1) (number 2 5))
    (number 1 9))
unfolding read
left_nested = refl

pub by_levels : expression_of (codes "a | b & c == d << 1 + 2 * -e")
    ≡ Some (binary binop.Or (at 3) (a 1)
    (binary binop.And (at 7) (b 5)
    (binary binop.Eq (at 11) (c 9)
    (binary binop.Shl (at 16) (d 14)
    (binary binop.Add (at 21) (number 1 19)
    (binary binop.Mul (at 25) (number 2 23) (unary unop.Minus (at 27) (e 28))))))))
unfolding read
by_levels = refl

pub loosest_last : expression_of (codes "a * b + c << d < e")
    ≡ Some (binary binop.Lt (at 16)
    (binary binop.Shl (at 11)
    (binary binop.Add (at 7) (binary binop.Mul (at 3) (a 1) (b 5)) (c 9)) (d 14))
    (e 18))
unfolding read
loosest_last = refl

pub logic_binds_loosest : expression_of (codes "a || b && c ^~ d")
    ≡ Some (binary binop.LogicOr (at 3) (a 1)
    (binary binop.LogicAnd (at 8) (b 6) (binary binop.Xnor (at 13) (c 11) (d 16))))
unfolding read
logic_binds_loosest = refl

pub unary_before_binary : expression_of (codes "-a - -b")
    ≡ Some (binary binop.Sub (at 4) (unary unop.Minus (at 1) (a 2)) (unary unop.Minus (at 6) (b 7)))
unfolding read
unary_before_binary = refl

pub unary_of_unary : expression_of (codes "! ~& a & &b")
    ≡ Some (binary binop.And (at 8) (unary unop.LogicNot (at 1) (unary unop.Nand (at 3) (a 6)))
    (unary unop.And (at 10) (b 11)))
unfolding read
unary_of_unary = refl

-- ---- choices

pub choices_nest_right : expression_of (codes "a ? b : c ? d : e")
    ≡ Some (choice (at 3) (a 1) (b 5) (choice (at 11) (c 9) (d 13) (e 17)))
unfolding read
choices_nest_right = refl

pub choice_in_a_choice : expression_of (codes "a ? b ? c : d : e")
    ≡ Some (choice (at 3) (a 1) (choice (at 7) (b 5) (c 9) (d 13)) (e 17))
unfolding read
choice_in_a_choice = refl

pub choice_binds_loosest : expression_of (codes "a || b ? c : d + e")
    ≡ Some (choice (at 8) (binary binop.LogicOr (at 3) (a 1) (b 6)) (c 10)
    (binary binop.Add (at 16) (d 14) (e 18)))
unfolding read
choice_binds_loosest = refl

-- ---- groups, joins, selects

pub groups_leave_no_trace : expression_of (codes "((a)) * (b + c)")
    ≡ Some (binary binop.Mul (at 7) (a 3) (binary binop.Add (at 12) (b 10) (c 14)))
unfolding read
groups_leave_no_trace = refl

pub grouped_choice : expression_of (codes "(a ? b : c) ? d : e")
    ≡ Some (choice (at 13) (choice (at 4) (a 2) (b 6) (c 10)) (d 15) (e 19))
unfolding read
grouped_choice = refl

pub joined : expression_of (codes "{a, b[1], c[3:0]}")
    ≡ Some (join (at 1)
    (more_expressions (a 2)
    (more_expressions (bit_of (codes "b") (at 5) (number 1 7))
    (more_expressions (part_of (codes "c") (at 11) (number 3 13) (number 0 15)) no_expressions))))
unfolding read
joined = refl

pub repeated : expression_of (codes "{2{a, {b}}}")
    ≡ Some (replication (at 1) (number 2 2)
    (more_expressions (a 4)
    (more_expressions (join (at 7) (more_expressions (b 8) no_expressions)) no_expressions)))
unfolding read
repeated = refl

-- ---- levels

abbrev in_groups : ℕ → List ℕ
in_groups n =
    flat_map (λ p. p) (replicate n (codes "(")) ++ codes "a" ++ flat_map (λ p.
    p) (replicate n (codes ")"))

pub levels_up_to_64 : is_some (expression_of (in_groups 64)) ≡ true
unfolding read
levels_up_to_64 = refl

-- ---- statements

abbrev pub target : List ℕ → ℕ → Selection → TargetTree
target x n s = record { name = x; place = at n; selection = s }

abbrev pub sets : List ℕ → ℕ → ExpressionTree → StatementTree
sets x n v = assignment (target x n whole ∷ []) (at n) true v

pub else_to_the_nearest_if : statement_of (codes "if (a) if (b) y = 1; else y = 0;")
    ≡ Some (if_only (at 1) (a 5)
    (if_else (at 8) (b 12) (sets (codes "y") 15 (number 1 19))
    (sets (codes "y") 27 (number 0 31))))
unfolding read
else_to_the_nearest_if = refl

pub each_if_with_its_else : statement_of (codes "if (a) if (b) y = 1; else y = 2; else y = 3;")
    ≡ Some (if_else (at 1) (a 5)
    (if_else (at 8) (b 12) (sets (codes "y") 15 (number 1 19)) (sets (codes "y") 27 (number 2 31)))
    (sets (codes "y") 39 (number 3 43)))
unfolding read
each_if_with_its_else = refl

pub else_behind_a_block : statement_of (codes "if (a) begin if (b) ; end else ;")
    ≡ Some (if_else (at 1) (a 5)
    (block (more_statements (if_only (at 14) (b 18) null) no_statements)) null)
unfolding read
else_behind_a_block = refl

pub block_with_a_name : statement_of (codes "begin : e q[1] <= a <= b; end")
    ≡ Some (block (more_statements
    (assignment (target (codes "q") 11 (bit_at (number 1 13)) ∷ []) (at 11) false
    (binary binop.Le (at 21) (a 19) (b 24)))
    no_statements))
unfolding read
block_with_a_name = refl

pub several_targets : statement_of (codes "{c, s[3:0]} = a + b;")
    ≡ Some (assignment
    (target (codes "c") 2 whole ∷ target (codes "s") 5 (part_from (number 3 7) (number 0 9)) ∷ [])
    (at 2) true (binary binop.Add (at 17) (a 15) (b 19)))
unfolding read
several_targets = refl

pub case_with_default : statement_of (codes "case (a) 1, (b): ; default ; c ? d : e: ; endcase")
    ≡ Some (case_of (at 1) (a 7)
    (more_arms (at 10) (number 1 10 ∷ b 14 ∷ []) null
    (more_arms (at 20) [] null
    (more_arms (at 30) (choice (at 32) (c 30) (d 34) (e 38) ∷ []) null no_arms))))
unfolding read
case_with_default = refl

-- ---- lengths

abbrev names_joined : ℕ → List ℕ
names_joined n = codes "a" ++ flat_map (λ p. p) (replicate n (codes "|a"))

-- 1,023 tokens are few enough, and 1,025 are too many
pub tokens_up_to_1024 : map (λ n. is_some (expression_of (names_joined n))) (511 ∷ 512 ∷ [])
    ≡ true ∷ false ∷ []
unfolding read
tokens_up_to_1024 = refl

abbrev arms_of : ℕ → List ℕ
arms_of n = codes "case (a) " ++ flat_map (λ p. p) (replicate n (codes "b: ; ")) ++ codes "endcase"

pub arms_up_to_256 : map (λ n. is_some (statement_of (arms_of n))) (256 ∷ 257 ∷ [])
    ≡ true ∷ false ∷ []
unfolding read
arms_up_to_256 = refl
