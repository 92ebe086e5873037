-- Sizes of small expressions and of their typed forms.
use Rattle.std.proofs.Common.{◌≡◌, ℕ, false, [], ◌∷◌, refl}
use Rattle.std.specs.Prelude.{codes}
use Rattle.sv_num.specs.declared.operators.BinOp.TheVariants as binop
use Rattle.sv_ast.specs.Scopes.{signal}
use Rattle.sv_ast.specs.Tree.{ExpressionTree}
use Rattle.sv_elab_rules.specs.Names.{Names, names_of}
use Rattle.sv_elab_rules.specs.TypedExpressions.{typed_of, typed_parts}
use Rattle.sv_elab_rules.proofs.Computing.{computing}
use Rattle.sv_elab_rules.proofs.SmallTexts.{name, decimal, op, bit, part, joined, times}
use Rattle.sv_obl.specs.Nodes.{nodes_in}
use Rattle.sv_run_laws.specs.Sizes.{source_nodes, all_source_nodes}

-- one signal of eight bits
abbrev signals : Names
signals = names_of 0 ((codes "a", signal 8 false) ∷ [])

-- the typed form where 8 unsigned bits are wanted
abbrev typed_size : ExpressionTree → ℕ
typed_size e = nodes_in (typed_of signals e 8 false)

-- a + 1: the sum and its operands
abbrev sum : ExpressionTree
sum = op binop.Add 3 (name "a" 1) (decimal 1 5)

pub a_sum_has_three : (source_nodes sum ≡ 3) × (typed_size sum ≡ 3)
unfolding source_nodes computing
a_sum_has_three = (refl, refl)

-- {a[a + 1], {2{a}}}
abbrev parts_of_a : ExpressionTree
parts_of_a = joined 1 (bit "a" 2 sum ∷ times 11 (decimal 2 12) (name "a" 14 ∷ []) ∷ [])

-- a join, a bit and its index of three, a replication, its count and its one part
pub parts_have_eight : source_nodes parts_of_a ≡ 8
unfolding source_nodes all_source_nodes
parts_have_eight = refl

-- the count is a number there
pub typed_parts_have_seven : typed_size parts_of_a ≡ 7
unfolding computing typed_parts
typed_parts_have_seven = refl

-- a[6 / 2:0]
abbrev low_part : ExpressionTree
low_part = part "a" 1 (op binop.Div 5 (decimal 6 3) (decimal 2 7)) (decimal 0 9)

pub a_part_counts_its_bounds : source_nodes low_part ≡ 5
unfolding source_nodes
a_part_counts_its_bounds = refl

-- its bounds are numbers there
pub a_typed_part_has_one : typed_size low_part ≡ 1
unfolding computing
a_typed_part_has_one = refl

-- 6 / 2 stands as its value
pub a_typed_quotient_has_one : typed_size (op binop.Div 3 (decimal 6 1) (decimal 2 5)) ≡ 1
unfolding computing
a_typed_quotient_has_one = refl
