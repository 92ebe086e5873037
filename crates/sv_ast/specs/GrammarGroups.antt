-- Expressions as they are written, each group in parentheses a node of its own.
use Rattle.std.specs.Prelude.{ℕ, List}
use Rattle.sv_num.specs.declared.operators.UnOp.{UnOp}
use Rattle.sv_num.specs.declared.operators.BinOp.{BinOp}
use Rattle.sv_num.specs.declared.operators.BinOp.TheVariants.{Mul, Div, Rem, Add, Sub, Shl, Shr}
use Rattle.sv_num.specs.declared.operators.BinOp.TheVariants.{SignShl, SignShr, Lt, Le, Gt, Ge, Eq}
use Rattle.sv_num.specs.declared.operators.BinOp.TheVariants.{Ne, And, Xor, Xnor, Or, LogicAnd}
use Rattle.sv_num.specs.declared.operators.BinOp.TheVariants.{LogicOr}
use Rattle.sv_num.specs.declared.faults.Place.{Place}
use Rattle.sv_token.specs.Lexemes.{Literal}
use Rattle.sv_ast.specs.Tree as tree

mutual
  pub data Written : Type 0 where
    literal : Literal → Place → Written
    named : List ℕ → Place → Written
    bit_of : List ℕ → Place → (index : Written) → Written
    part_of : List ℕ → Place → (high low : Written) → Written
    group : Written → Written
    unary : UnOp → Place → Written → Written
    binary : BinOp → Place → (left right : Written) → Written
    choice : Place → (condition first second : Written) → Written
    join : Place → WrittenList → Written
    replication : Place → (count : Written) → WrittenList → Written

  pub data WrittenList : Type 0 where
    no_more : WrittenList
    more : Written → WrittenList → WrittenList

-- what is written, its groups left out
abbrev mutual
  pub without_groups : Written → tree.ExpressionTree
  without_groups (literal v p) = tree.literal v p
  without_groups (named x p) = tree.named x p
  without_groups (bit_of x p i) = tree.bit_of x p (without_groups i)
  without_groups (part_of x p h l) = tree.part_of x p (without_groups h) (without_groups l)
  without_groups (group e) = without_groups e
  without_groups (unary op p e) = tree.unary op p (without_groups e)
  without_groups (binary op p a b) = tree.binary op p (without_groups a) (without_groups b)
  without_groups (choice p c a b) =
      tree.choice p (without_groups c) (without_groups a) (without_groups b)
  without_groups (join p es) = tree.join p (all_without_groups es)
  without_groups (replication p c es) =
      tree.replication p (without_groups c) (all_without_groups es)

  pub all_without_groups : WrittenList → tree.ExpressionTrees
  all_without_groups no_more = tree.no_expressions
  all_without_groups (more e es) = tree.more_expressions (without_groups e) (all_without_groups es)

-- the precedence of a binary operator, the tightest first (clause 5.1)
abbrev pub precedence_of : BinOp → ℕ
precedence_of Mul = 1
precedence_of Div = 1
precedence_of Rem = 1
precedence_of Add = 2
precedence_of Sub = 2
precedence_of Shl = 3
precedence_of Shr = 3
precedence_of SignShl = 3
precedence_of SignShr = 3
precedence_of Lt = 4
precedence_of Le = 4
precedence_of Gt = 4
precedence_of Ge = 4
precedence_of Eq = 5
precedence_of Ne = 5
precedence_of And = 6
precedence_of Xor = 7
precedence_of Xnor = 7
precedence_of Or = 8
precedence_of LogicAnd = 9
precedence_of LogicOr = 10

-- a choice binds loosest; what begins with a unary operator, and what has none outside, tightest
abbrev pub binding : Written → ℕ
binding (binary op p a b) = precedence_of op
binding (choice p c a b) = 11
binding _ = 0
