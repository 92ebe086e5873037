-- Private: how the code goes. What the private functions say of what they read: from the tokens
-- that they are handed to those that they give back stands a form of the grammar.
use Rattle.std.specs.Prelude.{◌≡◌, ℕ, nat_le, IsTrue, List, ◌∷◌, Option, Some, None}
use Rattle.sv_token.specs.declared.signs.SignKind.TheVariants as signs
use Rattle.sv_token.specs.Lexemes.{Placed}
use Rattle.sv_num.specs.declared.faults.Place.{Place}
use Rattle.sv_ast.specs.Tree.{ExpressionTree, bit_of, part_of, more_expressions}
use Rattle.sv_ast.specs.Views.{parts_of}
use Rattle.sv_ast.specs.GrammarForms.{Form, ◌⨾◌, a_sign, later}
use Rattle.sv_ast.specs.GrammarGroups.{Written, WrittenList, without_groups, all_without_groups}
use Rattle.sv_ast.specs.GrammarGroups.{binding}
use Rattle.sv_ast.specs.GrammarExpressions.{IsWritten, AreWritten, AreMore}
use Rattle.sv_ast.specs.GrammarRules.{all_limits}

-- an expression of the tree, whose operators outside groups are no looser than the precedence; it
-- may stand in another one
pub record IsChain (n precedence : ℕ) (e : ExpressionTree) (ts rest : List Placed) : Type 0 where
  pub written : Written
  pub tree : without_groups written ≡ e
  pub binds : IsTrue (nat_le (binding written) precedence)
  pub is : IsWritten all_limits n written ts rest

-- the parts of a join or replication, commas between them
pub record AreParts (n : ℕ) (es : List ExpressionTree) (ts rest : List Placed) : Type 0 where
  pub written : WrittenList
  pub trees : all_without_groups written ≡ parts_of es
  pub are : AreWritten all_limits n written ts rest

-- what follows the first of the parts
pub record AreLaterParts (n : ℕ) (first : ExpressionTree) (es : List ExpressionTree)
    (ts rest : List Placed) : Type 0 where
  pub written : WrittenList
  pub trees : more_expressions first (all_without_groups written) ≡ parts_of es
  pub are : AreMore all_limits n written ts rest

-- a bit, or a part with the second bound
abbrev pub selected_tree : List ℕ → Place → ExpressionTree → Option ExpressionTree → ExpressionTree
selected_tree name place high None = bit_of name place high
selected_tree name place high (Some low) = part_of name place high low

-- an index, or two bounds, and the bracket behind
abbrev pub IsBounded : ℕ → ExpressionTree → Option ExpressionTree → Form
IsBounded n high None = IsChain n 11 high ⨾ a_sign signs.CloseBracket
IsBounded n high (Some low) =
    IsChain n 11 high ⨾ a_sign signs.Colon ⨾ IsChain n 11 low ⨾ a_sign signs.CloseBracket

-- the parts of a replication, and both closing braces
abbrev pub IsRepeated : ℕ → List ExpressionTree → Form
IsRepeated n es = AreParts n es ⨾ a_sign signs.CloseBrace ⨾ a_sign signs.CloseBrace

-- further members of a list, a comma before each; `all` are the first one and these
pub record AreLater (A : Type 0) (Later : A → A →
    Form) (first : A) (all : List A) (ts rest : List Placed) : Type 0 where
  pub others : List A
  pub whole : all ≡ first ∷ others
  pub are : later Later first others ts rest
