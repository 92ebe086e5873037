-- Private: how the code goes. What a function that reads says of the machine: reading these symbols
-- comes to reading those on the tokens that are left; or it fails there.
use Rattle.std.specs.Prelude.{◌≡◌, ℕ, ◌<◌, false, not, IsTrue, List, [], ◌∷◌, ◌++◌, length, Some}
use Rattle.sv_num.specs.declared.operators.BinOp.{BinOp}
use Rattle.sv_token.specs.declared.keywords.WordKind.{WordKind}
use Rattle.sv_token.specs.declared.signs.SignKind.{SignKind}
use Rattle.sv_token.specs.declared.signs.SignKind.TheVariants as signs
use Rattle.sv_token.specs.declared.signs.Operator.{Operator}
use Rattle.sv_token.specs.Lexemes.{Lexeme, word, identifier, numeral, sign, Literal, Placed}
use Rattle.sv_token.specs.Words.{is_refused_word}
use Rattle.sv_num.specs.declared.operators.UnOp.{UnOp}
use Rattle.sv_ast.specs.GrammarForms.{binary_operator, unary_operator, a_sign}
use Rattle.sv_ast.specs.GrammarGroups.{precedence_of}
use Rattle.sv_ast.specs.GrammarRules.{all_limits}
use Rattle.sv_parse_machine.specs.Symbols.{State, Inner, something, inner, takes_inner, stuck_inner}
use Rattle.sv_parse_machine.specs.ExpressionTable.{inner_on}
use Rattle.sv_parse_machine.specs.Machine.{Failure, ends_early, fails, may_be_empty, run}

-- whatever is still to come behind them
pub record Reads (xs ys : State) (ts rest : List Placed) : Type 0 where
  pub runs : (below : State) → run all_limits (xs ++ below) ts ≡ run all_limits (ys ++ below) rest

-- where no token is left, the text ends too early
abbrev pub failure_at : Failure → List Placed → Failure
failure_at f [] = ends_early
failure_at f (t ∷ ts) = f

-- with so many tokens left
pub record Halts (xs : State) (ts : List Placed) (f : Failure) (left : ℕ) : Type 0 where
  pub rest : List Placed
  pub many : length rest ≡ left
  pub runs : (below : State) → run all_limits (xs ++ below) ts ≡ fails (failure_at f rest) rest

-- ---- what does not come next

abbrev pub IsNot : Lexeme → Lexeme → Type 0
IsNot y x = x ≡ y → ⊥

abbrev pub IsNoName : Lexeme → Type 0
IsNoName x = (y : List ℕ) → x ≡ identifier y → IsTrue (not (is_refused_word y)) → ⊥

abbrev pub IsNoNumber : Lexeme → Type 0
IsNoNumber x = (v : Literal) → x ≡ numeral v → ⊥

abbrev pub IsNoOperator : BinOp → Lexeme → Type 0
IsNoOperator op x = (o : Operator) → x ≡ sign (signs.Operator o) → binary_operator o ≡ Some op → ⊥

-- of the next token, if there is one
abbrev pub NextIs : (Lexeme → Type 0) → List Placed → Type 0
NextIs P [] = Unit {0}
NextIs P (t ∷ ts) = P t.lexeme

abbrev pub NextIsNot : Lexeme → List Placed → Type 0
NextIsNot y = NextIs (IsNot y)

abbrev pub NextIsNotSign : SignKind → List Placed → Type 0
NextIsNotSign s = NextIsNot (sign s)

abbrev pub NextIsNotWord : WordKind → List Placed → Type 0
NextIsNotWord w = NextIsNot (word w)

abbrev pub NextIsNoName : List Placed → Type 0
NextIsNoName = NextIs IsNoName

abbrev pub NextIsNoNumber : List Placed → Type 0
NextIsNoNumber = NextIs IsNoNumber

abbrev pub NextIsNoOperator : BinOp → List Placed → Type 0
NextIsNoOperator op = NextIs (IsNoOperator op)

abbrev pub IsNoBinary : Lexeme → Type 0
IsNoBinary x =
    (o : Operator) (op : BinOp) → x ≡ sign (signs.Operator o) → binary_operator o ≡ Some op → ⊥

abbrev pub NextIsNoBinary : List Placed → Type 0
NextIsNoBinary = NextIs IsNoBinary

abbrev pub IsNoUnary : Lexeme → Type 0
IsNoUnary x =
    (o : Operator) (op : UnOp) → x ≡ sign (signs.Operator o) → unary_operator o ≡ Some op → ⊥

abbrev pub NextIsNoUnary : List Placed → Type 0
NextIsNoUnary = NextIs IsNoUnary

-- no binary operator of the precedence
abbrev pub IsNotOfPrecedence : ℕ → Lexeme → Type 0
IsNotOfPrecedence precedence x =
    (o : Operator) (op : BinOp) → x ≡ sign (signs.Operator o) → binary_operator o ≡ Some op →
    precedence_of op ≡ precedence → ⊥

abbrev pub NextIsNotOfPrecedence : ℕ → List Placed → Type 0
NextIsNotOfPrecedence precedence = NextIs (IsNotOfPrecedence precedence)

-- if a binary operator, one that binds looser than the precedence
abbrev pub IsLooser : ℕ → Lexeme → Type 0
IsLooser precedence x =
    (o : Operator) (op : BinOp) → x ≡ sign (signs.Operator o) → binary_operator o ≡ Some op →
    precedence < precedence_of op

abbrev pub NextIsLooser : ℕ → List Placed → Type 0
NextIsLooser precedence = NextIs (IsLooser precedence)

-- ---- what comes next

-- a token that the symbol of an expression takes, with which a level of this number opens, or none
-- (0)
abbrev pub NextTakes : Inner → (level : ℕ) → (xs : List Inner) → List Placed → Type 0
NextTakes s level xs [] = ⊥
NextTakes s level xs (t ∷ ts) = inner_on s t.lexeme ≡ takes_inner level xs

-- the symbol is the sign alone, which has to come
pub record Closes (k : SignKind) (s : Inner) : Type 0 where
  pub taken : inner_on s (sign k) ≡ takes_inner 0 []
  pub other : (x : Lexeme) → IsNot (sign k) x → inner_on s x ≡ stuck_inner something
  pub full : (start : ℕ) → may_be_empty (inner start s) ≡ false

-- behind a comma comes what is next in the list, and then the same again
pub record GoesOn (more next : State) : Type 0 where
  pub comma : (ts rest : List Placed) → a_sign signs.Comma ts rest →
      Reads more (next ++ more) ts rest

abbrev pub NextIsSign : SignKind → List Placed → Type 0
NextIsSign k [] = ⊥
NextIsSign k (t ∷ ts) = t.lexeme ≡ sign k

-- a name, refused or not
abbrev pub NextIsAnyName : List Placed → Type 0
NextIsAnyName [] = ⊥
NextIsAnyName (t ∷ ts) = (x : List ℕ) × (t.lexeme ≡ identifier x)

abbrev pub NextIsNumber : List Placed → Type 0
NextIsNumber [] = ⊥
NextIsNumber (t ∷ ts) = (v : Literal) × (t.lexeme ≡ numeral v)

abbrev pub NextIsAnyOperator : List Placed → Type 0
NextIsAnyOperator [] = ⊥
NextIsAnyOperator (t ∷ ts) = (o : Operator) × (t.lexeme ≡ sign (signs.Operator o))

-- a name, refused or not, or an opening brace
abbrev pub BeginsTarget : Lexeme → Type 0
BeginsTarget (identifier x) = Unit {0}
BeginsTarget (sign signs.OpenBrace) = Unit {0}
BeginsTarget x = ⊥

abbrev pub NextIsTarget : List Placed → Type 0
NextIsTarget [] = ⊥
NextIsTarget (t ∷ ts) = BeginsTarget t.lexeme
