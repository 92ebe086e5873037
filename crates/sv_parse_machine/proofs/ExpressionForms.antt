-- What the symbols of expressions stand for.
use Rattle.std.specs.Prelude.{◌≡◌, ℕ, ◌+◌, IsTrue, List, [], ◌∷◌, ◌⊎◌}
use Rattle.sv_num.specs.declared.operators.BinOp.{BinOp}
use Rattle.sv_num.specs.declared.faults.Place.{Place}
use Rattle.sv_token.specs.declared.signs.SignKind.TheVariants as signs
use Rattle.sv_token.specs.Lexemes.{Lexeme, Placed}
use Rattle.sv_ast.specs.GrammarForms.{Form, ◌⨾◌, ◌or◌, nothing, each, sign_at, a_sign, binary_at}
use Rattle.sv_ast.specs.GrammarForms.{in_brackets, in_braces}
use Rattle.sv_ast.specs.GrammarGroups.{Written, named, unary, binary, choice, WrittenList}
use Rattle.sv_ast.specs.GrammarExpressions.{Limits, is_within, deeper, IsWritten, AreWritten}
use Rattle.sv_ast.specs.GrammarExpressions.{AreMore, read_tokens}
use Rattle.sv_ast.proofs.GrammarOneOperand.{IsOperand}
use Rattle.sv_parse_machine.specs.Symbols.{Inner, operand, tail, selection, selection_end}
use Rattle.sv_parse_machine.specs.Symbols.{members_or_count, members, inner_colon, inner_parenthesis}
use Rattle.sv_parse_machine.specs.Symbols.{inner_bracket, inner_brace, InnerReaction, takes_inner}
use Rattle.sv_parse_machine.specs.Symbols.{over_inner, stuck_inner}
use Rattle.sv_parse_machine.specs.ExpressionTable.{tail_on, selection_on}

-- of the next token, if there is one
abbrev pub Next : (Lexeme → Type 0) → List Placed → Type 0
Next P [] = Unit {0}
Next P (t ∷ ts) = P t.lexeme

abbrev pub IsOverInner : InnerReaction → Type 0
IsOverInner over_inner = Unit {0}
IsOverInner r = ⊥

-- no operator and no `?`
abbrev pub ends_tail : Lexeme → Type 0
ends_tail x = IsOverInner (tail_on 0 x)

-- no bit or part, and no dot
abbrev pub ends_name : Lexeme → Type 0
ends_name x = IsOverInner (selection_on 0 x)

-- where the last token is a name, no bit or part of it follows
abbrev pub Ends : Written → List Placed → Type 0
Ends (named x p) rest = Next ends_name rest
Ends (unary op p e) rest = Ends e rest
Ends (binary op p a b) rest = Ends b rest
Ends (choice p c a b) rest = Ends b rest
Ends w rest = Unit {0}

-- an operand, up to where nothing of it follows
abbrev pub operand_is : Limits → ℕ → Written → Form
operand_is l n w ts rest = IsOperand w × IsWritten l n w ts rest × Ends w rest

abbrev pub operand_form : Limits → ℕ → Form
operand_form l n ts rest = (w : Written) × operand_is l n w ts rest

-- a binary operator with the operand behind it
pub record Link : Type 0 where
  pub operator : BinOp
  pub place : Place
  pub right : Written

abbrev pub row_form : Limits → ℕ → List Link → Form
row_form l n [] = nothing
row_form l n (k ∷ ks) = binary_at k.operator k.place ⨾ operand_is l n k.right ⨾ row_form l n ks

abbrev pub written_form : Limits → ℕ → Form
written_form l n ts rest = (w : Written) × IsWritten l n w ts rest

abbrev pub chosen_form : Limits → ℕ → Form
chosen_form l n ts rest =
    (p : Place) × (a b : Written)
    × deeper l n (sign_at signs.Question p ⨾ IsWritten l (n + 1) a ⨾ a_sign signs.Colon
    ⨾ IsWritten l (n + 1) b) ts rest
    × Ends b rest
    × Next ends_tail rest

abbrev pub row_end : Form
row_end ts rest = Next ends_tail ts × (ts ≡ rest)

abbrev pub tail_form : Limits → ℕ → Form
tail_form l n ts rest = (ks : List Link) × (row_form l n ks ⨾ (row_end or chosen_form l n)) ts rest

abbrev pub name_end : Form
name_end ts rest = Next ends_name ts × (ts ≡ rest)

abbrev pub selection_form : Limits → ℕ → Form
selection_form l n ts rest =
    name_end ts rest
    ⊎ ((i : Written) × deeper l n (in_brackets (IsWritten l (n + 1) i)) ts rest)
    ⊎ ((high low : Written)
    × deeper l n (in_brackets (IsWritten l (n + 1) high ⨾ a_sign signs.Colon
    ⨾ IsWritten l (n + 1) low)) ts rest)

abbrev pub selection_end_form : Limits → ℕ → Form
selection_end_form l n =
    a_sign signs.CloseBracket or (a_sign signs.Colon ⨾ written_form l n ⨾ a_sign signs.CloseBracket)

abbrev pub members_form : Limits → ℕ → Form
members_form l n ts rest = (es : WrittenList) × (AreMore l n es ⨾ a_sign signs.CloseBrace) ts rest

abbrev pub members_or_count_form : Limits → ℕ → Form
members_or_count_form l n ts rest =
    members_form l n ts rest
    ⊎ ((es : WrittenList)
    × (deeper l n (in_braces (AreWritten l (n + 1) es)) ⨾ a_sign signs.CloseBrace) ts rest)

abbrev pub inner_form : Limits → Inner → Form
inner_form l (operand n) = operand_form l n
inner_form l (tail n) = tail_form l n
inner_form l (selection n) = selection_form l n
inner_form l (selection_end n) = selection_end_form l n
inner_form l (members_or_count n) = members_or_count_form l n
inner_form l (members n) = members_form l n
inner_form l inner_colon = a_sign signs.Colon
inner_form l inner_parenthesis = a_sign signs.CloseParenthesis
inner_form l inner_bracket = a_sign signs.CloseBracket
inner_form l inner_brace = a_sign signs.CloseBrace

abbrev pub inner_forms : Limits → List Inner → Form
inner_forms l xs = each (inner_form l) xs

-- what a token and the tokens behind it are to a symbol
abbrev pub AcceptsInner : Limits → Placed → (ts rest : List Placed) → InnerReaction → Type 0
AcceptsInner l t ts rest (takes_inner level xs) =
    IsTrue (is_within l.levels level) × inner_forms l xs ts rest
AcceptsInner l t ts rest over_inner = t ∷ ts ≡ rest
AcceptsInner l t ts rest (stuck_inner e) = ⊥

-- an expression that stands in no other one, up to where nothing of it follows
abbrev pub expression_form : Limits → ℕ → Form
expression_form l n ts rest =
    (w : Written)
    × IsWritten l n w ts rest
    × Ends w rest
    × Next ends_tail rest
    × IsTrue (is_within l.tokens (read_tokens l ts rest))
