-- Private: how the code goes. What a token does to each symbol of an expression.
use Rattle.std.specs.Prelude.{ℕ, ◌+◌, Bool, true, false, List, [], ◌∷◌, ◌++◌, Option, Some, None}
use Rattle.sv_num.specs.declared.operators.UnOp.{UnOp}
use Rattle.sv_num.specs.declared.operators.BinOp.{BinOp}
use Rattle.sv_token.specs.declared.signs.SignKind.TheVariants as signs
use Rattle.sv_token.specs.Lexemes.{Lexeme, identifier, numeral, sign}
use Rattle.sv_token.specs.Words.{is_refused_word}
use Rattle.sv_ast.specs.GrammarForms.{binary_operator, unary_operator}
use Rattle.sv_parse_machine.specs.Symbols.{Inner, operand, tail, selection, selection_end}
use Rattle.sv_parse_machine.specs.Symbols.{members_or_count, members, inner_colon, inner_parenthesis}
use Rattle.sv_parse_machine.specs.Symbols.{inner_bracket, inner_brace, Outer, something, behind_name}
use Rattle.sv_parse_machine.specs.Symbols.{InnerReaction, takes_inner, over_inner, stuck_inner}
use Rattle.sv_parse_machine.specs.Symbols.{OuterReaction, begins, over, stuck}

abbrev pub unexpected_inner : InnerReaction
unexpected_inner = stuck_inner something

-- an expression is an operand and what follows one
abbrev pub inside : ℕ → List Inner → List Inner
inside n xs = operand n ∷ tail n ∷ xs

abbrev pub name_operand : ℕ → (refused : Bool) → InnerReaction
name_operand n true = unexpected_inner
name_operand n false = takes_inner 0 (selection n ∷ [])

abbrev pub prefix_operand : ℕ → Option UnOp → InnerReaction
prefix_operand n (Some op) = takes_inner (n + 1) (operand (n + 1) ∷ [])
prefix_operand n None = unexpected_inner

abbrev pub operand_on : ℕ → Lexeme → InnerReaction
operand_on n (numeral v) = takes_inner 0 []
operand_on n (identifier x) = name_operand n (is_refused_word x)
operand_on n (sign signs.OpenParenthesis) =
    takes_inner (n + 1) (inside (n + 1) (inner_parenthesis ∷ []))
operand_on n (sign signs.OpenBrace) =
    takes_inner (n + 1) (inside (n + 1) (members_or_count (n + 1) ∷ []))
operand_on n (sign (signs.Operator o)) = prefix_operand n (unary_operator o)
operand_on n x = unexpected_inner

abbrev pub infix_tail : ℕ → Option BinOp → InnerReaction
infix_tail n (Some op) = takes_inner 0 (inside n [])
infix_tail n None = over_inner

abbrev pub tail_on : ℕ → Lexeme → InnerReaction
tail_on n (sign signs.Question) =
    takes_inner (n + 1) (inside (n + 1) (inner_colon ∷ inside (n + 1) []))
tail_on n (sign (signs.Operator o)) = infix_tail n (binary_operator o)
tail_on n x = over_inner

abbrev pub selection_on : ℕ → Lexeme → InnerReaction
selection_on n (sign signs.OpenBracket) =
    takes_inner (n + 1) (inside (n + 1) (selection_end (n + 1) ∷ []))
selection_on n (sign signs.Dot) = stuck_inner behind_name
selection_on n x = over_inner

abbrev pub selection_end_on : ℕ → Lexeme → InnerReaction
selection_end_on n (sign signs.CloseBracket) = takes_inner 0 []
selection_end_on n (sign signs.Colon) = takes_inner 0 (inside n (inner_bracket ∷ []))
selection_end_on n x = unexpected_inner

abbrev pub members_or_count_on : ℕ → Lexeme → InnerReaction
members_or_count_on n (sign signs.CloseBrace) = takes_inner 0 []
members_or_count_on n (sign signs.Comma) = takes_inner 0 (inside n (members n ∷ []))
members_or_count_on n (sign signs.OpenBrace) =
    takes_inner (n + 1) (inside (n + 1) (members (n + 1) ∷ inner_brace ∷ []))
members_or_count_on n x = unexpected_inner

abbrev pub members_on : ℕ → Lexeme → InnerReaction
members_on n (sign signs.CloseBrace) = takes_inner 0 []
members_on n (sign signs.Comma) = takes_inner 0 (inside n (members n ∷ []))
members_on n x = unexpected_inner

abbrev pub inner_colon_on : Lexeme → InnerReaction
inner_colon_on (sign signs.Colon) = takes_inner 0 []
inner_colon_on x = unexpected_inner

abbrev pub inner_parenthesis_on : Lexeme → InnerReaction
inner_parenthesis_on (sign signs.CloseParenthesis) = takes_inner 0 []
inner_parenthesis_on x = unexpected_inner

abbrev pub inner_bracket_on : Lexeme → InnerReaction
inner_bracket_on (sign signs.CloseBracket) = takes_inner 0 []
inner_bracket_on x = unexpected_inner

abbrev pub inner_brace_on : Lexeme → InnerReaction
inner_brace_on (sign signs.CloseBrace) = takes_inner 0 []
inner_brace_on x = unexpected_inner

abbrev pub inner_on : Inner → Lexeme → InnerReaction
inner_on (operand n) x = operand_on n x
inner_on (tail n) x = tail_on n x
inner_on (selection n) x = selection_on n x
inner_on (selection_end n) x = selection_end_on n x
inner_on (members_or_count n) x = members_or_count_on n x
inner_on (members n) x = members_on n x
inner_on inner_colon x = inner_colon_on x
inner_on inner_parenthesis x = inner_parenthesis_on x
inner_on inner_bracket x = inner_bracket_on x
inner_on inner_brace x = inner_brace_on x

-- a symbol that begins as an expression does, the arm of this number among them, and goes on with
-- others
abbrev pub as_expression : ℕ → (arm : ℕ) → List Outer → InnerReaction → OuterReaction
as_expression n arm ys (takes_inner level xs) = begins level arm (xs ++ tail n ∷ []) ys
as_expression n arm ys over_inner = over
as_expression n arm ys (stuck_inner e) = stuck e

abbrev pub expression_on : ℕ → (arm : ℕ) → List Outer → Lexeme → OuterReaction
expression_on n arm ys x = as_expression n arm ys (operand_on n x)
