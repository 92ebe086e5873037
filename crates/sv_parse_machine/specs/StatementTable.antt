-- Private: how the code goes. What a token does to each symbol of a statement.
use Rattle.std.specs.Prelude.{ℕ, suc, zero, ◌+◌, Bool, true, false, List, [], ◌∷◌, Option, Some}
use Rattle.sv_num.specs.declared.operators.BinOp.{BinOp}
use Rattle.sv_num.specs.declared.operators.BinOp.TheVariants.{Le, Mul}
use Rattle.sv_token.specs.declared.keywords.WordKind.TheVariants as words
use Rattle.sv_token.specs.declared.signs.SignKind.{SignKind}
use Rattle.sv_token.specs.declared.signs.SignKind.TheVariants as signs
use Rattle.sv_token.specs.Lexemes.{Lexeme, word, identifier, numeral, sign}
use Rattle.sv_token.specs.Words.{is_refused_word}
use Rattle.sv_ast.specs.GrammarForms.{binary_operator}
use Rattle.sv_parse_machine.specs.Symbols.{Outer, punctuation, plain_name, expression, more_names}
use Rattle.sv_parse_machine.specs.Symbols.{more_values, statement, statements, perhaps_block_name}
use Rattle.sv_parse_machine.specs.Symbols.{perhaps_else, perhaps_bits, bits_end, more_targets, assigns}
use Rattle.sv_parse_machine.specs.Symbols.{arms, more_choices, perhaps_colon, a_statement, OuterReaction}
use Rattle.sv_parse_machine.specs.Symbols.{takes, over, stuck, takes_all, unexpected, and_then}
use Rattle.sv_parse_machine.specs.Symbols.{unless_refused}
use Rattle.sv_parse_machine.specs.ExpressionTable.{expression_on}

-- ---- single tokens and lists of names or expressions

abbrev pub is_sign : (wanted found : SignKind) → Bool
is_sign signs.Question signs.Question = true
is_sign signs.Colon signs.Colon = true
is_sign signs.Semicolon signs.Semicolon = true
is_sign signs.Comma signs.Comma = true
is_sign signs.Dot signs.Dot = true
is_sign signs.OpenParenthesis signs.OpenParenthesis = true
is_sign signs.CloseParenthesis signs.CloseParenthesis = true
is_sign signs.OpenBracket signs.OpenBracket = true
is_sign signs.CloseBracket signs.CloseBracket = true
is_sign signs.OpenBrace signs.OpenBrace = true
is_sign signs.CloseBrace signs.CloseBrace = true
is_sign signs.Equals signs.Equals = true
is_sign signs.Hash signs.Hash = true
is_sign signs.At signs.At = true
is_sign s t = false

abbrev pub taken_if : Bool → OuterReaction
taken_if true = takes_all []
taken_if false = unexpected

abbrev pub punctuation_on : SignKind → Lexeme → OuterReaction
punctuation_on s (sign t) = taken_if (is_sign s t)
punctuation_on s x = unexpected

abbrev pub name_on : Lexeme → OuterReaction
name_on (identifier x) = unless_refused (is_refused_word x) (takes_all [])
name_on x = unexpected

abbrev pub number_on : Lexeme → OuterReaction
number_on (numeral v) = takes_all []
number_on x = unexpected

abbrev pub is_less_equal : Option BinOp → Bool
is_less_equal (Some Le) = true
is_less_equal o = false

abbrev pub is_star : Option BinOp → Bool
is_star (Some Mul) = true
is_star o = false

abbrev pub less_equal_on : Lexeme → OuterReaction
less_equal_on (sign (signs.Operator o)) = taken_if (is_less_equal (binary_operator o))
less_equal_on x = unexpected

abbrev pub listed_names_on : Lexeme → OuterReaction
listed_names_on (sign signs.Comma) = takes_all (plain_name ∷ more_names signs.Semicolon ∷ [])
listed_names_on (sign signs.Semicolon) = takes_all []
listed_names_on x = unexpected

abbrev pub joined_names_on : Lexeme → OuterReaction
joined_names_on (sign signs.Comma) = takes_all (plain_name ∷ more_names signs.CloseBrace ∷ [])
joined_names_on (sign signs.CloseBrace) = takes_all []
joined_names_on x = unexpected

-- names of a list end with `;`, those of a join with `}`
abbrev pub more_names_on : SignKind → Lexeme → OuterReaction
more_names_on signs.Semicolon x = listed_names_on x
more_names_on signs.CloseBrace x = joined_names_on x
more_names_on s x = unexpected

abbrev pub more_values_on : Lexeme → OuterReaction
more_values_on (sign signs.Comma) = takes_all (expression 0 ∷ more_values ∷ [])
more_values_on (sign signs.CloseParenthesis) = takes_all []
more_values_on x = unexpected

-- ---- statements

abbrev pub condition : ℕ → List Outer → List Outer
condition n ys =
    punctuation signs.OpenParenthesis ∷ expression n ∷ punctuation signs.CloseParenthesis ∷ ys

abbrev pub assignment_behind : ℕ → List Outer
assignment_behind n = assigns ∷ expression n ∷ punctuation signs.Semicolon ∷ []

abbrev pub statement_on : ℕ → Lexeme → OuterReaction
statement_on n (sign signs.Semicolon) = takes_all []
statement_on n (identifier x) =
    unless_refused (is_refused_word x) (takes_all (perhaps_bits n ∷ assignment_behind n))
statement_on n (sign signs.OpenBrace) =
    takes_all (plain_name ∷ perhaps_bits n ∷ more_targets n ∷ assignment_behind n)
statement_on n (word words.Begin) = takes (n + 1) 0 (perhaps_block_name ∷ statements (n + 1) ∷ [])
statement_on n (word words.If) =
    takes (n + 1) 0 (condition (n + 1) (statement (n + 1) ∷ perhaps_else (n + 1) ∷ []))
statement_on n (word words.Case) = takes (n + 1) 0 (condition (n + 1) (arms (n + 1) 0 false ∷ []))
statement_on n x = stuck a_statement

abbrev pub statements_on : ℕ → Lexeme → OuterReaction
statements_on n (word words.End) = takes_all []
statements_on n x = and_then (statements n ∷ []) (statement_on n x)

abbrev pub perhaps_block_name_on : Lexeme → OuterReaction
perhaps_block_name_on (sign signs.Colon) = takes_all (plain_name ∷ [])
perhaps_block_name_on x = over

abbrev pub perhaps_else_on : ℕ → Lexeme → OuterReaction
perhaps_else_on n (word words.Else) = takes_all (statement n ∷ [])
perhaps_else_on n x = over

abbrev pub perhaps_bits_on : ℕ → Lexeme → OuterReaction
perhaps_bits_on n (sign signs.OpenBracket) = takes_all (expression n ∷ bits_end n ∷ [])
perhaps_bits_on n x = over

abbrev pub bits_end_on : ℕ → Lexeme → OuterReaction
bits_end_on n (sign signs.CloseBracket) = takes_all []
bits_end_on n (sign signs.Colon) = takes_all (expression n ∷ punctuation signs.CloseBracket ∷ [])
bits_end_on n x = unexpected

abbrev pub more_targets_on : ℕ → Lexeme → OuterReaction
more_targets_on n (sign signs.Comma) = takes_all (plain_name ∷ perhaps_bits n ∷ more_targets n ∷ [])
more_targets_on n (sign signs.CloseBrace) = takes_all []
more_targets_on n x = unexpected

abbrev pub assigns_on : Lexeme → OuterReaction
assigns_on (sign signs.Equals) = takes_all []
assigns_on (sign (signs.Operator o)) = taken_if (is_less_equal (binary_operator o))
assigns_on x = unexpected

-- ---- arms

abbrev pub no_more_arms : (before : ℕ) → OuterReaction
no_more_arms zero = unexpected
no_more_arms (suc k) = takes_all []

abbrev pub default_arm : ℕ → (before : ℕ) → (default : Bool) → OuterReaction
default_arm n before true = unexpected
default_arm n before false =
    takes 0 (before + 1) (perhaps_colon ∷ statement n ∷ arms n (before + 1) true ∷ [])

abbrev pub arms_on : ℕ → ℕ → Bool → Lexeme → OuterReaction
arms_on n before default (word words.Endcase) = no_more_arms before
arms_on n before default (word words.Default) = default_arm n before default
arms_on n before default x =
    expression_on n (before + 1) (more_choices n ∷ statement n ∷ arms n (before + 1) default ∷ []) x

abbrev pub more_choices_on : ℕ → Lexeme → OuterReaction
more_choices_on n (sign signs.Comma) = takes_all (expression n ∷ more_choices n ∷ [])
more_choices_on n (sign signs.Colon) = takes_all []
more_choices_on n x = unexpected

abbrev pub perhaps_colon_on : Lexeme → OuterReaction
perhaps_colon_on (sign signs.Colon) = takes_all []
perhaps_colon_on x = over
