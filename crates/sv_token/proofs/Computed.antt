-- The plain program opened up, and tokens in a short form, for examples.
use Rattle.std.proofs.Common.{◌≡◌, ℕ, Bool, true, false, List, [], ◌∷◌, map, Option}
use Rattle.sv_token.specs.declared.keywords.WordKind.{WordKind}
use Rattle.sv_token.specs.declared.signs.SignKind.{SignKind}
use Rattle.sv_token.specs.declared.signs.SignKind.TheVariants.{Operator}
use Rattle.sv_token.specs.Gaps.{block_comment_at, directive_at}
use Rattle.sv_token.specs.Lexed.{Lexed, lexed, refused}
use Rattle.sv_token.specs.Lexemes.{Placed, Literal, Lexeme, word, identifier, numeral, sign}
use Rattle.sv_token.specs.Numerals.{number_at, unsized_number_at}
use Rattle.sv_token.specs.Signs.{sign_of, sign_text, sign_at}
use Rattle.sv_token.specs.Tokens.{front_at}
use Rattle.sv_token.specs.Words.{word_of, name_at, system_name_at}

-- an example names this one definition to compute with all of them
unfoldable pub computed : List ℕ → Lexed
unfolding front_at word_of name_at system_name_at block_comment_at directive_at number_at
    unsized_number_at sign_of sign_text sign_at
computed bytes = lexed bytes

-- tokens, each with its line and column

abbrev pub placed : Lexeme → ℕ → ℕ → Placed
placed lexeme line column =
    record { lexeme = lexeme; place = record { line = line; column = column } }

abbrev pub the_word : WordKind → ℕ → ℕ → Placed
the_word w = placed (word w)

abbrev pub the_name : List ℕ → ℕ → ℕ → Placed
the_name name = placed (identifier name)

abbrev pub the_sign : SignKind → ℕ → ℕ → Placed
the_sign s = placed (sign s)

-- an operator by its rows among the binary and the unary ones
abbrev pub the_operator : Option ℕ → Option ℕ → ℕ → ℕ → Placed
the_operator binary unary = the_sign (Operator (record { binary = binary; unary = unary }))

-- a number whose length is written, by its length, sign and value
abbrev pub sized : ℕ → Bool → ℕ → ℕ → ℕ → Placed
sized width signed value =
    let l : Literal = record { width = width; signed = signed; value = value; sized = true } in
    placed (numeral l)

-- a number whose length is not written, by its sign and value
abbrev pub unsized : Bool → ℕ → ℕ → ℕ → Placed
unsized signed value =
    let l : Literal = record { width = 32; signed = signed; value = value; sized = false } in
    placed (numeral l)

-- refusals, each with its line and column

abbrev pub refused_at : ℕ → ℕ → ℕ → Lexed
refused_at number line column = refused number [] (record { line = line; column = column })

abbrev pub left_out_at : List ℕ → ℕ → ℕ → Lexed
left_out_at form line column = refused 104 (form ∷ []) (record { line = line; column = column })

-- each of the texts gives the same
abbrev pub EachGives : Lexed → List (List ℕ) → Type 0
EachGives found texts = map lexed texts ≡ map (λ text. found) texts
