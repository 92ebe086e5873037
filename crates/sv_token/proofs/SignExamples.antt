-- Signs: what the plain program finds.
use Rattle.std.proofs.Common.{◌≡◌, true, [], ◌∷◌, map, Some, None, refl}
use Rattle.std.specs.Prelude.{codes}
use Rattle.sv_token.specs.declared.signs.SignKind.TheVariants.{Question, Colon, Semicolon, Comma}
use Rattle.sv_token.specs.declared.signs.SignKind.TheVariants.{Dot, OpenParenthesis}
use Rattle.sv_token.specs.declared.signs.SignKind.TheVariants.{CloseParenthesis, OpenBracket}
use Rattle.sv_token.specs.declared.signs.SignKind.TheVariants.{CloseBracket, OpenBrace, CloseBrace}
use Rattle.sv_token.specs.declared.signs.SignKind.TheVariants.{Equals, Hash, At}
use Rattle.sv_token.specs.Lexed.{lexed, tokens}
use Rattle.sv_token.proofs.Computed.{computed, the_name, the_sign, the_operator, unsized}
use Rattle.sv_token.proofs.Computed.{refused_at, left_out_at, EachGives}

-- the operators between two operands; some stand before one too
pub binary_operators :
    lexed (codes "* / % + - << >> <<< >>> < <= > >= == != & ^ ~^ ^~ | && ||") ≡
    tokens
    (the_operator (Some 0) None 1 1 ∷ the_operator (Some 1) None 1 3 ∷
    the_operator (Some 2) None 1 5
    ∷ the_operator (Some 3) (Some 0) 1 7 ∷ the_operator (Some 4) (Some 1) 1 9
    ∷ the_operator (Some 5) None 1 11 ∷ the_operator (Some 6) None 1 14
    ∷ the_operator (Some 7) None 1 17 ∷ the_operator (Some 8) None 1 21
    ∷ the_operator (Some 9) None 1 25 ∷ the_operator (Some 10) None 1 27
    ∷ the_operator (Some 11) None 1 30 ∷ the_operator (Some 12) None 1 32
    ∷ the_operator (Some 13) None 1 35 ∷ the_operator (Some 14) None 1 38
    ∷ the_operator (Some 15) (Some 4) 1 41 ∷ the_operator (Some 16) (Some 8) 1 43
    ∷ the_operator (Some 17) (Some 9) 1 45 ∷ the_operator (Some 18) (Some 10) 1 48
    ∷ the_operator (Some 19) (Some 6) 1 51 ∷ the_operator (Some 20) None 1 53
    ∷ the_operator (Some 21) None 1 56 ∷ [])
unfolding computed
binary_operators = refl

-- the operators before one operand alone
pub unary_operators :
    lexed (codes "! ~ ~& ~|") ≡
    tokens
    (the_operator None (Some 2) 1 1 ∷ the_operator None (Some 3) 1 3 ∷
    the_operator None (Some 5) 1 5
    ∷ the_operator None (Some 7) 1 8 ∷ [])
unfolding computed
unary_operators = refl

-- the signs that are no operators
pub punctuation_signs :
    lexed (codes "?:;,.()[]{}=#@") ≡
    tokens
    (the_sign Question 1 1 ∷ the_sign Colon 1 2 ∷ the_sign Semicolon 1 3 ∷ the_sign Comma 1 4
    ∷ the_sign Dot 1 5 ∷ the_sign OpenParenthesis 1 6 ∷ the_sign CloseParenthesis 1 7
    ∷ the_sign OpenBracket 1 8 ∷ the_sign CloseBracket 1 9 ∷ the_sign OpenBrace 1 10
    ∷ the_sign CloseBrace 1 11 ∷ the_sign Equals 1 12 ∷ the_sign Hash 1 13 ∷ the_sign At 1 14 ∷ [])
unfolding computed
punctuation_signs = refl

-- `~&` is one sign
pub nand_before_name :
    lexed (codes "a~&b") ≡
    tokens
    (the_name (codes "a") 1 1 ∷ the_operator None (Some 5) 1 2 ∷ the_name (codes "b") 1 4 ∷ [])
unfolding computed
nand_before_name = refl

-- so is `<<<`
pub sign_shift :
    lexed (codes "a<<<b") ≡
    tokens
    (the_name (codes "a") 1 1 ∷ the_operator (Some 7) None 1 2 ∷ the_name (codes "b") 1 5 ∷ [])
unfolding computed
sign_shift = refl

-- no sign has four bytes
pub four_in_a_row : lexed (codes ">>>>") ≡
    tokens (the_operator (Some 8) None 1 1 ∷ the_operator (Some 11) None 1 4 ∷ [])
unfolding computed
four_in_a_row = refl

-- the longest from the left: `~^` and `~`, `^~` and `^`
pub xnor_from_the_left :
    map lexed
    (codes "~^~" ∷ codes "^~^" ∷ []) ≡
    tokens (the_operator (Some 17) (Some 9) 1 1 ∷ the_operator None (Some 3) 1 3 ∷ [])
    ∷ tokens (the_operator (Some 18) (Some 10) 1 1 ∷ the_operator (Some 16) (Some 8) 1 3 ∷ []) ∷ []
unfolding computed
xnor_from_the_left = refl

-- signs that make no longer one
pub signs_side_by_side :
    lexed (codes "a=<&&&1") ≡
    tokens
    (the_name (codes "a") 1 1 ∷ the_sign Equals 1 2 ∷ the_operator (Some 9) None 1 3
    ∷ the_operator (Some 20) None 1 4 ∷ the_operator (Some 15) (Some 4) 1 6 ∷ unsized true 1 1 7
    ∷ [])
unfolding computed
signs_side_by_side = refl

-- signs of forms that are left out
pub left_out_signs :
    map lexed
    (codes "a===b" ∷ codes "a!==!b" ∷ codes "a**b" ∷ codes "1+:1" ∷ codes "a-:1" ∷
    codes "@->" ∷ []) ≡
    left_out_at (codes "case-equality") 1 2 ∷ left_out_at (codes "case-equality") 1 2
    ∷ left_out_at (codes "power") 1 2 ∷ left_out_at (codes "indexed-part") 1 2
    ∷ left_out_at (codes "indexed-part") 1 2 ∷ left_out_at (codes "event") 1 2 ∷ []
unfolding computed
left_out_signs = refl

-- they take part in the longest token: `-` before `->`, `<` before `->`, `===` before `=`
pub left_out_is_longest :
    map lexed
    (codes "a-->b" ∷ codes "a<->b" ∷ codes "=====" ∷ []) ≡
    left_out_at (codes "event") 1 3 ∷ left_out_at (codes "event") 1 3
    ∷ left_out_at (codes "case-equality") 1 1 ∷ []
unfolding computed
left_out_is_longest = refl

-- an escaped name, whatever follows
pub escaped_names : EachGives (left_out_at (codes "escaped-name") 1 1)
    (codes "\\a " ∷ codes "\\" ∷ [])
unfolding computed
escaped_names = refl

-- a string, closed or not
pub strings : EachGives (left_out_at (codes "string") 1 1) (codes "\"a\"" ∷ codes "\"" ∷ [])
unfolding computed
strings = refl

-- bytes that begin no token: 0, a vertical tab, and what is over 127
pub bad_bytes : map lexed ((0 ∷ []) ∷ (97 ∷ 11 ∷ []) ∷ (128 ∷ []) ∷ (32 ∷ 195 ∷ 164 ∷ []) ∷ []) ≡
    refused_at 101 1 1 ∷ refused_at 101 1 2 ∷ refused_at 101 1 1 ∷ refused_at 101 1 2 ∷ []
unfolding computed
bad_bytes = refl
