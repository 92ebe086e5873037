-- Operators and punctuation (IEEE 1364-2005, clauses 3 and 5). The longest sign is taken, where
-- signs of forms that are left out count too.
use Rattle.std.specs.Prelude.{ℕ, ◌-◌, max, ◌||◌, if◌then◌else◌, List, [], ◌∷◌, ◌++◌, length, map}
use Rattle.std.specs.Prelude.{take, position, fold, Option, Some, None, is_some, codes}
use Rattle.std.specs.Option.{option_map_or}
use Rattle.std.specs.Str.{bytes_eq}
use Rattle.sv_num.specs.OperatorTables.{binary_table, unary_table}
use Rattle.sv_token.specs.declared.signs.SignKind.{SignKind}
use Rattle.sv_token.specs.declared.signs.SignKind.TheVariants as sign_kind
use Rattle.sv_token.specs.Bytes.{begin_with, entry}
use Rattle.sv_token.specs.Fronts.{Front, token, bad_byte, unsupported}
use Rattle.sv_token.specs.Lexemes.{sign}

-- the texts of a table
abbrev pub spellings : {A : Type 0} → List (List ℕ × A) → List (List ℕ)
spellings table = map (λ row. row.0) table

-- the spellings of the operator tables, row by row
abbrev pub binary_spellings : List (List ℕ)
binary_spellings = map (λ row. row.0) binary_table

abbrev pub unary_spellings : List (List ℕ)
unary_spellings = spellings unary_table

-- the signs that are no operators
abbrev pub punctuation : List (List ℕ × SignKind)
punctuation =
    (codes "?", sign_kind.Question)
    ∷ (codes ":", sign_kind.Colon)
    ∷ (codes ";", sign_kind.Semicolon)
    ∷ (codes ",", sign_kind.Comma)
    ∷ (codes ".", sign_kind.Dot)
    ∷ (codes "(", sign_kind.OpenParenthesis)
    ∷ (codes ")", sign_kind.CloseParenthesis)
    ∷ (codes "[", sign_kind.OpenBracket)
    ∷ (codes "]", sign_kind.CloseBracket)
    ∷ (codes "{", sign_kind.OpenBrace)
    ∷ (codes "}", sign_kind.CloseBrace)
    ∷ (codes "=", sign_kind.Equals)
    ∷ (codes "#", sign_kind.Hash)
    ∷ (codes "@", sign_kind.At)
    ∷ []

-- the signs whose forms are left out, with the word for each
abbrev pub left_out_signs : List (List ℕ × List ℕ)
left_out_signs =
    (codes "===", codes "case-equality")
    ∷ (codes "!==", codes "case-equality")
    ∷ (codes "**", codes "power")
    ∷ (codes "+:", codes "indexed-part")
    ∷ (codes "-:", codes "indexed-part")
    ∷ (codes "->", codes "event")
    ∷ []

-- the row of a text in a list of spellings, counted from 0
abbrev pub row_of : List (List ℕ) → List ℕ → Option ℕ
row_of texts text = position (bytes_eq text) texts

-- the operator that the text spells
abbrev pub operator_of : List ℕ → Option SignKind
operator_of text =
    let binary = row_of binary_spellings text in
    let unary = row_of unary_spellings text in
    if is_some binary || is_some unary
    then Some (sign_kind.Operator (record { binary = binary; unary = unary }))
    else None

-- the sign that the text spells
unfoldable pub sign_of : List ℕ → Option SignKind
sign_of text = option_map_or Some (entry punctuation text) (operator_of text)

-- every spelling of a sign
abbrev pub sign_spellings : List (List ℕ)
sign_spellings =
    binary_spellings ++ unary_spellings ++ spellings punctuation ++ spellings left_out_signs

-- the length of the longest of the texts that the bytes begin with, or 0
abbrev pub longest : List (List ℕ) → List ℕ → ℕ
longest texts bytes =
    fold (λ n text. if begin_with text bytes then max n (length text) else n) 0 texts

-- the longest sign at the front of the bytes, as its text
unfoldable pub sign_text : List ℕ → List ℕ
sign_text bytes = take (longest sign_spellings bytes) bytes

-- the longest sign that begins here, if one does
unfoldable pub sign_at : List ℕ → Front
sign_at bytes =
    let text = sign_text bytes in
    let known = option_map_or (λ s. token (sign s) (length text - 1)) (sign_of text) bad_byte in
    option_map_or unsupported (entry left_out_signs text) known
