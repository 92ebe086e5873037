-- Tokens as the definitions see them: each with what it says of itself, and no bytes but a name's.
use Rattle.std.specs.Prelude.{ℕ, Bool, List, map, take, drop, ◌-◌}
use Rattle.sv_num.specs.Vectors.{width_of, is_signed, value_of}
use Rattle.sv_num.specs.declared.faults.Place.{Place}
use Rattle.sv_token.specs.declared.keywords.WordKind.{WordKind}
use Rattle.sv_token.specs.declared.signs.SignKind.{SignKind}
use Rattle.sv_token.specs.declared.tokens.Lit.{Lit}
use Rattle.sv_token.specs.declared.tokens.Token.{Token}
use Rattle.sv_token.specs.declared.tokens.TokenKind.{TokenKind}
use Rattle.sv_token.specs.declared.tokens.TokenKind.TheVariants as token_kind

-- a number of the text: its length in bits, its signedness, its value below 2^width, and whether
-- its length is written
pub record Literal : Type 0 where
  pub width : ℕ
  pub signed : Bool
  pub value : ℕ
  pub sized : Bool

pub data Lexeme : Type 0 where
  word : WordKind → Lexeme
  identifier : List ℕ → Lexeme
  numeral : Literal → Lexeme
  sign : SignKind → Lexeme

-- a lexeme at its place
pub record Placed : Type 0 where
  pub lexeme : Lexeme
  pub place : Place

abbrev pub literal_of : Lit → Literal
literal_of l =
    record {
      width = width_of l.bits;
      signed = is_signed l.bits;
      value = value_of l.bits;
      sized = l.sized;
    }

-- the bytes from one place of a list up to another
abbrev pub between : ℕ → ℕ → List ℕ → List ℕ
between start stop bytes = take (stop - start) (drop start bytes)

abbrev pub lexeme_of : List ℕ → TokenKind → ℕ → ℕ → Lexeme
lexeme_of bytes (token_kind.Word w) start stop = word w
lexeme_of bytes token_kind.Name start stop = identifier (between start stop bytes)
lexeme_of bytes (token_kind.Number l) start stop = numeral (literal_of l)
lexeme_of bytes (token_kind.Sign s) start stop = sign s

abbrev pub placed_of : List ℕ → Token → Placed
placed_of bytes t = record { lexeme = lexeme_of bytes t.kind t.start t.«end»; place = t.place }

-- the tokens of a text
abbrev pub placed_tokens : List ℕ → List Token → List Placed
placed_tokens bytes tokens = map (placed_of bytes) tokens
