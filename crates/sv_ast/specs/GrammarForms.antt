-- How forms of the grammar are put together (IEEE 1364-2005, annex A). A form says from which
-- tokens to which tokens left behind it it stands.
use Rattle.std.specs.Prelude.{◌≡◌, ℕ, Bool, true, false, not, IsTrue, List, [], ◌∷◌, slice_get}
use Rattle.std.specs.Prelude.{Option, Some, None, option_map, option_and_then, ◌⊎◌}
use Rattle.sv_num.specs.OperatorTables.{binary_table, unary_table}
use Rattle.sv_num.specs.declared.faults.Place.{Place}
use Rattle.sv_num.specs.declared.operators.UnOp.{UnOp}
use Rattle.sv_num.specs.declared.operators.BinOp.{BinOp}
use Rattle.sv_token.specs.declared.keywords.WordKind.{WordKind}
use Rattle.sv_token.specs.declared.signs.SignKind.{SignKind}
use Rattle.sv_token.specs.declared.signs.SignKind.TheVariants as signs
use Rattle.sv_token.specs.declared.signs.Operator.{Operator}
use Rattle.sv_token.specs.Lexemes.{Lexeme, word, identifier, numeral, sign, Literal, Placed}
use Rattle.sv_token.specs.Words.{is_refused_word}

-- from the tokens where it begins to those left behind it
abbrev pub Form : Type 1
Form = List Placed → List Placed → Type 0

-- ---- putting forms together

-- one form, and the other behind it
infixr 30 ◌⨾◌
abbrev pub ◌⨾◌ : Form → Form → Form
(P ⨾ Q) ts rest = (mid : List Placed) × P ts mid × Q mid rest

-- one form or the other
infixr 20 ◌or◌
abbrev pub ◌or◌ : Form → Form → Form
(P or Q) ts rest = P ts rest ⊎ Q ts rest

-- the form, where the sentence holds
abbrev pub given : Type 0 → Form → Form
given A P ts rest = A × P ts rest

abbrev pub nothing : Form
nothing ts rest = ts ≡ rest

-- stands nowhere
abbrev pub never : Form
never ts rest = ⊥

-- the form or nothing
abbrev pub optional : Form → Form
optional P = P or nothing

-- the form, where the tree has something there
abbrev pub perhaps : {A : Type 0} → (A → Form) → Option A → Form
perhaps P None = nothing
perhaps P (Some a) = P a

-- one after the other
abbrev pub each : {A : Type 0} → (A → Form) → List A → Form
each P [] = nothing
each P (a ∷ more) = P a ⨾ each P more

-- at least one, one after the other
abbrev pub some : {A : Type 0} → (A → Form) → List A → Form
some P [] = never
some P (a ∷ more) = P a ⨾ each P more

-- ---- tokens

-- a token of the lexeme, at the place
abbrev pub lexeme_at : Lexeme → Place → Form
lexeme_at x p ts rest = ts ≡ record { lexeme = x; place = p } ∷ rest

abbrev pub word_at : WordKind → Place → Form
word_at w = lexeme_at (word w)

abbrev pub sign_at : SignKind → Place → Form
sign_at s = lexeme_at (sign s)

abbrev pub number_at : Literal → Place → Form
number_at v = lexeme_at (numeral v)

-- an identifier that is no refused word
abbrev pub name_at : List ℕ → Place → Form
name_at x p = given (IsTrue (not (is_refused_word x))) (lexeme_at (identifier x) p)

-- at some place
abbrev pub somewhere : (Place → Form) → Form
somewhere P ts rest = (p : Place) × P p ts rest

abbrev pub a_word : WordKind → Form
a_word w = somewhere (word_at w)

abbrev pub a_sign : SignKind → Form
a_sign s = somewhere (sign_at s)

abbrev pub a_number : Literal → Form
a_number v = somewhere (number_at v)

abbrev pub a_name : List ℕ → Form
a_name x = somewhere (name_at x)

-- a word that says the same as the truth value
abbrev pub flag : WordKind → Bool → Form
flag w true = a_word w
flag w false = nothing

-- the binary and the unary operator of a spelling, by its rows in the tables of operators
abbrev pub binary_operator : Operator → Option BinOp
binary_operator o =
    option_and_then (λ row. option_map (λ r. r.1) (slice_get binary_table row)) o.binary

abbrev pub unary_operator : Operator → Option UnOp
unary_operator o =
    option_and_then (λ row. option_map (λ r. r.1) (slice_get unary_table row)) o.unary

abbrev pub binary_at : BinOp → Place → Form
binary_at op p ts rest =
    (o : Operator) × (binary_operator o ≡ Some op) × sign_at (signs.Operator o) p ts rest

abbrev pub unary_at : UnOp → Place → Form
unary_at op p ts rest =
    (o : Operator) × (unary_operator o ≡ Some op) × sign_at (signs.Operator o) p ts rest

-- ---- lists

-- further members, a comma before each, as `Later` says of a member and the one before it
abbrev pub later : {A : Type 0} → (A → A → Form) → A → List A → Form
later Later a [] = nothing
later Later a (b ∷ bs) = a_sign signs.Comma ⨾ Later a b ⨾ later Later b bs

-- at least one member, commas between them
abbrev pub listed : {A : Type 0} → (First : A → Form) → (Later : A → A → Form) → List A → Form
listed First Later [] = never
listed First Later (a ∷ more) = First a ⨾ later Later a more

-- members that are all of one form
abbrev pub commas : {A : Type 0} → (A → Form) → List A → Form
commas P = listed P (λ before. P)

abbrev pub in_parentheses : Form → Form
in_parentheses P = a_sign signs.OpenParenthesis ⨾ P ⨾ a_sign signs.CloseParenthesis

abbrev pub in_brackets : Form → Form
in_brackets P = a_sign signs.OpenBracket ⨾ P ⨾ a_sign signs.CloseBracket

abbrev pub in_braces : Form → Form
in_braces P = a_sign signs.OpenBrace ⨾ P ⨾ a_sign signs.CloseBrace
