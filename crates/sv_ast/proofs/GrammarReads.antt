-- Readers of forms: each gives what it read, what is left, and the proof that the form stands
-- there.
use Rattle.std.proofs.Common.{◌≡◌, ℕ, zero, suc, Bool, true, false, not, List, [], ◌∷◌, Option}
use Rattle.std.proofs.Common.{Some, None, inl, inr, refl, ap}
use Rattle.std.specs.Prelude.{IsTrue}
use Rattle.sv_num.specs.declared.faults.Place.{Place}
use Rattle.sv_num.specs.declared.operators.UnOp.{UnOp}
use Rattle.sv_num.specs.declared.operators.BinOp.{BinOp}
use Rattle.sv_token.specs.declared.keywords.WordKind.{WordKind}
use Rattle.sv_token.specs.declared.keywords.WordKind.TheVariants as words
use Rattle.sv_token.specs.declared.signs.SignKind.{SignKind}
use Rattle.sv_token.specs.declared.signs.SignKind.TheVariants as signs
use Rattle.sv_token.specs.declared.signs.Operator.{Operator}
use Rattle.sv_token.specs.Lexemes.{Lexeme, word, identifier, numeral, sign, Literal, Placed}
use Rattle.sv_token.specs.Words.{is_refused_word}
use Rattle.sv_ast.specs.GrammarForms.{Form, ◌⨾◌, optional, perhaps, each, some, lexeme_at, word_at}
use Rattle.sv_ast.specs.GrammarForms.{sign_at, number_at, name_at, a_word, a_sign, a_number, a_name}
use Rattle.sv_ast.specs.GrammarForms.{flag, binary_operator, unary_operator, binary_at, unary_at}
use Rattle.sv_ast.specs.GrammarForms.{somewhere, listed, later, commas}

infixl 10 ◌>>=◌
abbrev pub ◌>>=◌ : {A B : Type 0} → Option A → (A → Option B) → Option B
(Some x) >>= f = f x
None >>= f = None

-- the first answer, or else the second
abbrev pub otherwise : {A : Type 0} → Option A → (Unit {0} → Option A) → Option A
otherwise (Some x) f = Some x
otherwise None f = f tt

abbrev pub check : (b : Bool) → Option (IsTrue b)
check true = Some refl
check false = None

-- the form stands there
abbrev pub Stands : Form → List Placed → Type 0
Stands P ts = Option ((rest : List Placed) × P ts rest)

-- the form of some tree stands there
abbrev pub Reads : {A : Type 0} → (A → Form) → List Placed → Type 0
Reads {A} P ts = Option ((a : A) × (rest : List Placed) × P a ts rest)

-- ---- tokens

abbrev pub the_word : (v w : WordKind) → Option (v ≡ w)
the_word words.Always words.Always = Some refl
the_word words.Assign words.Assign = Some refl
the_word words.Begin words.Begin = Some refl
the_word words.Case words.Case = Some refl
the_word words.Default words.Default = Some refl
the_word words.Else words.Else = Some refl
the_word words.End words.End = Some refl
the_word words.Endcase words.Endcase = Some refl
the_word words.Endmodule words.Endmodule = Some refl
the_word words.If words.If = Some refl
the_word words.Input words.Input = Some refl
the_word words.Localparam words.Localparam = Some refl
the_word words.Module words.Module = Some refl
the_word words.Output words.Output = Some refl
the_word words.Parameter words.Parameter = Some refl
the_word words.Posedge words.Posedge = Some refl
the_word words.Reg words.Reg = Some refl
the_word words.Signed words.Signed = Some refl
the_word words.Wire words.Wire = Some refl
the_word words.Lattice words.Lattice = Some refl
the_word words.Endlattice words.Endlattice = Some refl
the_word words.Labelmap words.Labelmap = Some refl
the_word words.Endlabelmap words.Endlabelmap = Some refl
the_word words.Point words.Point = Some refl
the_word words.Invariant words.Invariant = Some refl
the_word words.Release words.Release = Some refl
the_word v w = None

abbrev pub the_sign : (s t : SignKind) → Option (s ≡ t)
the_sign signs.Question signs.Question = Some refl
the_sign signs.Colon signs.Colon = Some refl
the_sign signs.Semicolon signs.Semicolon = Some refl
the_sign signs.Comma signs.Comma = Some refl
the_sign signs.Dot signs.Dot = Some refl
the_sign signs.OpenParenthesis signs.OpenParenthesis = Some refl
the_sign signs.CloseParenthesis signs.CloseParenthesis = Some refl
the_sign signs.OpenBracket signs.OpenBracket = Some refl
the_sign signs.CloseBracket signs.CloseBracket = Some refl
the_sign signs.OpenBrace signs.OpenBrace = Some refl
the_sign signs.CloseBrace signs.CloseBrace = Some refl
the_sign signs.Equals signs.Equals = Some refl
the_sign signs.Hash signs.Hash = Some refl
the_sign signs.At signs.At = Some refl
the_sign s t = None

-- a lexeme with what it is
abbrev pub read_lexeme : (ts : List Placed) →
    Option ((x : Lexeme) × (p : Place) × (rest : List Placed) × lexeme_at x p ts rest)
read_lexeme [] = None
read_lexeme (t ∷ ts) = Some (t.lexeme, t.place, ts, refl)

abbrev pub as_word : (w : WordKind) (x : Lexeme) → Option (x ≡ word w)
as_word w (word v) = do
  e ← the_word v w
  Some (ap word e)
as_word w x = None

abbrev pub as_sign : (s : SignKind) (x : Lexeme) → Option (x ≡ sign s)
as_sign s (sign t) = do
  e ← the_sign t s
  Some (ap sign e)
as_sign s x = None

abbrev pub as_number : (x : Lexeme) → Option ((v : Literal) × (x ≡ numeral v))
as_number (numeral v) = Some (v, refl)
as_number x = None

abbrev pub as_name : (x : Lexeme) →
    Option ((n : List ℕ) × IsTrue (not (is_refused_word n)) × (x ≡ identifier n))
as_name (identifier n) = do
  free ← check (not (is_refused_word n))
  Some (n, free, refl)
as_name x = None

abbrev pub at_lexeme : (t : Placed) (ts : List Placed) {x : Lexeme} → t.lexeme ≡ x →
    lexeme_at x t.place (t ∷ ts) ts
at_lexeme t ts e = ap (λ x. record { lexeme = x; place = t.place } ∷ ts) e

-- the lexeme that a test finds
abbrev pub read_exact : (x : Lexeme) → ((y : Lexeme) → Option (y ≡ x)) → (ts : List Placed) →
    Reads (lexeme_at x) ts
read_exact x test [] = None
read_exact x test (t ∷ ts) = do
  e ← test t.lexeme
  Some (t.place, ts, at_lexeme t ts e)

abbrev pub without_place : (P : Place → Form) (ts : List Placed) → Reads P ts →
    Stands (somewhere P) ts
without_place P ts read = do
  r ← read
  Some (r.1, (r.0, r.2))

abbrev pub read_word_at : (w : WordKind) (ts : List Placed) → Reads (word_at w) ts
read_word_at w ts = read_exact (word w) (as_word w) ts

abbrev pub read_word : (w : WordKind) (ts : List Placed) → Stands (a_word w) ts
read_word w ts = without_place (word_at w) ts (read_word_at w ts)

abbrev pub read_sign_at : (s : SignKind) (ts : List Placed) → Reads (sign_at s) ts
read_sign_at s ts = read_exact (sign s) (as_sign s) ts

abbrev pub read_sign : (s : SignKind) (ts : List Placed) → Stands (a_sign s) ts
read_sign s ts = without_place (sign_at s) ts (read_sign_at s ts)

abbrev pub read_number_at : (ts : List Placed) →
    Option ((v : Literal) × (p : Place) × (rest : List Placed) × number_at v p ts rest)
read_number_at [] = None
read_number_at (t ∷ ts) = do
  e ← as_number t.lexeme
  Some (e.0, t.place, ts, at_lexeme t ts e.1)

abbrev pub read_number : (ts : List Placed) → Reads a_number ts
read_number ts = do
  r ← read_number_at ts
  Some (r.0, r.2, (r.1, r.3))

abbrev pub read_name_at : (ts : List Placed) →
    Option ((n : List ℕ) × (p : Place) × (rest : List Placed) × name_at n p ts rest)
read_name_at [] = None
read_name_at (t ∷ ts) = do
  e ← as_name t.lexeme
  Some (e.0, t.place, ts, (e.1, at_lexeme t ts e.2))

abbrev pub read_name : (ts : List Placed) → Reads a_name ts
read_name ts = do
  r ← read_name_at ts
  Some (r.0, r.2, (r.1, r.3))

abbrev pub read_flag : (w : WordKind) (ts : List Placed) → Reads (flag w) ts
read_flag w ts = otherwise (do
  r ← read_word w ts
  Some (true, r.0, r.1)) (λ _. Some (false, ts, refl))

-- ---- operators

abbrev pub operator_with : {A : Type 0} (found : Option A) → Option ((a : A) × (found ≡ Some a))
operator_with (Some a) = Some (a, refl)
operator_with None = None

abbrev pub as_binary : (x : Lexeme) →
    Option ((op : BinOp) × (o : Operator) × (binary_operator o ≡ Some op)
    × (x ≡ sign (signs.Operator o)))
as_binary (sign (signs.Operator o)) = do
  found ← operator_with (binary_operator o)
  Some (found.0, o, found.1, refl)
as_binary x = None

abbrev pub as_unary : (x : Lexeme) →
    Option ((op : UnOp) × (o : Operator) × (unary_operator o ≡ Some op)
    × (x ≡ sign (signs.Operator o)))
as_unary (sign (signs.Operator o)) = do
  found ← operator_with (unary_operator o)
  Some (found.0, o, found.1, refl)
as_unary x = None

abbrev pub read_binary_at : (ts : List Placed) →
    Option ((op : BinOp) × (p : Place) × (rest : List Placed) × binary_at op p ts rest)
read_binary_at [] = None
read_binary_at (t ∷ ts) = do
  e ← as_binary t.lexeme
  Some (e.0, t.place, ts, (e.1, e.2, at_lexeme t ts e.3))

abbrev pub read_unary_at : (ts : List Placed) →
    Option ((op : UnOp) × (p : Place) × (rest : List Placed) × unary_at op p ts rest)
read_unary_at [] = None
read_unary_at (t ∷ ts) = do
  e ← as_unary t.lexeme
  Some (e.0, t.place, ts, (e.1, e.2, at_lexeme t ts e.3))

-- ---- options and lists

abbrev pub read_perhaps : {A : Type 0} {P : A → Form} → ((ts : List Placed) → Reads P ts) →
    (ts : List Placed) → Reads (perhaps P) ts
read_perhaps read ts = otherwise (do
  r ← read ts
  Some (Some r.0, r.1, r.2)) (λ _. Some (None, ts, refl))

abbrev pub read_optional : {P : Form} → ((ts : List Placed) → Stands P ts) → (ts : List Placed) →
    Stands (optional P) ts
read_optional read ts = otherwise (do
  r ← read ts
  Some (r.0, inl r.1)) (λ _. Some (ts, inr refl))

-- at most so many
abbrev pub read_each : {A : Type 0} {P : A → Form} → ((ts : List Placed) → Reads P ts) → ℕ →
    (ts : List Placed) → Reads (each P) ts
read_each read zero ts = Some ([], ts, refl)
read_each read (suc k) ts = otherwise (do
  r ← read ts
  more ← read_each read k r.1
  Some (r.0 ∷ more.0, more.1, (r.1, r.2, more.2))) (λ _. Some ([], ts, refl))

abbrev pub read_some : {A : Type 0} {P : A → Form} → ((ts : List Placed) → Reads P ts) → ℕ →
    (ts : List Placed) → Reads (some P) ts
read_some read k ts = do
  r ← read ts
  more ← read_each read k r.1
  Some (r.0 ∷ more.0, more.1, (r.1, r.2, more.2))

abbrev pub read_later : {A : Type 0} {L : A → A → Form} →
    ((a : A) (ts : List Placed) → Reads (L a) ts) → ℕ → (a : A) (ts : List Placed) →
    Reads (later L a) ts
read_later read zero a ts = Some ([], ts, refl)
read_later read (suc k) a ts = otherwise (do
  c ← read_sign signs.Comma ts
  r ← read a c.0
  more ← read_later read k r.0 r.1
  Some (r.0 ∷ more.0, more.1, (c.0, c.1, (r.1, r.2, more.2)))) (λ _. Some ([], ts, refl))

abbrev pub read_listed : {A : Type 0} {F : A → Form} {L : A → A → Form} →
    ((ts : List Placed) → Reads F ts) → ((a : A) (ts : List Placed) → Reads (L a) ts) → ℕ →
    (ts : List Placed) → Reads (listed F L) ts
read_listed first read k ts = do
  r ← first ts
  more ← read_later read k r.0 r.1
  Some (r.0 ∷ more.0, more.1, (r.1, r.2, more.2))

abbrev pub read_commas : {A : Type 0} {P : A → Form} → ((ts : List Placed) → Reads P ts) → ℕ →
    (ts : List Placed) → Reads (commas P) ts
read_commas {A} {P} read k ts = read_listed {F = P} {L = λ a. P} read (λ _. read) k ts

-- a form between two signs
abbrev pub read_between : {P : Form} (s t : SignKind) → ((ts : List Placed) → Stands P ts) →
    (ts : List Placed) → Stands (a_sign s ⨾ P ⨾ a_sign t) ts
read_between s t read ts = do
  a ← read_sign s ts
  r ← read a.0
  b ← read_sign t r.0
  Some (b.0, (a.0, a.1, (r.0, r.1, b.1)))

abbrev pub read_tree_between : {A : Type 0} {P : A → Form} (s t : SignKind) →
    ((ts : List Placed) → Reads P ts) → (ts : List Placed) →
    Reads (λ a. a_sign s ⨾ P a ⨾ a_sign t) ts
read_tree_between s t read ts = do
  a ← read_sign s ts
  r ← read a.0
  b ← read_sign t r.1
  Some (r.0, b.0, (a.0, a.1, (r.1, r.2, b.1)))
