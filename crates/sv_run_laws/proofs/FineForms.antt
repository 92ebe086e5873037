-- How forms of the grammar hand on that the numbers among the tokens are fine.
use Rattle.std.proofs.Common.{ℕ, Bool, true, false, List, [], ◌∷◌, Option, Some, None}
use Rattle.std.proofs.Common.{subst, ⊎_elim}
use Rattle.std.specs.Prelude.{Contains}
use Rattle.sv_num.specs.declared.faults.Place.{Place}
use Rattle.sv_num.specs.declared.operators.UnOp.{UnOp}
use Rattle.sv_num.specs.declared.operators.BinOp.{BinOp}
use Rattle.sv_system.proofs.Lists.{Contains-cases, Contains-nil}
use Rattle.sv_token.specs.declared.keywords.WordKind.{WordKind}
use Rattle.sv_token.specs.declared.signs.SignKind.{SignKind}
use Rattle.sv_token.specs.declared.signs.SignKind.TheVariants as signs
use Rattle.sv_token.specs.Lexemes.{Lexeme, word, identifier, numeral, sign, Literal, Placed}
use Rattle.sv_ast.specs.GrammarForms.{Form, ◌⨾◌, ◌or◌, given, nothing, never, optional, perhaps}
use Rattle.sv_ast.specs.GrammarForms.{each, some, lexeme_at, number_at, name_at}
use Rattle.sv_ast.specs.GrammarForms.{a_word, a_sign, a_number, a_name, flag, binary_at, unary_at}
use Rattle.sv_ast.specs.GrammarForms.{somewhere, later, listed, commas, in_parentheses}
use Rattle.sv_ast.specs.GrammarForms.{in_brackets, in_braces}
use Rattle.sv_ast.specs.GrammarStatements.{only}
use Rattle.sv_run_laws.proofs.FineTokens.{IsFineNumber, AreFine}

-- the tokens behind the form are fine where those from its beginning on are
abbrev pub Keeps : Form → Type 0
Keeps P = (ts rest : List Placed) → P ts rest → AreFine ts → AreFine rest

-- and then this holds of what stands there
abbrev pub Gives : Form → Type 0 → Type 0
Gives P A = (ts rest : List Placed) → P ts rest → AreFine ts → A × AreFine rest

-- ---- tokens

pub lexeme_kept : (x : Lexeme) (p : Place) → Keeps (lexeme_at x p)
lexeme_kept x p ts rest is fine = (subst AreFine is fine).1

pub number_given : (v : Literal) (p : Place) → Gives (number_at v p) (IsFineNumber v)
number_given v p ts rest is fine = subst AreFine is fine

pub word_kept : (w : WordKind) → Keeps (a_word w)
word_kept w ts rest is fine = lexeme_kept (word w) is.0 ts rest is.1 fine

pub sign_kept : (s : SignKind) → Keeps (a_sign s)
sign_kept s ts rest is fine = lexeme_kept (sign s) is.0 ts rest is.1 fine

pub name_kept : (x : List ℕ) (p : Place) → Keeps (name_at x p)
name_kept x p ts rest is fine = lexeme_kept (identifier x) p ts rest is.1 fine

pub a_name_kept : (x : List ℕ) → Keeps (a_name x)
a_name_kept x ts rest is fine = name_kept x is.0 ts rest is.1 fine

pub a_number_kept : (v : Literal) → Keeps (a_number v)
a_number_kept v ts rest is fine = lexeme_kept (numeral v) is.0 ts rest is.1 fine

pub binary_kept : (op : BinOp) (p : Place) → Keeps (binary_at op p)
binary_kept op p ts rest is fine =
    lexeme_kept (sign (signs.Operator is.0)) p ts rest is.2 fine

pub unary_kept : (op : UnOp) (p : Place) → Keeps (unary_at op p)
unary_kept op p ts rest is fine =
    lexeme_kept (sign (signs.Operator is.0)) p ts rest is.2 fine

pub operator_kept : (op : BinOp) → Keeps (somewhere (binary_at op))
operator_kept op ts rest is fine = binary_kept op is.0 ts rest is.1 fine

-- ---- one form and another

pub nothing_kept : Keeps nothing
nothing_kept ts rest is fine = subst AreFine is fine

pub flag_kept : (w : WordKind) (b : Bool) → Keeps (flag w b)
flag_kept w true = word_kept w
flag_kept w false = nothing_kept

pub both_kept : {P Q : Form} → Keeps P → Keeps Q → Keeps (P ⨾ Q)
both_kept f g ts rest is fine = g is.0 rest is.2 (f ts is.0 is.1 fine)

pub either_kept : {P Q : Form} → Keeps P → Keeps Q → Keeps (P or Q)
either_kept f g ts rest is fine =
    ⊎_elim (λ p. f ts rest p fine) (λ q. g ts rest q fine) is

pub under_kept : {T : Type 0} {P : Form} → Keeps P → Keeps (given T P)
under_kept f ts rest is fine = f ts rest is.1 fine

pub optional_kept : {P : Form} → Keeps P → Keeps (optional P)
optional_kept f = either_kept f nothing_kept

pub kept : {P : Form} {A : Type 0} → Gives P A → Keeps P
kept f ts rest is fine = (f ts rest is fine).1

pub behind : {P Q : Form} {A : Type 0} → Keeps P → Gives Q A → Gives (P ⨾ Q) A
behind f g ts rest is fine = g is.0 rest is.2 (f ts is.0 is.1 fine)

pub before : {P Q : Form} {A : Type 0} → Gives P A → Keeps Q → Gives (P ⨾ Q) A
before f g ts rest is fine = let h = f ts is.0 is.1 fine in (h.0, g is.0 rest is.2 h.1)

pub both : {P Q : Form} {A B : Type 0} → Gives P A → Gives Q B → Gives (P ⨾ Q) (A × B)
both f g ts rest is fine =
    let h = f ts is.0 is.1 fine in let k = g is.0 rest is.2 h.1 in ((h.0, k.0), k.1)

pub either : {P Q : Form} {A : Type 0} → Gives P A → Gives Q A → Gives (P or Q) A
either f g ts rest is fine = ⊎_elim (λ p. f ts rest p fine) (λ q. g ts rest q fine) is

pub under : {T : Type 0} {P : Form} {A : Type 0} → Gives P A → Gives (given T P) A
under f ts rest is fine = f ts rest is.1 fine

pub so : {P : Form} {A B : Type 0} → (A → B) → Gives P A → Gives P B
so h f ts rest is fine = let k = f ts rest is fine in (h k.0, k.1)

pub no_more : {A : Type 0} → A → Gives nothing A
no_more a ts rest is fine = (a, subst AreFine is fine)

pub nowhere : {A : Type 0} → Gives never A
nowhere ts rest is fine = absurd is

pub parentheses : {P : Form} {A : Type 0} → Gives P A → Gives (in_parentheses P) A
parentheses f =
    behind (sign_kept signs.OpenParenthesis) (before f (sign_kept signs.CloseParenthesis))

pub brackets : {P : Form} {A : Type 0} → Gives P A → Gives (in_brackets P) A
brackets f = behind (sign_kept signs.OpenBracket) (before f (sign_kept signs.CloseBracket))

pub braces : {P : Form} {A : Type 0} → Gives P A → Gives (in_braces P) A
braces f = behind (sign_kept signs.OpenBrace) (before f (sign_kept signs.CloseBrace))

-- ---- parts that may be left out, and lists

pub perhaps_kept : {X : Type 0} {P : X → Form} → ((x : X) → Keeps (P x)) → (o : Option X) →
    Keeps (perhaps P o)
perhaps_kept f None = nothing_kept
perhaps_kept f (Some x) = f x

-- each member has the property
abbrev pub Each : {X : Type 0} → (X → Type 0) → List X → Type 0
Each {X} T xs = (x : X) → Contains xs x → T x

pub no_member : {X : Type 0} (T : X → Type 0) → Each T []
no_member T x at = absurd (Contains-nil x at)

pub one_more : {X : Type 0} (T : X → Type 0) (x : X) (xs : List X) → T x × Each T xs →
    Each T (x ∷ xs)
one_more T x xs h y at =
    ⊎_elim (λ is. subst T is h.0) (λ inside. h.1 y inside) (Contains-cases x xs y at)

module _ {X : Type 0} (T : X → Type 0) where
  pub each_given : {P : X → Form} → ((x : X) → Gives (P x) (T x)) → (xs : List X) →
      Gives (each P xs) (Each T xs)
  each_given f [] = no_more (no_member T)
  each_given f (x ∷ xs) = so (one_more T x xs) (both (f x) (each_given f xs))

  pub some_given : {P : X → Form} → ((x : X) → Gives (P x) (T x)) → (xs : List X) →
      Gives (some P xs) (Each T xs)
  some_given f [] = nowhere
  some_given f (x ∷ xs) = so (one_more T x xs) (both (f x) (each_given f xs))

  -- a later member may take what it has from the one before it
  pub later_given : {L : X → X → Form} → ((a x : X) → T a → Gives (L a x) (T x)) → (a : X) → T a
      → (xs : List X)
      → Gives (later L a xs) (Each T xs)
  later_given f a first [] ts rest is fine = (no_member T, subst AreFine is fine)
  later_given f a first (x ∷ xs) ts rest is fine =
      let comma = sign_kept signs.Comma ts is.0 is.1 fine in
      let this = f a x first is.0 is.2.0 is.2.1 comma in
      let others = later_given f x this.0 xs is.2.0 rest is.2.2 this.1 in
      (one_more T x xs (this.0, others.0), others.1)

  pub listed_given : {P : X → Form} {L : X → X → Form} → ((x : X) → Gives (P x) (T x))
      → ((a x : X) → T a → Gives (L a x) (T x)) → (xs : List X)
      → Gives (listed P L xs) (Each T xs)
  listed_given f g [] ts rest is fine = absurd is
  listed_given f g (x ∷ xs) ts rest is fine =
      let this = f x ts is.0 is.1 fine in
      let others = later_given g x this.0 xs is.0 rest is.2 this.1 in
      (one_more T x xs (this.0, others.0), others.1)

  pub commas_given : {P : X → Form} → ((x : X) → Gives (P x) (T x)) → (xs : List X) →
      Gives (commas P xs) (Each T xs)
  commas_given f xs = listed_given f (λ a x first. f x) xs

  pub only_given : {P : X → Form} → ((x : X) → Gives (P x) (T x)) → (xs : List X) →
      Gives (only P xs) (Each T xs)
  only_given f [] = nowhere
  only_given f (x ∷ []) = so (λ t. one_more T x [] (t, no_member T)) (f x)
  only_given f (x ∷ y ∷ xs) = nowhere

-- the same of tokens alone
abbrev Anything : {X : Type 0} → X → Type 0
Anything x = Unit {0}

pub plain : {P : Form} → Keeps P → Gives P (Unit {0})
plain f ts rest is fine = (tt, f ts rest is fine)

pub each_kept : {X : Type 0} {P : X → Form} → ((x : X) → Keeps (P x)) → (xs : List X) →
    Keeps (each P xs)
each_kept f xs = kept (each_given Anything (λ x. plain (f x)) xs)

pub commas_kept : {X : Type 0} {P : X → Form} → ((x : X) → Keeps (P x)) → (xs : List X) →
    Keeps (commas P xs)
commas_kept f xs = kept (commas_given Anything (λ x. plain (f x)) xs)

pub only_kept : {X : Type 0} {P : X → Form} → ((x : X) → Keeps (P x)) → (xs : List X) →
    Keeps (only P xs)
only_kept f xs = kept (only_given Anything (λ x. plain (f x)) xs)
