-- A token is determined by its place in a list, and so is the rest behind it; and which tokens end
-- an expression.
use Rattle.std.proofs.Common.{◌≡◌, ℕ, Bool, true, false, List, [], ◌∷◌, Option, Some, None, refl}
use Rattle.std.proofs.Common.{sym, ap, subst, ◌∙◌}
use Rattle.std.specs.Prelude.{IsTrue}
use Rattle.std.proofs.lemmas.Bool.{false≢true}
use Rattle.sv_num.specs.declared.operators.BinOp.{BinOp}
use Rattle.sv_num.specs.declared.operators.UnOp.{UnOp}
use Rattle.sv_num.specs.declared.faults.Place.{Place}
use Rattle.sv_token.specs.declared.signs.SignKind.{SignKind}
use Rattle.sv_token.specs.declared.signs.SignKind.TheVariants as signs
use Rattle.sv_token.specs.declared.signs.Operator.{Operator}
use Rattle.sv_token.specs.Lexemes.{Lexeme, word, identifier, numeral, sign, Literal, Placed}
use Rattle.sv_ast.specs.GrammarForms.{lexeme_at, name_at, number_at, sign_at, a_sign}
use Rattle.sv_ast.specs.GrammarForms.{binary_operator, unary_operator, binary_at, unary_at}

-- ---- one token

abbrev placed : Lexeme → Place → Placed
placed x p = record { lexeme = x; place = p }

-- a token's lexeme and place, and the rest behind it, are determined
pub one_lexeme : (x y : Lexeme) (p q : Place) (ts rest others : List Placed) →
    lexeme_at x p ts rest → lexeme_at y q ts others → (x ≡ y) × (p ≡ q) × (rest ≡ others)
one_lexeme x y p q ts rest others first second =
    let both : placed x p ∷ rest ≡ placed y q ∷ others = sym first ∙ second in
    let heads : placed x p ≡ placed y q = cc in
    (ap (λ (t : Placed). t.lexeme) heads, ap (λ (t : Placed). t.place) heads, cc)

pub one_sign : (s : SignKind) (ts rest others : List Placed) → a_sign s ts rest →
    a_sign s ts others → rest ≡ others
one_sign s ts rest others first second =
    (one_lexeme (sign s) (sign s) first.0 second.0 ts rest others first.1 second.1).2

pub one_sign_at : (s : SignKind) (p q : Place) (ts rest others : List Placed) →
    sign_at s p ts rest → sign_at s q ts others → (p ≡ q) × (rest ≡ others)
one_sign_at s p q ts rest others first second =
    let one = one_lexeme (sign s) (sign s) p q ts rest others first second in
    (one.1, one.2)

pub one_name : (x y : List ℕ) (p q : Place) (ts rest others : List Placed) → name_at x p ts rest →
    name_at y q ts others → (x ≡ y) × (p ≡ q) × (rest ≡ others)
one_name x y p q ts rest others first second =
    let one = one_lexeme (identifier x) (identifier y) p q ts rest others first.1 second.1 in
    let names : identifier x ≡ identifier y = one.0 in
    (cc, one.1, one.2)

pub one_number : (x y : Literal) (p q : Place) (ts rest others : List Placed) →
    number_at x p ts rest → number_at y q ts others → (x ≡ y) × (p ≡ q) × (rest ≡ others)
one_number x y p q ts rest others first second =
    let one = one_lexeme (numeral x) (numeral y) p q ts rest others first second in
    let numbers : numeral x ≡ numeral y = one.0 in
    (cc, one.1, one.2)

some_same : {A : Type 0} (x y : A) → Some x ≡ Some y → x ≡ y
some_same x y same = cc

operator_same : (o r : Operator) → sign (signs.Operator o) ≡ sign (signs.Operator r) → o ≡ r
operator_same o r same = cc

pub one_binary : (x y : BinOp) (p q : Place) (ts rest others : List Placed) →
    binary_at x p ts rest → binary_at y q ts others → (x ≡ y) × (p ≡ q) × (rest ≡ others)
one_binary x y p q ts rest others first second =
    let one = one_lexeme (sign (signs.Operator first.0)) (sign (signs.Operator second.0)) p q ts
    rest others first.2 second.2 in
    let operators = operator_same first.0 second.0 one.0 in
    (some_same x y (sym first.1 ∙ ap binary_operator operators ∙ second.1), one.1, one.2)

pub one_unary : (x y : UnOp) (p q : Place) (ts rest others : List Placed) → unary_at x p ts rest →
    unary_at y q ts others → (x ≡ y) × (p ≡ q) × (rest ≡ others)
one_unary x y p q ts rest others first second =
    let one = one_lexeme (sign (signs.Operator first.0)) (sign (signs.Operator second.0)) p q ts
    rest others first.2 second.2 in
    let operators = operator_same first.0 second.0 one.0 in
    (some_same x y (sym first.1 ∙ ap unary_operator operators ∙ second.1), one.1, one.2)

-- ---- what follows an expression

-- the next lexeme, if any, passes the test
abbrev pub NextIs : (Lexeme → Bool) → List Placed → Type 0
NextIs test [] = Unit {0}
NextIs test (t ∷ ts) = IsTrue (test t.lexeme)

-- ends a name
abbrev pub is_no_bracket : Lexeme → Bool
is_no_bracket (sign signs.OpenBracket) = false
is_no_bracket x = true

-- ends a row of operands and binary operators too
abbrev pub is_no_operator : Option BinOp → Bool
is_no_operator None = true
is_no_operator (Some op) = false

abbrev pub ends_row : Lexeme → Bool
ends_row (sign (signs.Operator o)) = is_no_operator (binary_operator o)
ends_row (sign signs.OpenBracket) = false
ends_row x = true

-- ends every expression
abbrev pub ends_expression : Lexeme → Bool
ends_expression (sign signs.Question) = false
ends_expression x = ends_row x

expression_row : (x : Lexeme) → IsTrue (ends_expression x) → IsTrue (ends_row x)
expression_row (sign signs.Question) ends = refl
expression_row (sign _) ends = ends
expression_row (word w) ends = ends
expression_row (identifier n) ends = ends
expression_row (numeral v) ends = ends

row_bracket : (x : Lexeme) → IsTrue (ends_row x) → IsTrue (is_no_bracket x)
row_bracket (sign signs.OpenBracket) ends = ends
row_bracket _ ends = refl

pub next_row : (ts : List Placed) → NextIs ends_expression ts → NextIs ends_row ts
next_row [] next = tt
next_row (t ∷ ts) next = expression_row t.lexeme next

pub next_bracket : (ts : List Placed) → NextIs ends_row ts → NextIs is_no_bracket ts
next_bracket [] next = tt
next_bracket (t ∷ ts) next = row_bracket t.lexeme next

-- a token that is there says whether it ends an expression
pub next_at : (test : Lexeme → Bool) (x : Lexeme) (p : Place) (ts rest : List Placed) →
    lexeme_at x p ts rest → IsTrue (test x) → NextIs test ts
next_at test x p ts rest at passes = subst (NextIs test) (sym at) passes

pub next_not : (test : Lexeme → Bool) (x : Lexeme) (p : Place) (ts rest : List Placed) →
    lexeme_at x p ts rest → test x ≡ false → NextIs test ts → ⊥
next_not test x p ts rest at fails next =
    let passes : IsTrue (test x) = subst (NextIs test) at next in
    false≢true (sym fails ∙ passes)
