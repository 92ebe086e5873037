-- Forms of parts that may be left out, and of lists, determine their trees where those of the
-- members do.
use Rattle.std.proofs.Common.{◌≡◌, Bool, true, false, List, [], ◌∷◌, Option, Some, None, refl, ap}
use Rattle.std.proofs.Common.{ap₂, subst}
use Rattle.std.proofs.lemmas.Bool.{false≢true}
use Rattle.sv_token.specs.declared.keywords.WordKind.{WordKind}
use Rattle.sv_token.specs.declared.signs.SignKind.TheVariants as signs
use Rattle.sv_token.specs.Lexemes.{Lexeme, word, identifier, numeral, sign, Placed}
use Rattle.sv_ast.specs.GrammarForms.{Form, optional, perhaps, each, some, flag, later, listed}
use Rattle.sv_ast.specs.GrammarForms.{commas}
use Rattle.sv_ast.proofs.GrammarOneToken.{NextIs, ends_expression}
use Rattle.sv_parse_machine.proofs.OneForm.{Behind, Anything, AreOne, Leads, At, one_as, one_anywhere}
use Rattle.sv_parse_machine.proofs.OneForm.{one_turned, one_nothing, leads_nothing, one_then, one_before}
use Rattle.sv_parse_machine.proofs.OneForm.{leads_first, one_word, sign_behind, leads_sign, leads_word}
use Rattle.sv_parse_machine.proofs.OneForm.{Refuses, one_or_none, one_or}

-- ---- parts that may be left out

pub one_perhaps : {A : Type 0} {P : A → Form} {D : Behind}
    → ((a b : A) → AreOne D (a ≡ b) (P a) (P b)) → ((a : A) → Refuses D (P a))
    → (x y : Option A) → AreOne D (x ≡ y) (perhaps P x) (perhaps P y)
one_perhaps member refuses None None = one_as (λ same. refl) one_nothing
one_perhaps member refuses None (Some b) = one_or_none (refuses b)
one_perhaps member refuses (Some a) None = one_turned (one_or_none (refuses a))
one_perhaps member refuses (Some a) (Some b) = one_as (λ same. ap Some same) (member a b)

pub leads_perhaps : {A : Type 0} {P : A → Form} {F D : Behind}
    → ((a : A) → Leads F D (P a)) → ((ts : List Placed) → D ts → F ts) → (x : Option A)
    → Leads F D (perhaps P x)
leads_perhaps member so (Some a) = member a
leads_perhaps {F = F} {D = D} member so None = leads_nothing so

pub one_flag : {D : Behind} (w : WordKind) → At (λ ts. D ts → ⊥) (word w) → (b c : Bool) →
    AreOne D (b ≡ c) (flag w b) (flag w c)
one_flag w refuses true true = one_as (λ same. refl) (one_anywhere (one_word w))
one_flag w refuses false false = one_as (λ same. refl) one_nothing
one_flag w refuses false true = one_or_none (leads_word w refuses)
one_flag w refuses true false = one_turned (one_or_none (leads_word w refuses))

pub leads_flag : {F D : Behind} (w : WordKind) → At F (word w) →
    ((ts : List Placed) → D ts → F ts) → (b : Bool) → Leads F D (flag w b)
leads_flag w begins so true = leads_word w begins
leads_flag w begins so false = leads_nothing so

pub one_optional : {P : Form} {D : Behind} → AreOne D (Unit {0}) P P → Refuses D P →
    AreOne D (Unit {0}) (optional P) (optional P)
one_optional member refuses =
    one_or member (one_turned (one_or_none refuses)) (one_or_none refuses) one_nothing

-- ---- one member after the other

pub one_each : {A : Type 0} {P : A → Form} {D : Behind}
    → ((a b : A) → AreOne Anything (a ≡ b) (P a) (P b)) → ((a : A) → Refuses D (P a))
    → (xs ys : List A) → AreOne D (xs ≡ ys) (each P xs) (each P ys)
one_each member refuses [] [] = one_as (λ same. refl) one_nothing
one_each member refuses [] (b ∷ ys) = one_or_none (leads_first (refuses b))
one_each member refuses (a ∷ xs) [] = one_turned (one_or_none (leads_first (refuses a)))
one_each member refuses (a ∷ xs) (b ∷ ys) =
    one_as (λ both. ap₂ ◌∷◌ both.0 both.1) (one_then (member a b) (λ same.
    one_each member refuses xs ys))

pub leads_each : {A : Type 0} {P : A → Form} {F D : Behind}
    → ((a : A) → Leads F Anything (P a)) → ((ts : List Placed) → D ts → F ts) → (xs : List A)
    → Leads F D (each P xs)
leads_each member so [] = leads_nothing so
leads_each member so (a ∷ xs) = leads_first (member a)

pub one_some : {A : Type 0} {P : A → Form} {D : Behind}
    → ((a b : A) → AreOne Anything (a ≡ b) (P a) (P b)) → ((a : A) → Refuses D (P a))
    → (xs ys : List A) → AreOne D (xs ≡ ys) (some P xs) (some P ys)
one_some member refuses [] ys = record { one = λ ts r s is is_too ends ends_too. absurd is }
one_some member refuses (a ∷ xs) [] =
    record { one = λ ts r s is is_too ends ends_too. absurd is_too }
one_some member refuses (a ∷ xs) (b ∷ ys) =
    one_as (λ both. ap₂ ◌∷◌ both.0 both.1) (one_then (member a b) (λ same.
    one_each member refuses xs ys))

-- ---- lists with commas

-- what may come behind a list with commas
abbrev pub ends_list : Lexeme → Bool
ends_list (sign signs.CloseParenthesis) = true
ends_list (sign signs.CloseBrace) = true
ends_list (sign signs.Colon) = true
ends_list (sign signs.Semicolon) = true
ends_list x = false

abbrev pub ListEnds : Behind
ListEnds [] = ⊥
ListEnds (t ∷ ts) = ends_list t.lexeme ≡ true

pub list_ends_expression : (x : Lexeme) → ends_list x ≡ true → ends_expression x ≡ true
list_ends_expression (sign signs.CloseParenthesis) ends = refl
list_ends_expression (sign signs.CloseBrace) ends = refl
list_ends_expression (sign signs.Colon) ends = refl
list_ends_expression (sign signs.Semicolon) ends = refl
list_ends_expression (sign _) ends = absurd (false≢true ends)
list_ends_expression (word w) ends = absurd (false≢true ends)
list_ends_expression (identifier x) ends = absurd (false≢true ends)
list_ends_expression (numeral v) ends = absurd (false≢true ends)

pub list_ends : (ts : List Placed) → ListEnds ts → NextIs ends_expression ts
list_ends [] ends = absurd ends
list_ends (t ∷ ts) ends = list_ends_expression t.lexeme ends

pub leads_later : {A : Type 0} {F : Behind} (L : A → A → Form) → At F (sign signs.Comma)
    → ((ts : List Placed) → ListEnds ts → F ts)
    → (before : A) (xs : List A) → Leads F ListEnds (later L before xs)
leads_later L comma so before [] = leads_nothing so
leads_later L comma so before (a ∷ xs) = leads_first (leads_sign signs.Comma comma)

no_comma : At (λ ts. ListEnds ts → ⊥) (sign signs.Comma)
no_comma p rest ends = false≢true ends

-- behind each member comes a comma, or what comes behind the list
pub one_later : {A : Type 0} {L : A → A → Form} {F : Behind}
    → ((before a b : A) → AreOne F (a ≡ b) (L before a) (L before b)) → At F (sign signs.Comma)
    → ((ts : List Placed) → ListEnds ts → F ts)
    → (before : A) (xs ys : List A)
    → AreOne ListEnds (xs ≡ ys) (later L before xs) (later L before ys)
one_later member comma so before [] [] = one_as (λ same. refl) one_nothing
one_later member comma so before [] (b ∷ ys) =
    one_or_none (leads_first (leads_sign signs.Comma no_comma))
one_later member comma so before (a ∷ xs) [] =
    one_turned (one_or_none (leads_first (leads_sign signs.Comma no_comma)))
one_later {L = L} member comma so before (a ∷ xs) (b ∷ ys) =
    one_as (λ both. ap₂ ◌∷◌ both.0 both.1) (sign_behind signs.Comma
    (one_before (member before a b) (leads_later L comma so a xs) (leads_later L comma so b ys)
    (λ same. subst (λ c. AreOne ListEnds (xs ≡ ys) (later L a xs) (later L c ys)) same
    (one_later member comma so a xs ys))))

pub one_listed : {A : Type 0} {P : A → Form} {L : A → A → Form} {F : Behind}
    → ((a b : A) → AreOne F (a ≡ b) (P a) (P b))
    → ((before a b : A) → AreOne F (a ≡ b) (L before a) (L before b))
    → At F (sign signs.Comma) → ((ts : List Placed) → ListEnds ts → F ts)
    → (xs ys : List A) → AreOne ListEnds (xs ≡ ys) (listed P L xs) (listed P L ys)
one_listed first member comma so [] ys =
    record { one = λ ts r s is is_too ends ends_too. absurd is }
one_listed first member comma so (a ∷ xs) [] =
    record { one = λ ts r s is is_too ends ends_too. absurd is_too }
one_listed {L = L} first member comma so (a ∷ xs) (b ∷ ys) =
    one_as (λ both. ap₂ ◌∷◌ both.0 both.1)
    (one_before (first a b) (leads_later L comma so a xs) (leads_later L comma so b ys)
    (λ same. subst (λ c. AreOne ListEnds (xs ≡ ys) (later L a xs) (later L c ys)) same
    (one_later member comma so a xs ys)))

pub one_commas : {A : Type 0} {P : A → Form} {F : Behind}
    → ((a b : A) → AreOne F (a ≡ b) (P a) (P b)) → At F (sign signs.Comma)
    → ((ts : List Placed) → ListEnds ts → F ts)
    → (xs ys : List A) → AreOne ListEnds (xs ≡ ys) (commas P xs) (commas P ys)
one_commas member comma so xs ys = one_listed member (λ before. member) comma so xs ys

pub leads_listed : {A : Type 0} {P : A → Form} {F D : Behind} (L : A → A → Form)
    → ((a : A) → Leads F Anything (P a)) → (xs : List A) → Leads F D (listed P L xs)
leads_listed L first [] = record { leads = λ ts r is ends. absurd is }
leads_listed L first (a ∷ xs) = leads_first (first a)
