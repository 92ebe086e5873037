-- Lists of the grammar with commas between their members, and the loops that stand for them.
use Rattle.std.proofs.Common.{ℕ, zero, suc, Bool, true, false, List, [], ◌∷◌, sym, subst}
use Rattle.sv_token.specs.declared.keywords.WordKind.{WordKind}
use Rattle.sv_token.specs.declared.signs.SignKind.{SignKind}
use Rattle.sv_token.specs.declared.signs.SignKind.TheVariants as signs
use Rattle.sv_token.specs.Lexemes.{Lexeme, word, identifier, sign, Placed}
use Rattle.sv_ast.specs.GrammarForms.{Form, ◌⨾◌, each, a_word, a_sign, flag, later}
use Rattle.sv_parse_machine.proofs.ExpressionForms.{Next}
use Rattle.sv_parse_machine.proofs.ExpressionParts.{next_at}
use Rattle.sv_parse_machine.proofs.OuterForms.{times, loop_form, some_name}
use Rattle.sv_parse_machine.proofs.StatementSteps.{next_later}

-- ---- the next token

pub next_sign : (P : Lexeme → Type 0) (s : SignKind) (ts rest : List Placed) → P (sign s) →
    a_sign s ts rest → Next P ts
next_sign P s ts rest passes (p, e) = next_at P (sign s) p ts rest e passes

pub next_word : (P : Lexeme → Type 0) (w : WordKind) (ts rest : List Placed) → P (word w) →
    a_word w ts rest → Next P ts
next_word P w ts rest passes (p, e) = next_at P (word w) p ts rest e passes

pub next_name : (P : Lexeme → Type 0) (ts rest : List Placed) → ((x : List ℕ) → P (identifier x)) →
    some_name ts rest → Next P ts
next_name P ts rest passes (x, (p, (free, e))) = next_at P (identifier x) p ts rest e (passes x)

pub next_flag : (P : Lexeme → Type 0) (w : WordKind) (b : Bool) (ts mid : List Placed) →
    P (word w) → Next P mid → flag w b ts mid → Next P ts
next_flag P w true ts mid passes behind is = next_word P w ts mid passes is
next_flag P w false ts mid passes behind same = subst (Next P) (sym same) behind

-- ---- lists with commas

-- nothing is known of the members
abbrev pub Any : {A : Type 0} → A → Type 0
Any a = Unit {0}

-- a comma or the sign comes next
abbrev pub Follows : SignKind → List Placed → Type 1
Follows s rest = (Q : Lexeme → Type 0) → Q (sign signs.Comma) → Q (sign s) → Next Q rest

-- from a list of the grammar to the loop, where `I` is known of each member
pub f_later : {A : Type 0} (L : A → A → Form) (P : Form) (I : A → Type 0) (s : SignKind)
    → ((a b : A) (ts rest : List Placed) → I a → L a b ts rest → Follows s rest → I b × P ts rest)
    → (a : A) (bs : List A) (ts rest : List Placed) → I a → (later L a bs ⨾ a_sign s) ts rest
    → loop_form (a_sign signs.Comma ⨾ P) (a_sign s) ts rest
f_later L P I s member a [] ts rest known (m, none, final) = (zero, (m, none, final))
f_later L P I s member a (b ∷ bs) ts rest known (m1, (c, comma, (m2, is, further)), final) =
    let this = member a b c m2 known is (λ Q first second.
    next_later Q L b bs s m2 rest first second (m1, further, final)) in
    let others = f_later L P I s member b bs m2 rest this.0 (m1, further, final) in
    (suc others.0, (others.1.0, (m2, (c, comma, this.1), others.1.1), others.1.2))

abbrev pub Later : {A : Type 0} → (A → A → Form) → SignKind → A → List Placed → List Placed → Type 0
Later {A} L s a ts rest = (bs : List A) × (later L a bs ⨾ a_sign s) ts rest

-- and back
pub b_later : {A : Type 0} (L : A → A → Form) (P : Form) (I : A → Type 0) (s : SignKind)
    → ((a : A) (ts rest : List Placed) → I a → P ts rest → (b : A) × I b × L a b ts rest)
    → (a : A) (k : ℕ) (ts m rest : List Placed) → I a → times (a_sign signs.Comma ⨾ P) k ts m
    → a_sign s m rest → Later L s a ts rest
b_later L P I s member a zero ts m rest known none final = ([], (m, none, final))
b_later L P I s member a (suc k) ts m rest known (m1, (c, comma, is), further) final =
    let this = member a c m1 known is in
    let others = b_later L P I s member this.0 k m1 m rest this.1 further final in
    (this.0 ∷ others.0, (others.1.0, (c, comma, (m1, this.2, others.1.1)), others.1.2))

-- ---- members in a row

pub f_each : {A : Type 0} (L : A → Form) (P : Form)
    → ((a : A) (ts rest : List Placed) → L a ts rest → P ts rest)
    → (bs : List A) (ts rest : List Placed) → each L bs ts rest
    → (k : ℕ) × times P k ts rest
f_each L P member [] ts rest same = (zero, same)
f_each L P member (b ∷ bs) ts rest (m, is, others) =
    let further = f_each L P member bs m rest others in
    (suc further.0, (m, member b ts m is, further.1))

-- and back
pub b_each : {A : Type 0} (L : A → Form) (P : Form)
    → ((ts rest : List Placed) → P ts rest → (a : A) × L a ts rest)
    → (k : ℕ) (ts rest : List Placed) → times P k ts rest
    → (bs : List A) × each L bs ts rest
b_each L P member zero ts rest same = ([], same)
b_each L P member (suc k) ts rest (m, is, others) =
    let this = member ts m is in
    let further = b_each L P member k m rest others in
    (this.0 ∷ further.0, (m, this.1, further.1))
