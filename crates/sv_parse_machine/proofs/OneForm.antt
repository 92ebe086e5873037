-- How forms determine trees: where the same tokens are of two forms, the trees of both and the
-- rests behind them are one.
use Rattle.std.proofs.Common.{◌≡◌, ℕ, Bool, true, List, [], ◌∷◌, inl, inr, sym, subst, ◌∙◌}
use Rattle.sv_num.specs.declared.faults.Place.{Place}
use Rattle.sv_token.specs.declared.keywords.WordKind.{WordKind}
use Rattle.sv_token.specs.declared.signs.SignKind.{SignKind}
use Rattle.sv_token.specs.Lexemes.{Lexeme, word, identifier, sign, Literal, Placed}
use Rattle.sv_ast.specs.GrammarForms.{Form, ◌⨾◌, ◌or◌, given, nothing, never, lexeme_at, number_at}
use Rattle.sv_ast.specs.GrammarForms.{name_at, a_word, a_sign, a_name, a_number}
use Rattle.sv_ast.proofs.GrammarOneToken.{one_lexeme, one_name, one_number}

-- what is known of the tokens behind a form
abbrev pub Behind : Type 1
Behind = List Placed → Type 0

abbrev pub Anything : Behind
Anything ts = Unit {0}

-- where tokens are of both forms, with what is known behind them, the sentence holds and the rests
-- are one
pub record AreOne (F : Behind) (E : Type 0) (P Q : Form) : Type 0 where
  pub one : (ts r s : List Placed) → P ts r → Q ts s → F r → F s → E × (r ≡ s)

-- no tokens begin with both forms
pub record AreApart (P Q : Form) : Type 0 where
  pub apart : (ts r s : List Placed) → P ts r → Q ts s → ⊥

-- what is known where the form begins, of what is known behind it
pub record Leads (F D : Behind) (P : Form) : Type 0 where
  pub leads : (ts r : List Placed) → P ts r → D r → F ts

abbrev pub placed : Lexeme → Place → Placed
placed x p = record { lexeme = x; place = p }

-- known of any tokens that begin with the lexeme
abbrev pub At : Behind → Lexeme → Type 0
At F x = (p : Place) (rest : List Placed) → F (placed x p ∷ rest)

-- ---- sentences

pub one_as : {E G : Type 0} {F : Behind} {P Q : Form} → (E → G) → AreOne F E P Q → AreOne F G P Q
one_as so same = record {
  one = λ ts r s is is_too ends ends_too.
      let both = same.one ts r s is is_too ends ends_too in (so both.0, both.1);
}

pub one_anywhere : {E : Type 0} {F : Behind} {P Q : Form} → AreOne Anything E P Q → AreOne F E P Q
one_anywhere same =
    record { one = λ ts r s is is_too ends ends_too. same.one ts r s is is_too tt tt }

pub one_where : {E : Type 0} {F D : Behind} {P Q : Form} → ((ts : List Placed) → D ts → F ts) →
    AreOne F E P Q → AreOne D E P Q
one_where so same =
    record {
      one = λ ts r s is is_too ends ends_too.
          same.one ts r s is is_too (so r ends) (so s ends_too);
    }

pub one_apart : {E : Type 0} {F : Behind} {P Q : Form} → AreApart P Q → AreOne F E P Q
one_apart apart =
    record { one = λ ts r s is is_too ends ends_too. absurd (apart.apart ts r s is is_too) }

pub one_turned : {E : Type 0} {F : Behind} {P Q : Form} → AreOne F E P Q → AreOne F E Q P
one_turned same = record {
  one = λ ts r s is is_too ends ends_too.
      let both = same.one ts s r is_too is ends_too ends in (both.0, sym both.1);
}

pub apart_turned : {P Q : Form} → AreApart P Q → AreApart Q P
apart_turned apart = record { apart = λ ts r s is is_too. apart.apart ts s r is_too is }

pub one_nothing : {F : Behind} → AreOne F (Unit {0}) nothing nothing
one_nothing = record { one = λ ts r s is is_too ends ends_too. (tt, sym is ∙ is_too) }

pub leads_nothing : {F D : Behind} → ((ts : List Placed) → D ts → F ts) → Leads F D nothing
leads_nothing {F = F} so = record { leads = λ ts r is ends. subst F (sym is) (so r ends) }

-- ---- one behind the other

-- behind a form that ends by itself
pub one_then : {E G : Type 0} {F : Behind} {P Q R S : Form}
    → AreOne Anything E P R → (E → AreOne F G Q S) → AreOne F (E × G) (P ⨾ Q) (R ⨾ S)
one_then {S = S} first second = record {
  one = λ ts r s is is_too ends ends_too.
      let same = first.one ts is.0 is_too.0 is.1 is_too.1 tt tt in
      let next = second same.0 in
      let rest = next.one is.0 r s is.2 (subst (λ us. S us s) (sym same.1) is_too.2) ends
      ends_too in
      ((same.0, rest.0), rest.1);
}

-- behind a form that ends where the next one begins
pub one_before : {E G : Type 0} {F D : Behind} {P Q R S : Form}
    → AreOne F E P R → Leads F D Q → Leads F D S → (E → AreOne D G Q S)
    → AreOne D (E × G) (P ⨾ Q) (R ⨾ S)
one_before {S = S} first leads leads_too second = record {
  one = λ ts r s is is_too ends ends_too.
      let same = first.one ts is.0 is_too.0 is.1 is_too.1 (leads.leads is.0 r is.2 ends)
      (leads_too.leads is_too.0 s is_too.2 ends_too) in
      let next = second same.0 in
      let rest = next.one is.0 r s is.2 (subst (λ us. S us s) (sym same.1) is_too.2) ends
      ends_too in
      ((same.0, rest.0), rest.1);
}

pub one_grouped : {E : Type 0} {F : Behind} {P Q R S : Form} → AreOne F E S (P ⨾ Q ⨾ R) →
    AreOne F E S ((P ⨾ Q) ⨾ R)
one_grouped same = record {
  one = λ ts r s is is_too ends ends_too.
      same.one ts r s is (is_too.1.0, is_too.1.1, (is_too.0, is_too.1.2, is_too.2)) ends ends_too;
}

-- apart behind forms that are one
pub apart_then : {E : Type 0} {P Q R S : Form} → AreOne Anything E P R → (E → AreApart Q S) →
    AreApart (P ⨾ Q) (R ⨾ S)
apart_then {S = S} first second = record {
  apart = λ ts r s is is_too.
      let same = first.one ts is.0 is_too.0 is.1 is_too.1 tt tt in
      let next = second same.0 in
      next.apart is.0 r s is.2 (subst (λ us. S us s) (sym same.1) is_too.2);
}

pub apart_before : {E : Type 0} {F : Behind} {P Q R S : Form}
    → AreOne F E P R → Leads F Anything Q → Leads F Anything S → (E → AreApart Q S)
    → AreApart (P ⨾ Q) (R ⨾ S)
apart_before {S = S} first leads leads_too second = record {
  apart = λ ts r s is is_too.
      let same = first.one ts is.0 is_too.0 is.1 is_too.1 (leads.leads is.0 r is.2 tt)
      (leads_too.leads is_too.0 s is_too.2 tt) in
      let next = second same.0 in
      next.apart is.0 r s is.2 (subst (λ us. S us s) (sym same.1) is_too.2);
}

pub apart_grouped : {P Q R S : Form} → AreApart P (Q ⨾ R ⨾ S) → AreApart P ((Q ⨾ R) ⨾ S)
apart_grouped apart = record {
  apart = λ ts r s is is_too.
      apart.apart ts r s is (is_too.1.0, is_too.1.1, (is_too.0, is_too.1.2, is_too.2));
}

pub apart_first : {P Q R S : Form} → AreApart P R → AreApart (P ⨾ Q) (R ⨾ S)
apart_first apart =
    record { apart = λ ts r s is is_too. apart.apart ts is.0 is_too.0 is.1 is_too.1 }

pub leads_first : {F D : Behind} {P Q : Form} → Leads F Anything P → Leads F D (P ⨾ Q)
leads_first leads = record { leads = λ ts r is ends. leads.leads ts is.0 is.1 tt }

pub leads_through : {F C D : Behind} {P Q : Form} → Leads F C P → Leads C D Q → Leads F D (P ⨾ Q)
leads_through leads further =
    record { leads = λ ts r is ends. leads.leads ts is.0 is.1 (further.leads is.0 r is.2 ends) }

-- ---- tokens

pub one_this : (x : Lexeme) (p q : Place) → AreOne Anything (p ≡ q) (lexeme_at x p) (lexeme_at x q)
one_this x p q = record {
  one = λ ts r s is is_too ends ends_too.
      let same = one_lexeme x x p q ts r s is is_too in (same.1, same.2);
}

pub one_word : (w : WordKind) → AreOne Anything (Unit {0}) (a_word w) (a_word w)
one_word w = record {
  one = λ ts r s is is_too ends ends_too.
      (tt, (one_lexeme (word w) (word w) is.0 is_too.0 ts r s is.1 is_too.1).2);
}

pub one_mark : (c : SignKind) → AreOne Anything (Unit {0}) (a_sign c) (a_sign c)
one_mark c = record {
  one = λ ts r s is is_too ends ends_too.
      (tt, (one_lexeme (sign c) (sign c) is.0 is_too.0 ts r s is.1 is_too.1).2);
}

pub one_placed : (x y : List ℕ) (p q : Place) →
    AreOne Anything ((x ≡ y) × (p ≡ q)) (name_at x p) (name_at y q)
one_placed x y p q = record {
  one = λ ts r s is is_too ends ends_too.
      let same = one_name x y p q ts r s is is_too in ((same.0, same.1), same.2);
}

pub one_plain : (x y : List ℕ) → AreOne Anything (x ≡ y) (a_name x) (a_name y)
one_plain x y = record {
  one = λ ts r s is is_too ends ends_too.
      let same = one_name x y is.0 is_too.0 ts r s is.1 is_too.1 in (same.0, same.2);
}

pub one_number_at : (x y : Literal) (p q : Place) →
    AreOne Anything ((x ≡ y) × (p ≡ q)) (number_at x p) (number_at y q)
one_number_at x y p q = record {
  one = λ ts r s is is_too ends ends_too.
      let same = one_number x y p q ts r s is is_too in ((same.0, same.1), same.2);
}

pub one_numeral : (x y : Literal) → AreOne Anything (x ≡ y) (a_number x) (a_number y)
one_numeral x y = record {
  one = λ ts r s is is_too ends ends_too.
      let same = one_number x y is.0 is_too.0 ts r s is.1 is_too.1 in (same.0, same.2);
}

-- the same sign or word, and then forms that are one
pub sign_behind : {E : Type 0} {F : Behind} {Q S : Form} (c : SignKind) → AreOne F E Q S →
    AreOne F E (a_sign c ⨾ Q) (a_sign c ⨾ S)
sign_behind c same = one_as (λ both. both.1) (one_then (one_mark c) (λ first. same))

pub word_behind : {E : Type 0} {F : Behind} {Q S : Form} (w : WordKind) → AreOne F E Q S →
    AreOne F E (a_word w ⨾ Q) (a_word w ⨾ S)
word_behind w same = one_as (λ both. both.1) (one_then (one_word w) (λ first. same))

pub leads_sign : {F D : Behind} (c : SignKind) → At F (sign c) → Leads F D (a_sign c)
leads_sign {F = F} c begins = record { leads = λ ts r is ends. subst F (sym is.1) (begins is.0 r) }

pub leads_word : {F D : Behind} (w : WordKind) → At F (word w) → Leads F D (a_word w)
leads_word {F = F} w begins = record { leads = λ ts r is ends. subst F (sym is.1) (begins is.0 r) }

pub leads_this : {F D : Behind} (x : Lexeme) (p : Place) → At F x → Leads F D (lexeme_at x p)
leads_this {F = F} x p begins = record { leads = λ ts r is ends. subst F (sym is) (begins p r) }

pub leads_name : {F D : Behind} (x : List ℕ) (p : Place) → At F (identifier x) →
    Leads F D (name_at x p)
leads_name {F = F} x p begins = record { leads = λ ts r is ends. subst F (sym is.1) (begins p r) }

-- a form before a sign that ends it
pub before_sign : {E : Type 0} {F D : Behind} {P R : Form} (c : SignKind)
    → AreOne F E P R → At F (sign c) → AreOne D E (P ⨾ a_sign c) (R ⨾ a_sign c)
before_sign c same begins =
    one_as (λ both. both.0) (one_before same (leads_sign c begins) (leads_sign c begins) (λ first.
    one_anywhere (one_mark c)))

-- forms with a sign between them
pub around_sign : {E G : Type 0} {F D : Behind} {P Q R S : Form} (c : SignKind)
    → AreOne F E P R → At F (sign c) → AreOne D G Q S
    → AreOne D (E × G) (P ⨾ a_sign c ⨾ Q) (R ⨾ a_sign c ⨾ S)
around_sign c first begins second =
    one_before first (leads_first (leads_sign c begins)) (leads_first (leads_sign c begins))
    (λ same. sign_behind c second)

-- a form before a word that ends it
pub before_word : {E : Type 0} {F D : Behind} {P R : Form} (w : WordKind)
    → AreOne F E P R → At F (word w) → AreOne D E (P ⨾ a_word w) (R ⨾ a_word w)
before_word w same begins =
    one_as (λ both. both.0) (one_before same (leads_word w begins) (leads_word w begins) (λ first.
    one_anywhere (one_word w)))

-- a form that ends by itself, and a sign
pub then_sign : {E : Type 0} {F : Behind} {P R : Form} (c : SignKind) → AreOne Anything E P R →
    AreOne F E (P ⨾ a_sign c) (R ⨾ a_sign c)
then_sign c same = one_as (λ both. both.0) (one_then same (λ first. one_anywhere (one_mark c)))

-- ---- tokens that differ

-- the first token is there, and passes the test
abbrev pub FirstIs : (Lexeme → Bool) → Behind
FirstIs test [] = ⊥
FirstIs test (t ∷ ts) = test t.lexeme ≡ true

-- the first token is there, and is of the class
abbrev pub HasClass : (Lexeme → ℕ) → ℕ → Behind
HasClass class c [] = ⊥
HasClass class c (t ∷ ts) = class t.lexeme ≡ c

pub one_class : (class : Lexeme → ℕ) (c d : ℕ) (ts : List Placed) → HasClass class c ts →
    HasClass class d ts → c ≡ d
one_class class c d [] first second = absurd first
one_class class c d (t ∷ ts) first second = sym first ∙ second

pub classes_apart : {P Q : Form} (class : Lexeme → ℕ) (c d : ℕ) → (c ≡ d → ⊥)
    → Leads (HasClass class c) Anything P → Leads (HasClass class d) Anything Q → AreApart P Q
classes_apart class c d differ first second = record {
  apart = λ ts r s is is_too.
      differ (one_class class c d ts (first.leads ts r is tt) (second.leads ts s is_too tt));
}

-- a form that begins with a lexeme
abbrev pub Begins : Lexeme → Form → Type 0
Begins x P = Leads (λ ts. (p : Place) × (rest : List Placed) × lexeme_at x p ts rest) Anything P

pub begins_word : (w : WordKind) → Begins (word w) (a_word w)
begins_word w = record { leads = λ ts r is ends. (is.0, r, is.1) }

pub begins_sign : (c : SignKind) → Begins (sign c) (a_sign c)
begins_sign c = record { leads = λ ts r is ends. (is.0, r, is.1) }

pub begins_plain : (x : List ℕ) → Begins (identifier x) (a_name x)
begins_plain x = record { leads = λ ts r is ends. (is.0, r, is.1.1) }

pub words_apart : {P Q : Form} (x y : Lexeme) → (x ≡ y → ⊥) → Begins x P → Begins y Q → AreApart P Q
words_apart x y differ first second = record {
  apart = λ ts r s is is_too.
      let at = first.leads ts r is tt in
      let at_too = second.leads ts s is_too tt in
      differ (one_lexeme x y at.0 at_too.0 ts at.1 at_too.1 at.2 at_too.2).0;
}

-- known of no tokens that begin with the form
abbrev pub Refuses : Behind → Form → Type 0
Refuses D P = Leads (λ ts. D ts → ⊥) Anything P

-- what is known where the one form begins is known nowhere where the other does
pub apart_from : {D : Behind} {P Q : Form} → Refuses D P → Leads D Anything Q → AreApart P Q
apart_from refuses leads =
    record { apart = λ ts r s is is_too. refuses.leads ts r is tt (leads.leads ts s is_too tt) }

-- nothing, and a form that does not begin there
pub one_or_none : {E : Type 0} {F : Behind} {P : Form} → Refuses F P → AreOne F E nothing P
one_or_none {F = F} refuses = record {
  one = λ ts r s is is_too ends ends_too.
      absurd (refuses.leads ts s is_too tt (subst F (sym is) ends));
}

pub one_never : {E : Type 0} {F : Behind} {Q : Form} → AreOne F E never Q
one_never = record { one = λ ts r s is is_too ends ends_too. absurd is }

pub leads_never : {F D : Behind} → Leads F D never
leads_never = record { leads = λ ts r is ends. absurd is }

-- what is known where the one form begins is known of no tokens that begin with the other
pub one_refused : {E : Type 0} {F D : Behind} {P Q : Form} → Leads F D P → Refuses F Q →
    AreOne D E P Q
one_refused leads refuses = record {
  one = λ ts r s is is_too ends ends_too.
      absurd (refuses.leads ts s is_too tt (leads.leads ts r is ends));
}

-- ---- choices

pub apart_given : {A : Type 0} {P Q : Form} → (A → AreApart P Q) → AreApart (given A P) Q
apart_given apart =
    record { apart = λ ts r s is is_too. let known = apart is.0 in known.apart ts r s is.1 is_too }

pub apart_or : {P Q R : Form} → AreApart P Q → AreApart P R → AreApart P (Q or R)
apart_or {P = P} {Q = Q} {R = R} a b = record { apart = λ ts r s is is_too. cases ts r s is is_too }
  where
    cases : (ts r s : List Placed) → P ts r → (Q or R) ts s → ⊥
    cases ts r s is (inl y) = a.apart ts r s is y
    cases ts r s is (inr y) = b.apart ts r s is y

pub apart_prefix : {P Q R : Form} → AreApart P R → AreApart (P ⨾ Q) R
apart_prefix apart = record { apart = λ ts r s is is_too. apart.apart ts is.0 s is.1 is_too }

pub leads_given : {A : Type 0} {F D : Behind} {P : Form} → Leads F D P → Leads F D (given A P)
leads_given leads = record { leads = λ ts r is ends. leads.leads ts r is.1 ends }

pub leads_or : {F D : Behind} {P Q : Form} → Leads F D P → Leads F D Q → Leads F D (P or Q)
leads_or {F = F} {D = D} {P = P} {Q = Q} a b = record { leads = λ ts r is ends. cases ts r is ends }
  where
    cases : (ts r : List Placed) → (P or Q) ts r → D r → F ts
    cases ts r (inl x) ends = a.leads ts r x ends
    cases ts r (inr y) ends = b.leads ts r y ends

pub one_given : {A B E : Type 0} {F : Behind} {P Q : Form} → (A → B → AreOne F E P Q) →
    AreOne F E (given A P) (given B Q)
one_given same =
    record {
      one = λ ts r s is is_too ends ends_too. let known = same is.0 is_too.0 in
          known.one ts r s is.1 is_too.1 ends ends_too;
    }

pub one_of_either : {E : Type 0} {F : Behind} {P Q R : Form} → AreOne F E P R → AreOne F E Q R →
    AreOne F E (P or Q) R
one_of_either {E = E} {F = F} {P = P} {Q = Q} {R = R} a b =
    record { one = λ ts r s is is_too ends ends_too. cases ts r s is is_too ends ends_too }
  where
    cases : (ts r s : List Placed) → (P or Q) ts r → R ts s → F r → F s → E × (r ≡ s)
    cases ts r s (inl x) is_too ends ends_too = a.one ts r s x is_too ends ends_too
    cases ts r s (inr y) is_too ends ends_too = b.one ts r s y is_too ends ends_too

pub one_or : {E : Type 0} {F : Behind} {P Q R S : Form} → AreOne F E P R → AreOne F E P S
    → AreOne F E Q R → AreOne F E Q S
    → AreOne F E (P or Q) (R or S)
one_or a b c d =
    one_of_either (one_turned (one_of_either (one_turned a) (one_turned b)))
    (one_turned (one_of_either (one_turned c) (one_turned d)))
