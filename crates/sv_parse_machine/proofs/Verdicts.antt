-- A run that fails breaks the rules that the grammar says, with their words.
use Rattle.std.proofs.Common.{◌≡◌, ℕ, Bool, true, false, not, ◌&&◌, List, [], ◌∷◌, ◌++◌, Option}
use Rattle.std.proofs.Common.{Some, ◌⊎◌, inl, inr, refl, sym, ap, subst, ◌∙◌}
use Rattle.std.specs.Prelude.{IsTrue, codes}
use Rattle.std.proofs.lemmas.Bool.{false≢true, and_parts}
use Rattle.sv_num.specs.declared.operators.BinOp.{BinOp}
use Rattle.sv_num.specs.declared.operators.BinOp.TheVariants.{Mul}
use Rattle.sv_num.specs.declared.faults.Place.{Place}
use Rattle.sv_token.specs.declared.keywords.WordKind.{WordKind}
use Rattle.sv_token.specs.declared.keywords.WordKind.TheVariants as words
use Rattle.sv_token.specs.declared.signs.SignKind.{SignKind}
use Rattle.sv_token.specs.declared.signs.SignKind.TheVariants as signs
use Rattle.sv_token.specs.Lexemes.{Lexeme, word, identifier, sign, Placed}
use Rattle.sv_token.specs.Words.{is_refused_word}
use Rattle.sv_ast.specs.GrammarForms.{binary_operator}
use Rattle.sv_ast.specs.GrammarRules.{ItemMayBegin, StatementMayBegin, EdgeMayFollow, PortMayBegin}
use Rattle.sv_ast.specs.GrammarRules.{StopAtOperand, Part, body, header, outside, last_part}
use Rattle.sv_ast.specs.GrammarRules.{last_word, is_name, stop_at_name, StopAtClock, IsStar}
use Rattle.sv_ast.specs.GrammarRules.{StarIsNext, IsRefusedName, IsRefusedForm}
use Rattle.sv_parse_machine.specs.Symbols.{Expected, an_item, a_statement, an_edge, a_port, behind_name}
use Rattle.sv_parse_machine.specs.StatementTable.{is_star}
use Rattle.sv_parse_machine.specs.Verdict.{word_if, name_word, is_star_lexeme, star_is_next}
use Rattle.sv_parse_machine.specs.Verdict.{parenthesis_word, is_body, hash_word, equals_word}
use Rattle.sv_parse_machine.specs.Verdict.{bracket_word, at_word, is_posedge, stop_at_clock, dot_word}
use Rattle.sv_parse_machine.specs.Verdict.{stop_at_declared, refused_word}
use Rattle.sv_parse_machine.proofs.AgreedRows.{is_expected}

-- ---- tests

word_given : (b : Bool) (x name : List ℕ) → word_if b x ≡ Some name → IsTrue b × (name ≡ x)
word_given true x name e = (refl, cc)
word_given false x name e = absurd (cc)

give_word : (b : Bool) (x name : List ℕ) → IsTrue b → name ≡ x → word_if b x ≡ Some name
give_word true x name is same = ap Some (sym same)
give_word false x name is same = absurd (false≢true is)

star_of : (o : Option BinOp) → IsTrue (is_star o) → o ≡ Some Mul
star_of (Some Mul) is = refl
star_of o is = absurd (false≢true is)

star_to : (o : Option BinOp) → o ≡ Some Mul → IsTrue (is_star o)
star_to o same = subst (λ o. IsTrue (is_star o)) (sym same) refl

star_lexeme : (x : Lexeme) → IsTrue (is_star_lexeme x) → IsStar x
star_lexeme (sign (signs.Operator o)) is = star_of (binary_operator o) is
star_lexeme x is = absurd (false≢true is)

lexeme_star : (x : Lexeme) → IsStar x → IsTrue (is_star_lexeme x)
lexeme_star (sign (signs.Operator o)) is = star_to (binary_operator o) is
lexeme_star x is = absurd is

star_next : (ts : List Placed) → IsTrue (star_is_next ts) → StarIsNext ts
star_next [] is = absurd (false≢true is)
star_next (t ∷ ts) is = star_lexeme t.lexeme is

next_star : (ts : List Placed) → StarIsNext ts → IsTrue (star_is_next ts)
next_star [] is = absurd is
next_star (t ∷ ts) is = lexeme_star t.lexeme is

body_of : (p : Part) → IsTrue (is_body p) → p ≡ body
body_of body is = refl
body_of header is = absurd (false≢true is)
body_of outside is = absurd (false≢true is)

body_to : (p : Part) → p ≡ body → IsTrue (is_body p)
body_to p same = subst (λ p. IsTrue (is_body p)) (sym same) refl

posedge_of : (x : Lexeme) → IsTrue (is_posedge x) → x ≡ word words.Posedge
posedge_of (word words.Posedge) is = refl
posedge_of x is = absurd (false≢true is)

name_of : (x : Lexeme) → IsTrue (is_name x) → (y : List ℕ) × (x ≡ identifier y)
name_of (identifier y) is = (y, refl)
name_of x is = absurd (false≢true is)

placed : Lexeme → Place → Placed
placed x p = record { lexeme = x; place = p }

clock_of : (ts : List Placed) → IsTrue (stop_at_clock ts) → StopAtClock ts
clock_of [] is = absurd (false≢true is)
clock_of (t ∷ []) is = absurd (false≢true is)
clock_of (t ∷ u ∷ []) is =
    let parts = and_parts (is_posedge t.lexeme) (is_name u.lexeme) is in
    let first : t.lexeme ≡ word words.Posedge = posedge_of t.lexeme parts.0 in
    let second = name_of u.lexeme parts.1 in
    ([], t.place, u.place, second.0, two t u t.place u.place second.0 first second.1)
  where
    two : (t u : Placed) (p q : Place) (y : List ℕ) → t.lexeme ≡ word words.Posedge
        → u.lexeme ≡ identifier y
        → t ∷ u ∷ [] ≡ record {
          lexeme = word words.Posedge;
          place = t.place;
        } ∷ record { lexeme = identifier y; place = u.place } ∷ []
    two t u p q y first second =
        ap (λ x. record { lexeme = x; place = t.place } ∷ u ∷ []) first
        ∙ ap (λ x. record { lexeme = word words.Posedge; place = t.place } ∷ record {
          lexeme = x;
          place = u.place;
        } ∷ []) second
clock_of (t ∷ u ∷ v ∷ ts) is =
    let (others, p, q, x, same) = clock_of (u ∷ v ∷ ts) is in
    (t ∷ others, p, q, x, ap (λ us. t ∷ us) same)

clock_to : (others : List Placed) (t u : Placed) →
    IsTrue (is_posedge t.lexeme && is_name u.lexeme) → IsTrue (stop_at_clock (others ++ t ∷ u ∷ []))
clock_to [] t u is = is
clock_to (a ∷ []) t u is = is
clock_to (a ∷ b ∷ []) t u is = is
clock_to (a ∷ b ∷ c ∷ others) t u is = clock_to (b ∷ c ∷ others) t u is

is_clock : (ts : List Placed) → StopAtClock ts → IsTrue (stop_at_clock ts)
is_clock ts (others, p, q, x, same) =
    subst (λ us. IsTrue (stop_at_clock us)) (sym same)
    (clock_to others (record { lexeme = word words.Posedge; place = p })
    (record { lexeme = identifier x; place = q }) refl)

-- ---- what may begin, by what a stuck place says

pub record May (before : List Placed) (e : Expected) : Type 0 where
  pub items : is_expected an_item e ≡ true → ItemMayBegin before
  pub no_items : is_expected an_item e ≡ false → ItemMayBegin before → ⊥
  pub statements : is_expected a_statement e ≡ true → StatementMayBegin before
  pub no_statements : is_expected a_statement e ≡ false → StatementMayBegin before → ⊥

pub record MayBeName (before : List Placed) (e : Expected) : Type 0 where
  pub edges : is_expected an_edge e ≡ true → EdgeMayFollow before
  pub no_edges : is_expected an_edge e ≡ false → EdgeMayFollow before → ⊥
  pub ports : is_expected a_port e ≡ true → PortMayBegin before
  pub no_ports : is_expected a_port e ≡ false → PortMayBegin before → ⊥

-- ---- words

same_name : (x name : List ℕ) → Some x ≡ Some name → name ≡ x
same_name x name e = cc

refused_to : (before : List Placed) (e : Expected) (x name : List ℕ) (b : Bool)
    → is_refused_word x ≡ b → (IsTrue (not b) → MayBeName before e)
    → IsRefusedName before x name → name_word b x e ≡ Some name
refused_to before e x name true refused may (inl (is, same)) = ap Some (sym same)
refused_to before e x name true refused may (inr (inl (free, same, is))) =
    absurd (false≢true (subst (λ b. IsTrue (not b)) refused free))
refused_to before e x name true refused may (inr (inr (free, same, is))) =
    absurd (false≢true (subst (λ b. IsTrue (not b)) refused free))
refused_to before e x name false refused may (inl (is, same)) =
    absurd (false≢true (subst IsTrue refused is))
refused_to before an_edge x name false refused may (inr (inl (free, same, is))) = ap Some (sym same)
refused_to before a_port x name false refused may (inr (inl (free, same, is))) =
    absurd ((may refl).no_edges refl is)
refused_to before e x name false refused may (inr (inl (free, same, is))) =
    absurd ((may refl).no_edges refl is)
refused_to before a_port x name false refused may (inr (inr (free, same, is))) = ap Some (sym same)
refused_to before an_edge x name false refused may (inr (inr (free, same, is))) =
    absurd ((may refl).no_ports refl is)
refused_to before e x name false refused may (inr (inr (free, same, is))) =
    absurd ((may refl).no_ports refl is)

refused_of : (before : List Placed) (e : Expected) (x name : List ℕ) (b : Bool)
    → is_refused_word x ≡ b → (IsTrue (not b) → MayBeName before e)
    → name_word b x e ≡ Some name → IsRefusedName before x name
refused_of before e x name true refused may is = inl (refused, same_name x name is)
refused_of before an_edge x name false refused may is =
    inr (inl (
      subst (λ b. IsTrue (not b)) (sym refused) refl,
      same_name (codes "sensitivity-list")
          name is,
      (may refl).edges refl,
    ))
refused_of before a_port x name false refused may is =
    inr (inr (
      subst (λ b. IsTrue (not b)) (sym refused) refl,
      same_name (codes "header-names") name
          is,
      (may refl).ports refl,
    ))
refused_of before e x name false refused may is = absurd (cc)

parenthesis_to : (before : List Placed) (e : Expected) (after : List Placed) (name : List ℕ)
    → May before e
    → IsRefusedForm before (sign signs.OpenParenthesis) after name
    → parenthesis_word e (star_is_next after) ≡ Some name
parenthesis_to before an_item after name may (same, star, is) =
    give_word (star_is_next after) (codes "attribute") name (next_star after star) same
parenthesis_to before a_statement after name may (same, star, is) =
    give_word (star_is_next after) (codes "attribute") name (next_star after star) same
parenthesis_to before e after name may (same, star, inl is) = absurd (may.no_items refl is)
parenthesis_to before e after name may (same, star, inr is) = absurd (may.no_statements refl is)

parenthesis_of : (before : List Placed) (e : Expected) (after : List Placed) (name : List ℕ)
    → May before e
    → parenthesis_word e (star_is_next after) ≡ Some name
    → IsRefusedForm before (sign signs.OpenParenthesis) after name
parenthesis_of before an_item after name may is =
    let given = word_given (star_is_next after) (codes "attribute") name is in
    (given.1, star_next after given.0, inl (may.items refl))
parenthesis_of before a_statement after name may is =
    let given = word_given (star_is_next after) (codes "attribute") name is in
    (given.1, star_next after given.0, inr (may.statements refl))
parenthesis_of before e after name may is = absurd (cc)

hash_to : (before : List Placed) (e : Expected) (name : List ℕ) → May before e
    → (name ≡ codes "delay") × (last_part before ≡ body) × (ItemMayBegin before → ⊥)
    → hash_word e (is_body (last_part before)) ≡ Some name
hash_to before an_item name may (same, part, none) = absurd (none (may.items refl))
hash_to before e name may (same, part, none) =
    give_word (is_body (last_part before)) (codes "delay") name
    (body_to (last_part before) part) same

hash_of : (before : List Placed) (e : Expected) (name : List ℕ) → May before e
    → hash_word e (is_body (last_part before)) ≡ Some name
    → (name ≡ codes "delay") × ((last_part before ≡ body) × (ItemMayBegin before → ⊥))
hash_of before an_item name may is = absurd (cc)
hash_of before e name may is =
    let given = word_given (is_body (last_part before)) (codes "delay") name is in
    (given.1, (body_of (last_part before) given.0, may.no_items refl))

-- of a name that is declared
equals_to : (w : Option WordKind) (declared : Bool) (name : List ℕ) → name ≡ codes "reg-init" →
    w ≡ Some words.Reg → IsTrue declared → equals_word w declared ≡ Some name
equals_to w declared name same reg is =
    subst (λ w. equals_word w declared ≡ Some name) (sym reg)
    (give_word declared (codes "reg-init") name is same)

equals_of : (w : Option WordKind) (declared : Bool) (name : List ℕ) →
    equals_word w declared ≡ Some name → (name ≡ codes "reg-init")
    × ((w ≡ Some words.Reg) × IsTrue declared)
equals_of (Some words.Reg) declared name is =
    let given = word_given declared (codes "reg-init") name is in (given.1, (refl, given.0))
equals_of w declared name is = absurd (cc)

abbrev SignalWord : Option WordKind → Bool → Type 0
SignalWord w declared =
    ((w ≡ Some words.Input) × IsTrue declared) ⊎ ((w ≡ Some words.Output) × IsTrue declared)
    ⊎ ((w ≡ Some words.Wire) × IsTrue declared) ⊎ ((w ≡ Some words.Reg) × IsTrue declared)

bracket_to : (w : Option WordKind) (named declared : Bool) (name : List ℕ)
    → ((name ≡ codes "memory") × SignalWord w declared)
    ⊎ ((name ≡ codes "target-select") × ((w ≡ Some words.Assign) × IsTrue named))
    → bracket_word w named declared ≡ Some name
bracket_to w named declared name (inl (same, inl (at, is))) =
    subst (λ w. bracket_word w named declared ≡ Some name) (sym at)
    (give_word declared (codes "memory") name is same)
bracket_to w named declared name (inl (same, inr (inl (at, is)))) =
    subst (λ w. bracket_word w named declared ≡ Some name) (sym at)
    (give_word declared (codes "memory") name is same)
bracket_to w named declared name (inl (same, inr (inr (inl (at, is))))) =
    subst (λ w. bracket_word w named declared ≡ Some name) (sym at)
    (give_word declared (codes "memory") name is same)
bracket_to w named declared name (inl (same, inr (inr (inr (at, is))))) =
    subst (λ w. bracket_word w named declared ≡ Some name) (sym at)
    (give_word declared (codes "memory") name is same)
bracket_to w named declared name (inr (same, (at, is))) =
    subst (λ w. bracket_word w named declared ≡ Some name) (sym at)
    (give_word named (codes "target-select") name is same)

bracket_of : (w : Option WordKind) (named declared : Bool) (name : List ℕ)
    → bracket_word w named declared ≡ Some name
    → ((name ≡ codes "memory") × SignalWord w declared)
    ⊎ ((name ≡ codes "target-select") × ((w ≡ Some words.Assign) × IsTrue named))
bracket_of (Some words.Input) named declared name is =
    let given = word_given declared (codes "memory") name is in inl (given.1, inl (refl, given.0))
bracket_of (Some words.Output) named declared name is =
    let given = word_given declared (codes "memory") name is in
    inl (given.1, inr (inl (refl, given.0)))
bracket_of (Some words.Wire) named declared name is =
    let given = word_given declared (codes "memory") name is in
    inl (given.1, inr (inr (inl (refl, given.0))))
bracket_of (Some words.Reg) named declared name is =
    let given = word_given declared (codes "memory") name is in
    inl (given.1, inr (inr (inr (refl, given.0))))
bracket_of (Some words.Assign) named declared name is =
    let given = word_given named (codes "target-select") name is in inr (given.1, (refl, given.0))
bracket_of w named declared name is = absurd (cc)

at_to : (before : List Placed) (e : Expected) (name : List ℕ) → May before e →
    name ≡ codes "event-control" → StatementMayBegin before → at_word e ≡ Some name
at_to before a_statement name may same is = ap Some (sym same)
at_to before e name may same is = absurd (may.no_statements refl is)

at_of : (before : List Placed) (e : Expected) (name : List ℕ) → May before e →
    at_word e ≡ Some name → (name ≡ codes "event-control") × StatementMayBegin before
at_of before a_statement name may is =
    (same_name (codes "event-control") name is, may.statements refl)
at_of before e name may is = absurd (cc)

-- ---- all of them, but the dot

-- what is known of a place where the lexeme is not taken
pub record Known (before : List Placed) (x : Lexeme) (e : Expected) : Type 0 where
  pub may : ((y : List ℕ) → x ≡ identifier y → ⊥) → (x ≡ sign signs.Dot → ⊥) → May before e
  pub may_be_name : (y : List ℕ) → x ≡ identifier y → IsTrue (not (is_refused_word y)) →
      MayBeName before e
  pub dots : x ≡ sign signs.Dot → (e ≡ behind_name → StopAtOperand before)
      × (StopAtOperand before → e ≡ behind_name)

no_name_at : (s : SignKind) (y : List ℕ) → sign s ≡ identifier y → ⊥
no_name_at s y same = cc

-- a sign other than `.` may begin where the lexeme stands
may_sign : {before : List Placed} {e : Expected} (s : SignKind) →
    (sign s ≡ sign signs.Dot → ⊥) → Known before (sign s) e → May before e
may_sign s no_dot known = known.may (no_name_at s) no_dot

dot_to : (before : List Placed) (e : Expected) (name : List ℕ)
    → (StopAtOperand before → e ≡ behind_name) → name ≡ codes "hierarchical-name"
    → StopAtOperand before
    → dot_word e ≡ Some name
dot_to before e name known same is =
    subst (λ e. dot_word e ≡ Some name) (sym (known is)) (ap Some (sym same))

dot_of : (before : List Placed) (e : Expected) (name : List ℕ)
    → (e ≡ behind_name → StopAtOperand before) → dot_word e ≡ Some name
    → (name ≡ codes "hierarchical-name") × StopAtOperand before
dot_of before behind_name name known is =
    (same_name (codes "hierarchical-name") name is, known refl)
dot_of before e name known is = absurd (cc)

-- the lexeme begins a form that is left out exactly where it has a word
pub form_has_word : (before : List Placed) (x : Lexeme) (e : Expected) (after : List Placed)
    (name : List ℕ) → Known before x e → IsRefusedForm before x after name
    → refused_word e before x after ≡ Some name
form_has_word before (identifier y) e after name known is =
    refused_to before e y name (is_refused_word y) refl (known.may_be_name y refl) is
form_has_word before (sign signs.OpenParenthesis) e after name known is =
    parenthesis_to before e after name (may_sign signs.OpenParenthesis (λ same. cc) known) is
form_has_word before (sign signs.Hash) e after name known is =
    hash_to before e name (may_sign signs.Hash (λ same. cc) known) (is.0, is.1.0, is.1.1)
form_has_word before (sign signs.Equals) e after name known is =
    equals_to (last_word before) (stop_at_declared before) name is.0 is.1.0 is.1.1
form_has_word before (sign signs.OpenBracket) e after name known is =
    bracket_to (last_word before) (stop_at_name before) (stop_at_declared before) name is
form_has_word before (sign signs.At) e after name known is =
    at_to before e name (may_sign signs.At (λ same. cc) known) is.0 is.1
form_has_word before (sign signs.Comma) e after name known is =
    give_word (stop_at_clock before) (codes "several-events") name (is_clock before is.1) is.0
form_has_word before (sign signs.Dot) e after name known is =
    dot_to before e name (known.dots refl).1 is.0 is.1
form_has_word before x e after name known is = absurd is

pub word_has_form : (before : List Placed) (x : Lexeme) (e : Expected) (after : List Placed)
    (name : List ℕ) → Known before x e
    → refused_word e before x after ≡ Some name → IsRefusedForm before x after name
word_has_form before (identifier y) e after name known is =
    refused_of before e y name (is_refused_word y) refl (known.may_be_name y refl) is
word_has_form before (sign signs.OpenParenthesis) e after name known is =
    parenthesis_of before e after name (may_sign signs.OpenParenthesis (λ same. cc) known) is
word_has_form before (sign signs.Hash) e after name known is =
    hash_of before e name (may_sign signs.Hash (λ same. cc) known) is
word_has_form before (sign signs.Equals) e after name known is =
    equals_of (last_word before) (stop_at_declared before) name is
word_has_form before (sign signs.OpenBracket) e after name known is =
    bracket_of (last_word before) (stop_at_name before) (stop_at_declared before) name is
word_has_form before (sign signs.At) e after name known is =
    at_of before e name (may_sign signs.At (λ same. cc) known) is
word_has_form before (sign signs.Comma) e after name known is =
    let given = word_given (stop_at_clock before) (codes "several-events") name is in
    (given.1, clock_of before given.0)
word_has_form before (sign signs.Dot) e after name known is =
    dot_of before e name (known.dots refl).0 is
word_has_form before x e after name known is = absurd (cc)
