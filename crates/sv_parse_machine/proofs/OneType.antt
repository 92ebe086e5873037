-- Values, ranges, labels and types determine their trees.
use Rattle.std.proofs.Common.{◌≡◌, ℕ, Bool, true, false, List, [], ◌∷◌, Option, Some, None, refl}
use Rattle.std.proofs.Common.{sym, ap₂, subst}
use Rattle.std.specs.Prelude.{IsTrue}
use Rattle.std.proofs.lemmas.Bool.{false≢true}
use Rattle.sv_num.specs.declared.faults.Place.{Place}
use Rattle.sv_token.specs.declared.keywords.WordKind.TheVariants as words
use Rattle.sv_token.specs.declared.signs.SignKind.TheVariants as signs
use Rattle.sv_token.specs.Lexemes.{Lexeme, word, identifier, numeral, sign, Placed}
use Rattle.sv_ast.specs.Tree.{ExpressionTree, SpanTree, LabelTree, point_label, table_label}
use Rattle.sv_ast.specs.Tree.{DeclarationTree, MemoryTree, MemoryLabelTree, memory_point, by_index}
use Rattle.sv_ast.specs.GrammarForms.{Form, ◌⨾◌, perhaps, flag, name_at, a_sign, a_name}
use Rattle.sv_ast.specs.GrammarForms.{in_parentheses, in_braces}
use Rattle.sv_ast.specs.GrammarGroups.{Written, literal, named, bit_of, part_of, group, unary}
use Rattle.sv_ast.specs.GrammarGroups.{binary, choice, join, replication}
use Rattle.sv_ast.specs.GrammarExpressions.{Limits, IsWritten, IsExpression}
use Rattle.sv_ast.specs.GrammarDeclarations.{IsRange, IsLabel, IsTyped, IsMemoryLabel}
use Rattle.sv_ast.proofs.GrammarOneToken.{NextIs, ends_expression, is_no_bracket}
use Rattle.sv_ast.proofs.GrammarOneExpression.{one_expression}
use Rattle.sv_parse_machine.proofs.OneForm.{Behind, Anything, AreOne, AreApart, Leads, At, one_as}
use Rattle.sv_parse_machine.proofs.OneForm.{one_anywhere, one_where, one_apart, one_turned, apart_turned}
use Rattle.sv_parse_machine.proofs.OneForm.{one_nothing, one_then, one_before, apart_then, apart_grouped}
use Rattle.sv_parse_machine.proofs.OneForm.{apart_first, leads_first, leads_through, one_mark, one_placed}
use Rattle.sv_parse_machine.proofs.OneForm.{one_plain, sign_behind, leads_sign, leads_name, before_sign}
use Rattle.sv_parse_machine.proofs.OneForm.{around_sign, then_sign, FirstIs, begins_sign, begins_plain}
use Rattle.sv_parse_machine.proofs.OneForm.{words_apart, Refuses, one_or_none}
use Rattle.sv_parse_machine.proofs.OneList.{one_perhaps, leads_perhaps, one_flag, leads_flag}

abbrev pub ExpressionEnds : Behind
ExpressionEnds = NextIs ends_expression

-- ---- expressions

pub one_value : (l : Limits) (n : ℕ) (e f : ExpressionTree) →
    AreOne ExpressionEnds (e ≡ f) (IsExpression l n e) (IsExpression l n f)
one_value l n e f =
    record {
      one = λ ts r s is is_too ends ends_too.
          one_expression l l n n e f ts r s is is_too ends ends_too;
    }

abbrev pub begins_expression : Lexeme → Bool
begins_expression (numeral v) = true
begins_expression (identifier x) = true
begins_expression (sign signs.OpenParenthesis) = true
begins_expression (sign signs.OpenBrace) = true
begins_expression (sign (signs.Operator o)) = true
begins_expression x = false

written_begins : (l : Limits) (n : ℕ) (w : Written) (ts r : List Placed) → IsWritten l n w ts r →
    FirstIs begins_expression ts
written_begins l n (literal v p) ts r is = subst (FirstIs begins_expression) (sym is) refl
written_begins l n (named x p) ts r is = subst (FirstIs begins_expression) (sym is.1) refl
written_begins l n (bit_of x p i) ts r is = subst (FirstIs begins_expression) (sym is.1.1) refl
written_begins l n (part_of x p high low) ts r is =
    subst (FirstIs begins_expression) (sym is.1.1) refl
written_begins l n (group e) ts r is = subst (FirstIs begins_expression) (sym is.1.1.1) refl
written_begins l n (unary op p e) ts r is = subst (FirstIs begins_expression) (sym is.1.1.1.2) refl
written_begins l n (binary op p a b) ts r is = written_begins l n a ts is.1.0 is.1.1
written_begins l n (choice p c a b) ts r is = written_begins l n c ts is.1.0 is.1.1
written_begins l n (join p es) ts r is = subst (FirstIs begins_expression) (sym is.1.1) refl
written_begins l n (replication p c es) ts r is =
    subst (FirstIs begins_expression) (sym is.1.1) refl

pub leads_value : {D : Behind} (l : Limits) (n : ℕ) (e : ExpressionTree) →
    Leads (FirstIs begins_expression) D (IsExpression l n e)
unfolding IsExpression
leads_value l n e = record { leads = λ ts r is ends. written_begins l n is.0 ts r is.3 }

-- an expression begins with none of the tokens that pass a test
pub value_refused : {test : Lexeme → Bool}
    → ((x : Lexeme) → begins_expression x ≡ true → test x ≡ true → ⊥)
    → (l : Limits) (n : ℕ) (e : ExpressionTree) → Refuses (FirstIs test) (IsExpression l n e)
value_refused {test = test} differ l n e = record {
  leads = λ ts r is ends.
      let begins = leads_value {D = Anything} l n e in apart ts (begins.leads ts r is tt);
}
  where
    apart : (ts : List Placed) → FirstIs begins_expression ts → FirstIs test ts → ⊥
    apart [] begins passes = passes
    apart (t ∷ ts) begins passes = differ t.lexeme begins passes

-- ---- ranges and labels

abbrev pub is_no_comma : Lexeme → Bool
is_no_comma (sign signs.Comma) = false
is_no_comma x = true

abbrev NotComma : Behind
NotComma = NextIs is_no_comma

pub one_range : (l : Limits) (s t : SpanTree) → AreOne Anything (s ≡ t) (IsRange l s) (IsRange l t)
one_range l s t =
    one_as (λ both i. record { high = both.0 i; low = both.1 i })
    (sign_behind signs.OpenBracket (before_sign signs.CloseBracket
    (around_sign signs.Colon (one_value l 0 s.high t.high) (λ p rest.
    refl) (one_value l 0 s.low t.low))
    (λ p rest. refl)))

one_selector : (x y : List ℕ) →
    AreOne Anything (x ≡ y) (a_sign signs.Comma ⨾ a_name x) (a_sign signs.Comma ⨾ a_name y)
one_selector x y = sign_behind signs.Comma (one_plain x y)

-- a name alone in braces, and one before a parenthesis
point_or_table : (x y : List ℕ) (p q : Place) (P : Form)
    → AreApart (in_braces (name_at x p)) (in_braces (name_at y q ⨾ in_parentheses P))
point_or_table x y p q P =
    apart_then (one_mark signs.OpenBrace) (λ first.
    apart_grouped (apart_then (one_placed x y p q) (λ same.
    words_apart (sign signs.CloseBrace) (sign signs.OpenParenthesis) (λ same. cc)
    (begins_sign signs.CloseBrace)
    (leads_first (leads_first (begins_sign signs.OpenParenthesis))))))

pub one_label : (a b : LabelTree) → AreOne Anything (a ≡ b) (IsLabel a) (IsLabel b)
one_label (point_label x p) (point_label y q) =
    one_as (λ both. ap₂ point_label both.0 both.1)
    (sign_behind signs.OpenBrace (then_sign signs.CloseBrace (one_placed x y p q)))
one_label (point_label x p) (table_label m s t q) = one_apart (point_or_table x m p q _)
one_label (table_label m s t p) (point_label y q) =
    one_apart (apart_turned (point_or_table y m q p _))
one_label (table_label m s t p) (table_label o u v q) =
    one_as (λ both i. table_label (both.0.0 i) (both.1.0 i) (both.1.1 i) (both.0.1 i))
    (sign_behind signs.OpenBrace (then_sign signs.CloseBrace
    (one_then (one_placed m o p q) (λ name.
    sign_behind signs.OpenParenthesis (before_sign signs.CloseParenthesis
    (one_then (one_plain s u) (λ first.
    one_perhaps {D = NotComma} (λ x y. one_anywhere (one_selector x y))
    (λ x. leads_first (leads_sign signs.Comma (λ p rest. false≢true))) t v))
    (λ p rest. refl))))))

pub one_memory_label : (a b : MemoryLabelTree) →
    AreOne Anything (a ≡ b) (IsMemoryLabel a) (IsMemoryLabel b)
one_memory_label (memory_point x p) (memory_point y q) =
    one_as (λ both. ap₂ memory_point both.0 both.1)
    (sign_behind signs.OpenBrace (then_sign signs.CloseBrace (one_placed x y p q)))
one_memory_label (memory_point x p) (by_index y q) = one_apart (point_or_table x y p q _)
one_memory_label (by_index x p) (memory_point y q) =
    one_apart (apart_turned (point_or_table y x q p _))
one_memory_label (by_index x p) (by_index y q) =
    one_as (λ both. ap₂ by_index both.0.0 both.0.1)
    (sign_behind signs.OpenBrace (then_sign signs.CloseBrace
    (one_then (one_placed x y p q) (λ name.
    sign_behind signs.OpenParenthesis
    (then_sign signs.CloseParenthesis (one_mark signs.Hash))))))

-- ---- types

-- what may come behind a type is a name
abbrev pub is_a_name : Lexeme → Bool
is_a_name (identifier x) = true
is_a_name x = false

abbrev pub is_not_signed : Lexeme → Bool
is_not_signed (word words.Signed) = false
is_not_signed x = true

abbrev is_no_brace : Lexeme → Bool
is_no_brace (sign signs.OpenBrace) = false
is_no_brace x = true

abbrev pub NameIs : Behind
NameIs = FirstIs is_a_name

pub first_is : {test : Lexeme → Bool} (next : Lexeme → Bool)
    → ((x : Lexeme) → test x ≡ true → IsTrue (next x)) → (ts : List Placed)
    → FirstIs test ts → NextIs next ts
first_is next so [] first = absurd first
first_is next so (t ∷ ts) first = so t.lexeme first

name_is : (next : Lexeme → Bool) → ((x : List ℕ) → IsTrue (next (identifier x))) → (x : Lexeme) →
    is_a_name x ≡ true → IsTrue (next x)
name_is next so (identifier x) is = so x
name_is next so (word w) is = absurd (false≢true is)
name_is next so (numeral v) is = absurd (false≢true is)
name_is next so (sign s) is = absurd (false≢true is)

pub name_behind : (next : Lexeme → Bool) → ((x : List ℕ) → IsTrue (next (identifier x))) →
    (ts : List Placed) → NameIs ts → NextIs next ts
name_behind next so ts first = first_is next (name_is next so) ts first

pub leads_range : {F D : Behind} (l : Limits) (s : SpanTree) → At F (sign signs.OpenBracket) →
    Leads F D (IsRange l s)
leads_range l s begins = leads_first (leads_sign signs.OpenBracket begins)

leads_label : {F D : Behind} (a : LabelTree) → At F (sign signs.OpenBrace) → Leads F D (IsLabel a)
leads_label (point_label x p) begins = leads_first (leads_sign signs.OpenBrace begins)
leads_label (table_label m s t p) begins = leads_first (leads_sign signs.OpenBrace begins)

leads_memory_label : {F D : Behind} (a : MemoryLabelTree) → At F (sign signs.OpenBrace) →
    Leads F D (IsMemoryLabel a)
leads_memory_label (memory_point x p) begins = leads_first (leads_sign signs.OpenBrace begins)
leads_memory_label (by_index x p) begins = leads_first (leads_sign signs.OpenBrace begins)

-- a range or none, where no `[` comes behind it
one_perhaps_range : (l : Limits) (s t : Option SpanTree) →
    AreOne (NextIs is_no_bracket) (s ≡ t) (perhaps (IsRange l) s) (perhaps (IsRange l) t)
one_perhaps_range l s t =
    one_perhaps (λ a b. one_anywhere (one_range l a b)) (λ a.
    leads_range l a (λ p rest. false≢true)) s t

abbrev NoBrace : Behind
NoBrace = NextIs is_no_brace

-- a form that begins with a `{`, or is nothing before a name
abbrev pub IsLabelled : Form → Type 1
IsLabelled P =
    (F : Behind) → At F (sign signs.OpenBrace) → ((ts : List Placed) → NameIs ts → F ts) →
    Leads F NameIs P

-- `signed` or not and a range or none, and then a label or none
one_words_of_type : {G : Type 0} {P Q : Form} (l : Limits) (b c : Bool) (s t : Option SpanTree)
    → AreOne NoBrace G P Q → IsLabelled P → IsLabelled Q
    → AreOne NameIs ((b ≡ c) × ((s ≡ t) × G)) (flag words.Signed b ⨾ perhaps (IsRange l) s ⨾ P)
    (flag words.Signed c ⨾ perhaps (IsRange l) t ⨾ Q)
one_words_of_type l b c s t labels leads leads_too =
    one_before {F = NextIs is_not_signed} (one_flag words.Signed (λ p rest. false≢true) b c)
    (leads_rest s leads) (leads_rest t leads_too)
    (λ signed. one_before (one_perhaps_range l s t)
    (leads_label_to is_no_bracket (λ p rest. refl) (λ n. refl) leads)
    (leads_label_to is_no_bracket (λ p rest. refl) (λ n. refl) leads_too)
    (λ span. one_where (name_behind is_no_brace (λ n. refl)) labels))
  where
    leads_label_to : {R : Form} (next : Lexeme → Bool) → At (NextIs next) (sign signs.OpenBrace)
        → ((n : List ℕ) → IsTrue (next (identifier n))) → IsLabelled R
        → Leads (NextIs next) NameIs R
    leads_label_to next begins so labelled = labelled (NextIs next) begins (name_behind next so)

    leads_rest : {R : Form} (u : Option SpanTree) → IsLabelled R →
        Leads (NextIs is_not_signed) NameIs (perhaps (IsRange l) u ⨾ R)
    leads_rest u labelled =
        leads_through (leads_perhaps (λ a. leads_range l a (λ p rest. refl)) (λ ts known. known) u)
        (leads_label_to is_not_signed (λ p rest. refl) (λ n. refl) labelled)

is_labelled : (x : Option LabelTree) → IsLabelled (perhaps IsLabel x)
is_labelled x F begins so = leads_perhaps (λ a. leads_label a begins) so x

is_memory_labelled : (x : Option MemoryLabelTree) → IsLabelled (perhaps IsMemoryLabel x)
is_memory_labelled x F begins so = leads_perhaps (λ a. leads_memory_label a begins) so x

pub one_typed : (l : Limits) (d e : DeclarationTree)
    → AreOne NameIs ((d.signed ≡ e.signed) × ((d.span ≡ e.span) × (d.label ≡ e.label)))
    (IsTyped l d) (IsTyped l e)
one_typed l d e = one_words_of_type l d.signed e.signed d.span e.span
    (one_perhaps (λ a b. one_anywhere (one_label a b)) (λ a.
    leads_label a (λ p rest. false≢true)) d.label e.label) (is_labelled d.label)
    (is_labelled e.label)

abbrev pub IsMemoryTyped : Limits → MemoryTree → Form
IsMemoryTyped l m =
    flag words.Signed m.signed ⨾ perhaps (IsRange l) m.span ⨾ perhaps IsMemoryLabel m.label

pub one_memory_typed : (l : Limits) (m n : MemoryTree)
    → AreOne NameIs ((m.signed ≡ n.signed) × ((m.span ≡ n.span) × (m.label ≡ n.label)))
    (IsMemoryTyped l m) (IsMemoryTyped l n)
one_memory_typed l m n = one_words_of_type l m.signed n.signed m.span n.span
    (one_perhaps (λ a b. one_anywhere (one_memory_label a b)) (λ a.
    leads_memory_label a (λ p rest. false≢true)) m.label n.label)
    (is_memory_labelled m.label) (is_memory_labelled n.label)

-- a label of a signal and one of a memory are told apart, or end together
one_of_labels : (a : LabelTree) (b : MemoryLabelTree) →
    AreOne Anything (Unit {0}) (IsLabel a) (IsMemoryLabel b)
one_of_labels (point_label x p) (memory_point y q) =
    one_as (λ both. tt) (sign_behind signs.OpenBrace
    (then_sign signs.CloseBrace (one_placed x y p q)))
one_of_labels (point_label x p) (by_index y q) = one_apart (point_or_table x y p q _)
one_of_labels (table_label m s t p) (memory_point y q) =
    one_apart (apart_turned (point_or_table y m q p _))
one_of_labels (table_label m s t p) (by_index y q) =
    one_apart (apart_then (one_mark signs.OpenBrace) (λ first.
    apart_first (apart_then (one_placed m y p q) (λ name.
    apart_then (one_mark signs.OpenParenthesis) (λ second. apart_first (turned_first s t))))))
  where
    turned_first : (s : List ℕ) (t : Option (List ℕ)) →
        AreApart (a_name s ⨾ perhaps (λ x. a_sign signs.Comma ⨾ a_name x) t) (a_sign signs.Hash)
    turned_first s t =
        words_apart (identifier s) (sign signs.Hash) (λ same.
        cc) (leads_first (begins_plain s)) (begins_sign signs.Hash)

one_of_perhaps_labels : (x : Option LabelTree) (y : Option MemoryLabelTree)
    → AreOne NoBrace (Unit {0}) (perhaps IsLabel x) (perhaps IsMemoryLabel y)
one_of_perhaps_labels None None = one_nothing
one_of_perhaps_labels None (Some b) = one_or_none (leads_memory_label b (λ p rest. false≢true))
one_of_perhaps_labels (Some a) None =
    one_turned (one_or_none (leads_label a (λ p rest. false≢true)))
one_of_perhaps_labels (Some a) (Some b) = one_anywhere (one_of_labels a b)

pub one_of_types : (l : Limits) (d : DeclarationTree) (m : MemoryTree) →
    AreOne NameIs (Unit {0}) (IsTyped l d) (IsMemoryTyped l m)
one_of_types l d m = one_as (λ both. tt) (one_words_of_type l d.signed m.signed d.span m.span
    (one_of_perhaps_labels d.label m.label) (is_labelled d.label) (is_memory_labelled m.label))

-- what is known where a type, or the name behind it, begins
pub leads_typed : {F : Behind} (l : Limits) (d : DeclarationTree) → At F (word words.Signed)
    → At F (sign signs.OpenBracket)
    → At F (sign signs.OpenBrace)
    → ((ts : List Placed) → NameIs ts → F ts) → Leads F NameIs (IsTyped l d)
leads_typed {F = F} l d at_word at_bracket at_brace so =
    leads_through (leads_flag {F = F} {D = F} words.Signed at_word (λ ts known. known) d.signed)
    (leads_through (leads_perhaps {F = F} {D = F} (λ s. leads_range l s at_bracket) (λ ts known.
    known) d.span) (is_labelled d.label F at_brace so))

pub leads_named : {D : Behind} (x : List ℕ) (p : Place) → Leads NameIs D (name_at x p)
leads_named x p = leads_name x p (λ q rest. refl)
