-- Signs, ranges, labels and values of the grammar are what their symbols stand for.
use Rattle.std.proofs.Common.{ℕ, Bool, true, false, List, Option, Some, None, inl, inr, refl, sym}
use Rattle.std.proofs.Common.{subst}
use Rattle.sv_num.specs.declared.faults.Place.{Place}
use Rattle.sv_token.specs.declared.keywords.WordKind.TheVariants as words
use Rattle.sv_token.specs.declared.signs.SignKind.TheVariants as signs
use Rattle.sv_token.specs.Lexemes.{Lexeme, word, identifier, sign, Placed}
use Rattle.sv_ast.specs.Tree.{ExpressionTree, SpanTree, LabelTree, point_label, table_label}
use Rattle.sv_ast.specs.Tree.{DeclarationTree, ParameterTree}
use Rattle.sv_ast.specs.GrammarForms.{Form, ◌⨾◌, nothing, perhaps, flag, name_at, a_sign, a_name}
use Rattle.sv_ast.specs.GrammarExpressions.{Limits}
use Rattle.sv_ast.specs.GrammarDeclarations.{IsValue, IsRange, IsLabel, IsTyped, IsParameterType}
use Rattle.sv_ast.specs.GrammarDeclarations.{IsNamedParameter}
use Rattle.sv_parse_machine.specs.ModuleTable.{perhaps_signed_on, perhaps_range_on, perhaps_label_on}
use Rattle.sv_parse_machine.specs.ModuleTable.{perhaps_second_name_on, parameter_type_on}
use Rattle.sv_parse_machine.proofs.ExpressionForms.{Next, ends_name, ends_tail, expression_form}
use Rattle.sv_parse_machine.proofs.OuterForms.{IsOver, some_name, perhaps_signed_form, perhaps_range_form}
use Rattle.sv_parse_machine.proofs.OuterForms.{perhaps_label_form, label_end_form}
use Rattle.sv_parse_machine.proofs.OuterForms.{perhaps_second_name_form, parameter_type_form}
use Rattle.sv_parse_machine.proofs.StatementSteps.{value_up_to, value_before}
use Rattle.sv_parse_machine.proofs.StatementForms.{expression_tree}
use Rattle.sv_parse_machine.proofs.ListTrees.{next_sign, next_name, next_flag}

-- ---- signs

f_signed : (l : Limits) (b : Bool) (ts rest : List Placed) → flag words.Signed b ts rest
    → Next (λ x. IsOver (perhaps_signed_on x)) rest
    → perhaps_signed_form l ts rest
f_signed l true ts rest is next = inr (rest, is, refl)
f_signed l false ts rest same next =
    inl (subst (Next (λ x. IsOver (perhaps_signed_on x))) (sym same) next, same)

abbrev pub Signed : List Placed → List Placed → Type 0
Signed ts rest = (b : Bool) × flag words.Signed b ts rest

pub b_signed : (l : Limits) (ts rest : List Placed) → perhaps_signed_form l ts rest → Signed ts rest
b_signed l ts rest (inl (next, same)) = (false, same)
b_signed l ts rest (inr (m, is, same)) = subst (Signed ts) same (true, is)

-- ---- ranges

abbrev pub range_form : Limits → Form
range_form l =
    a_sign signs.OpenBracket ⨾ expression_form l 0 ⨾ a_sign signs.Colon ⨾ expression_form l 0
    ⨾ a_sign signs.CloseBracket ⨾ nothing

pub f_some_range : (l : Limits) (s : SpanTree) (ts rest : List Placed) → IsRange l s ts rest →
    range_form l ts rest
f_some_range l s ts rest (m, opens, (m1, (m2, high, (m3, colon, low)), close)) = (
  m,
  opens,
  (
    m2,
    value_before l 0 s.high signs.Colon m m2 m3 tt tt high colon,
    (
      m3,
      colon,
      (
        m1,
        value_before l 0 s.low signs.CloseBracket m3 m1 rest tt tt low
            close,
        (rest, close, refl),
      ),
    ),
  ),
)

abbrev pub SomeRange : Limits → List Placed → List Placed → Type 0
SomeRange l ts rest = (s : SpanTree) × IsRange l s ts rest

pub b_some_range : (l : Limits) (ts rest : List Placed) → range_form l ts rest → SomeRange l ts rest
b_some_range l ts rest (m, opens, (m2, high, (m3, colon, (m1, low, (m4, close, same))))) =
    let first = expression_tree l 0 m m2 high in
    let second = expression_tree l 0 m3 m1 low in
    subst (SomeRange l ts) same (
      record {
        high = first.0;
        low = second.0;
      },
      (m, opens, (m1, (m2, first.1, (m3, colon, second.1)), close)),
    )

next_range : (P : Lexeme → Type 0) (l : Limits) (s : Option SpanTree) (ts mid : List Placed)
    → P (sign signs.OpenBracket) → Next P mid
    → perhaps (IsRange l) s ts mid → Next P ts
next_range P l None ts mid passes behind same = subst (Next P) (sym same) behind
next_range P l (Some s) ts mid passes behind (m, opens, inside) =
    next_sign P signs.OpenBracket ts m passes opens

f_range : (l : Limits) (s : Option SpanTree) (ts rest : List Placed)
    → perhaps (IsRange l) s ts rest
    → Next (λ x. IsOver (perhaps_range_on x)) rest → perhaps_range_form l ts rest
f_range l None ts rest same next =
    inl (subst (Next (λ x. IsOver (perhaps_range_on x))) (sym same) next, same)
f_range l (Some s) ts rest is next = inr (f_some_range l s ts rest is)

abbrev pub Range : Limits → List Placed → List Placed → Type 0
Range l ts rest = (s : Option SpanTree) × perhaps (IsRange l) s ts rest

pub b_range : (l : Limits) (ts rest : List Placed) → perhaps_range_form l ts rest → Range l ts rest
b_range l ts rest (inl (next, same)) = (None, same)
b_range l ts rest (inr is) = let range = b_some_range l ts rest is in (Some range.0, range.1)

-- ---- labels

abbrev pub comma_name : List ℕ → Form
comma_name x = a_sign signs.Comma ⨾ a_name x

pub f_second_name : (l : Limits) (t : Option (List ℕ)) (ts rest : List Placed)
    → perhaps comma_name t ts rest
    → Next (λ x. IsOver (perhaps_second_name_on x)) rest → perhaps_second_name_form l ts rest
f_second_name l None ts rest same next =
    inl (subst (Next (λ x. IsOver (perhaps_second_name_on x))) (sym same) next, same)
f_second_name l (Some x) ts rest (m, comma, name) next = inr (m, comma, (rest, (x, name), refl))

abbrev pub SecondName : List Placed → List Placed → Type 0
SecondName ts rest = (t : Option (List ℕ)) × perhaps comma_name t ts rest

pub b_second_name : (l : Limits) (ts rest : List Placed) → perhaps_second_name_form l ts rest →
    SecondName ts rest
b_second_name l ts rest (inl (next, same)) = (None, same)
b_second_name l ts rest (inr (m, comma, (m1, (x, name), same))) =
    subst (SecondName ts) same (Some x, (m, comma, name))

pub next_label : (P : Lexeme → Type 0) (b : Option LabelTree) (ts mid : List Placed)
    → P (sign signs.OpenBrace) → Next P mid
    → perhaps IsLabel b ts mid → Next P ts
next_label P None ts mid passes behind same = subst (Next P) (sym same) behind
next_label P (Some (point_label x p)) ts mid passes behind (m, opens, inside) =
    next_sign P signs.OpenBrace ts m passes opens
next_label P (Some (table_label x s t p)) ts mid passes behind (m, opens, inside) =
    next_sign P signs.OpenBrace ts m passes opens

pub f_label : (l : Limits) (b : Option LabelTree) (ts rest : List Placed)
    → perhaps IsLabel b ts rest
    → Next (λ x. IsOver (perhaps_label_on x)) rest → perhaps_label_form l ts rest
f_label l None ts rest same next =
    inl (subst (Next (λ x. IsOver (perhaps_label_on x))) (sym same) next, same)
f_label l (Some (point_label x p)) ts rest (m, opens, (m1, name, close)) next =
    inr (m, opens, (m1, (x, (p, name)), (rest, inl (rest, close, refl), refl)))
f_label l (Some (table_label x s t p)) ts rest
    (m, opens, (m1, (m2, name, (m3, first, (m4, (m5, one, other), last))), close)) next =
    inr (
      m,
      opens,
      (
        m2,
        (x, (p, name)),
        (
          rest,
          inr (
            m3,
            first,
            (
              m5,
              (s, one),
              (
                m4,
                f_second_name l t m5 m4 other
                    (next_sign (λ x. IsOver (perhaps_second_name_on x)) signs.CloseParenthesis m4 m1
                    tt last),
                (m1, last, (rest, close, refl)),
              ),
            ),
          ),
          refl,
        ),
      ),
    )

abbrev pub Label : List Placed → List Placed → Type 0
Label ts rest = (b : Option LabelTree) × perhaps IsLabel b ts rest

b_label_end : (l : Limits) (x : List ℕ) (p : Place) (ts m0 m rest : List Placed)
    → a_sign signs.OpenBrace ts m0 → name_at x p m0 m → label_end_form l m rest
    → Label ts rest
b_label_end l x p ts m0 m rest opens name (inl (m1, close, same)) =
    subst (Label ts) same (Some (point_label x p), (m0, opens, (m, name, close)))
b_label_end l x p ts m0 m rest opens name
    (inr (m3, first, (m5, (s, one), (m4, other, (m1, last, (m6, close, same)))))) =
    let second = b_second_name l m5 m4 other in
    subst (Label ts) same (
      Some (table_label x s second.0 p),
      (m0, opens, (m1, (m, name, (m3, first, (m4, (m5, one, second.1), last))), close)),
    )

pub b_label : (l : Limits) (ts rest : List Placed) → perhaps_label_form l ts rest → Label ts rest
b_label l ts rest (inl (next, same)) = (None, same)
b_label l ts rest (inr (m, opens, (m1, (x, (p, name)), (m2, behind, same)))) =
    subst (Label ts) same (b_label_end l x p ts m m1 m2 opens name behind)

-- ---- types

-- sign and range, where a label or a name stands behind them
pub f_signed_range : (l : Limits) (signed : Bool) (span : Option SpanTree) (Q : Form)
    (ts m m1 rest : List Placed) → flag words.Signed signed ts m → perhaps (IsRange l) span m m1
    → ((P : Lexeme → Type 0) → P (sign signs.OpenBrace) → ((x : List ℕ) → P (identifier x))
    → Next P m1) → Q m1 rest
    → (perhaps_signed_form l ⨾ perhaps_range_form l ⨾ Q) ts rest
f_signed_range l signed span Q ts m m1 rest first second next behind = (
  m,
  f_signed l signed ts m first
      (next_range (λ x. IsOver (perhaps_signed_on x)) l span m m1 tt
      (next (λ x. IsOver (perhaps_signed_on x)) tt (λ x. tt)) second),
  (
    m1,
    f_range l span m m1 second (next (λ x. IsOver (perhaps_range_on x)) tt (λ x. tt)),
    behind,
  ),
)

pub f_typed : (l : Limits) (d : DeclarationTree) (Q : Form) (ts mid rest : List Placed)
    → IsTyped l d ts mid → (some_name ⨾ Q) mid rest
    → (perhaps_signed_form l ⨾ perhaps_range_form l ⨾ perhaps_label_form l ⨾ some_name ⨾ Q) ts rest
f_typed l d Q ts mid rest (m, signed, (m1, range, label)) (m2, name, behind) =
    f_signed_range l d.signed d.span (perhaps_label_form l ⨾ some_name ⨾ Q) ts m m1 rest signed
    range
    (λ P opens names. next_label P d.label m1 mid opens (next_name P mid m2 names name) label) (
      mid,
      f_label l d.label m1 mid label (next_name (λ x. IsOver (perhaps_label_on x)) mid m2 (λ x.
          tt) name),
      (m2, name, behind),
    )

-- the first token of sign, range and label, or of what stands behind
pub next_typed : (P : Lexeme → Type 0) (l : Limits) (d : DeclarationTree) (ts mid : List Placed)
    → P (word words.Signed) → P (sign signs.OpenBracket)
    → P (sign signs.OpenBrace) → Next P mid → IsTyped l d ts mid → Next P ts
next_typed P l d ts mid signed_passes range_passes label_passes behind
    (m, signed, (m1, range, label)) =
    next_flag P words.Signed d.signed ts m signed_passes
    (next_range P l d.span m m1 range_passes (next_label P d.label m1 mid label_passes behind label)
    range) signed

-- ---- parameters

pub f_parameter_type :
    (l : Limits) (signed : Bool) (s : Option SpanTree) (ts mid rest : List Placed)
    → IsParameterType l signed s ts mid → some_name mid rest
    → parameter_type_form l ts mid
f_parameter_type l true (Some s) ts mid rest (m, is, range) name =
    inr (inl (m, is, f_some_range l s m mid range))
f_parameter_type l false (Some s) ts mid rest (m, same, range) name =
    inr (inr (subst (λ us. range_form l us mid) (sym same) (f_some_range l s m mid range)))
f_parameter_type l false None ts mid rest same name =
    inl (
      subst (Next (λ x. IsOver (parameter_type_on x))) (sym same)
          (next_name (λ x. IsOver (parameter_type_on x)) mid rest (λ x. tt) name),
      same,
    )
f_parameter_type l true None ts mid rest never name = absurd never

abbrev pub ParameterType : Limits → List Placed → List Placed → Type 0
ParameterType l ts rest =
    (signed : Bool) × (s : Option SpanTree) × IsParameterType l signed s ts rest

pub b_parameter_type : (l : Limits) (ts rest : List Placed) → parameter_type_form l ts rest →
    ParameterType l ts rest
b_parameter_type l ts rest (inl (next, same)) = (false, None, same)
b_parameter_type l ts rest (inr (inl (m, is, range))) =
    let range = b_some_range l m rest range in (true, Some range.0, (m, is, range.1))
b_parameter_type l ts rest (inr (inr range)) =
    let range = b_some_range l ts rest range in (false, Some range.0, (ts, refl, range.1))

-- `name = value`, where what follows is no part of the value
abbrev pub named_parameter_form : Limits → Form
named_parameter_form l = some_name ⨾ a_sign signs.Equals ⨾ expression_form l 0

pub f_named_parameter : (l : Limits) (q : ParameterTree) (ts rest : List Placed)
    → IsNamedParameter l q ts rest → Next ends_name rest → Next ends_tail rest
    → named_parameter_form l ts rest
f_named_parameter l q ts rest (m, name, (m1, sets, value)) name_ends tail_ends = (
  m,
  (q.name, (q.place, name)),
  (m1, sets, value_up_to l 0 q.value m1 rest name_ends tail_ends value),
)

abbrev pub NamedValue : Limits → List Placed → List Placed → Type 0
NamedValue l ts rest =
    (x : List ℕ) × (p : Place) × (e : ExpressionTree)
    × (name_at x p ⨾ a_sign signs.Equals ⨾ IsValue l e) ts rest

pub b_named_parameter : (l : Limits) (ts rest : List Placed) → named_parameter_form l ts rest →
    NamedValue l ts rest
b_named_parameter l ts rest (m, (x, (p, name)), (m1, sets, value)) =
    let tree = expression_tree l 0 m1 rest value in
    (x, p, tree.0, (m, name, (m1, sets, tree.1)))
